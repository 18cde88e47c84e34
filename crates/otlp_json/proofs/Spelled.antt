-- What a tag, a payload and a length make of bytes.
use Rattle.std.proofs.Common.{◌≡◌, ℕ, ◌+◌, ◌*◌, ◌≤◌, List, [], ◌++◌, Result, Ok, refl}
use Rattle.std.proofs.Common.{sym, ap, subst, ◌∙◌, append_assoc, append-nil, take, drop, length}
use Rattle.std.proofs.Common.{arith, ◌-◌, length-append, length-drop}
use Rattle.std.proofs.Math.Seq.{take-append_seam, drop-append_seam}
use Rattle.std.proofs.lemmas.List.{take-append-le, drop-append-le, length-take-le, take_at}
use Rattle.std.proofs.lemmas.List.{take_all, drop_all}
use Rattle.model_message.specs.Wire.{Payload, varint}
use Rattle.model_message.specs.Messages.{wire_type}
use Rattle.model_message.specs.Canon.{shortest, payload_bytes, field_bytes, bytes_field}
use Rattle.otlp_json.specs.declared.fault.JsonFault.{JsonFault}

-- A tag and the payload after it are the bytes of the field.
pub tagged : (n tag : ℕ) (p : Payload) (old mid new : List ℕ) → tag ≡ n * 8 + wire_type p
    → mid ≡ old ++ payload_bytes (varint tag) → new ≡ mid ++ payload_bytes p
    → let after : Result (List ℕ) JsonFault =
    Ok (old ++ field_bytes (record { number = n; payload = p })) in
    after ≡ Ok new
unfolding field_bytes payload_bytes
tagged n tag p old mid new t m e =
    ap Ok (sym (e ∙ ap (λ bs. bs ++ payload_bytes p) (m ∙ ap (λ k. old ++ shortest k) t)
    ∙ append_assoc old (shortest (n * 8 + wire_type p)) (payload_bytes p)))

-- what the last bytes of some are with the first of them moved behind the others, and what comes
-- after the part
abbrev turned : ℕ → ℕ → List ℕ → List ℕ
turned s k xs =
    let part = take (length xs - s) (drop s xs) in
    drop (length part - k) part ++ take (length part - k) part

abbrev put_back : ℕ → List ℕ → List ℕ → List ℕ
put_back s rot xs = take s xs ++ (rot ++ drop (length xs - s) (drop s xs))

-- All bytes from a place on are the part of them that has all.
part-is : (s : ℕ) (o h : List ℕ) → s ≤ length o
    → take (length (o ++ h) - s) (drop s (o ++ h)) ≡ drop s o ++ h
part-is s o h le =
    take_all (length (o ++ h) - s) (drop s (o ++ h)) (omega (arith, length-drop s (o ++ h)))
    ∙ drop-append-le s o h le

-- The bytes that were appended come before those from the place on.
turned-is : (s k : ℕ) (o h : List ℕ) → s ≤ length o → k ≡ length h
    → turned s k (o ++ h) ≡ h ++ drop s o
turned-is s k o h le count =
    let part = part-is s o h le in
    let left : length (drop s o ++ h) - k ≡ length (drop s o) =
    omega (arith, length-append (drop s o) h) in
    rw (part, left, drop-append_seam (drop s o) h, take-append_seam (drop s o) h) refl

brought-at : (s k len : ℕ) (o h rot rest : List ℕ) → s ≤ length o → k ≡ length h
    → length (o ++ h) ≡ len → rot ≡ turned s k (o ++ h)
    → take len (put_back s rot (o ++ h) ++ rest) ≡ take s o ++ (h ++ drop s o)
brought-at s k len o h rot rest le count size is =
    let none : drop (length (o ++ h) - s) (drop s (o ++ h)) ≡ [] =
    drop_all (length (o ++ h) - s) (drop s (o ++ h)) (omega (arith, length-drop s (o ++ h))) in
    let front : take s (o ++ h) ≡ take s o = take-append-le s o h le in
    let back : rot ≡ h ++ drop s o = is ∙ turned-is s k o h le count in
    let body : put_back s rot (o ++ h) ≡ take s o ++ (h ++ drop s o) =
    rw (none, front, back) (ap (λ bs. take s o ++ bs) (append-nil (h ++ drop s o))) in
    let sized : length (take s o ++ (h ++ drop s o)) ≡ len =
    omega (
      arith,
      length-append (take s o) (h ++ drop s o),
      length-append h (drop s o),
      length-drop s o,
      length-take-le s o le,
      length-append o h,
    ) in
    ap (λ bs. take len (bs ++ rest)) body ∙ take_at (take s o ++ (h ++ drop s o)) rest len sized

-- Bytes that were appended, and then brought to a place by a turn of all from there on, are before
-- those that were there.
pub brought : (s k len : ℕ) (o h xs rot rest : List ℕ) → s ≤ length o → k ≡ length h → xs ≡ o ++ h
    → length xs ≡ len → rot ≡ turned s k xs
    → take len (put_back s rot xs ++ rest) ≡ take s o ++ (h ++ drop s o)
brought s k len o h xs rot rest le count e =
    let P : List ℕ → Type 0 = λ ys. length ys ≡ len → rot ≡ turned s k ys
    → take len (put_back s rot ys ++ rest) ≡ take s o ++ (h ++ drop s o) in
    subst P (sym e) (brought-at s k len o h rot rest le count)

-- A tag and a length before content are the bytes of the field that has the content.
pub headed : (n : ℕ) (content : List ℕ)
    → (payload_bytes (varint (n * 8 + 2)) ++ payload_bytes (varint (length content))) ++ content
    ≡ field_bytes (bytes_field n content)
unfolding field_bytes payload_bytes
headed n content = append_assoc (shortest (n * 8 + 2)) (shortest (length content)) content
