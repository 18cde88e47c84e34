-- What is at a place where no field is, against the faults of the reader.
use Rattle.std.proofs.Common.{◌≡◌, ◌≢◌, ◌⊎◌, inl, inr, refl, sym, ap, subst, ◌∙◌, ℕ, List, [], ◌∷◌}
use Rattle.std.proofs.Common.{◌++◌, length, replicate, Result, Ok, Err, ◌↔◌, append-nil, arith}
use Rattle.std.proofs.Common.{append_assoc, Bool, true, false, nat_lt, ◌<◌, ◌-◌, ◌%◌, ◌/◌, ◌^◌}
use Rattle.std.proofs.lemmas.List.{length-append, length-replicate}
use Rattle.std.proofs.lemmas.Nat.{div-add-mod', mod_below}
use Rattle.std.proofs.lemmas.Bool.{ltb-true, ltb-false, and_parts}
use Rattle.std.specs.Int.{w32, w64, from_le_bytes}
use Rattle.model_message.specs.Reading.{Fault, truncated, long_varint, bad_number, group}
use Rattle.model_message.specs.Reading.{bad_wire_type, bad_utf8, too_deep}
use Rattle.model_message.specs.Wire.{Front, Payload, varint, i64, len, i32, field, number}
use Rattle.model_message.specs.Wire.{is_field_number}
use Rattle.model_message.specs.Messages.{wire_type}
use Rattle.model_message.specs.Spelling.{IsEnded, number_of_septets, IsVarint, IsCounted, IsPayload}
use Rattle.model_message.specs.Spelling.{IsField}
use Rattle.model_message.proofs.Fronts.{Takes, err-ok, prefix-free}
use Rattle.model_message.proofs.Varints.{takes-number}
use Rattle.model_message.proofs.Fields.{takes-field}
use Rattle.law_export.specs.Faults.{AreHigh, IsLongVarint, HasTag, IsCutOff, Stands}
use Rattle.law_export.proofs.Refusals.{Refuses, IsLong, NoVarint, NoBytes, NoPayload, of_varint}
use Rattle.law_export.proofs.Refusals.{of_fixed64, of_bytes, of_fixed32, of_group, of_type, NoRest}
use Rattle.law_export.proofs.Refusals.{NoField, refuses-number, refuses-field}

-- ---- what is cut off begins something

high-ended : (bs : List ℕ) → AreHigh bs → IsEnded (bs ++ 0 ∷ [])
high-ended [] h = omega arith
high-ended (b ∷ []) h = (h.0, omega arith)
high-ended (b ∷ c ∷ bs) h = (h.0, high-ended (c ∷ bs) h.1)

closed-varint : (bs : List ℕ) → AreHigh bs → length bs < 10
    → IsVarint (bs ++ 0 ∷ []) (number_of_septets (bs ++ 0 ∷ []) % 2 ^ 64)
closed-varint bs h l =
    record { ended = high-ended bs h; size = simp length-append (omega (arith, l)); value = refl }

some : (b : ℕ) (bs : List ℕ) → b ∷ bs ≢ []
some b bs e = omega (arith, ap length e)

-- Fewer bytes than a number can be filled up to this number.
filled : (n : ℕ) (bs : List ℕ) → length bs < n
    → (more : List ℕ) × (more ≢ []) × (length (bs ++ more) ≡ n)
filled n bs l = (
  replicate (n - length bs) 0,
  (λ e. omega (arith, l, sym (length-replicate (n - length bs) 0) ∙ ap length e)),
  simp (length-append, length-replicate) (omega (arith, l)),
)

-- A tag with a payload after it is a field.
a-field : (tag : ℕ) (front rest more : List ℕ) (p : Payload) → IsVarint front tag
    → is_field_number (tag / 8) ≡ true → wire_type p ≡ tag % 8 → IsPayload (rest ++ more) p
    → (bs : List ℕ) → bs ≡ front ++ rest →
    IsField (bs ++ more) (record { number = tag / 8; payload = p })
a-field tag front rest more p v ok type h bs e = let range = and_parts _ _ ok in record {
  tag = front;
  rest = rest ++ more;
  is_tag = subst (λ n. IsVarint front n) (omega (arith, div-add-mod' tag 8, type)) v;
  positive = ltb-true _ _ range.0;
  in_range = ltb-true _ _ range.1;
  payload = h;
  whole = ap (λ l. l ++ more) e ∙ append_assoc front rest more;
}

-- more bytes make a payload of this wire type
abbrev Completes : ℕ → List ℕ → Type 0
Completes wire rest =
    (more : List ℕ) × (more ≢ []) × (p : Payload) × (wire_type p ≡ wire)
    × IsPayload (rest ++ more) p

counted : (rest size content : List ℕ) (n : ℕ) → IsVarint size n → length content ≡ n
    → rest ≡ size ++ content → IsCounted rest content
counted rest size content n v l e =
    record { size = size; count = subst (λ m. IsVarint size m) (sym l) v; whole = e }

complete-bytes : (rest : List ℕ) → AreHigh rest → length rest < 10 → Completes 2 rest
complete-bytes rest h l =
    let n : ℕ = number_of_septets (rest ++ 0 ∷ []) % 2 ^ 64 in (
      0 ∷ replicate n 0,
      some 0 (replicate n 0),
      len (replicate n 0),
      refl,
      counted (rest ++ 0 ∷ replicate n 0) (rest ++ 0 ∷ []) (replicate n 0) n
          (closed-varint rest h l) (length-replicate n 0)
          (sym (append_assoc rest (0 ∷ []) (replicate n 0))),
    )

complete-content : (rest size content : List ℕ) (n : ℕ) → IsVarint size n → length content < n
    → rest ≡ size ++ content → Completes 2 rest
complete-content rest size content n v l e = let more = filled n content l in (
  more.0,
  more.1,
  len (content ++ more.0),
  refl,
  counted (rest ++ more.0) size (content ++ more.0) n v more.2
      (ap (λ z. z ++ more.0) e ∙ append_assoc size content more.0),
)

complete-fixed64 : (rest : List ℕ) → length rest < 8 → Completes 1 rest
complete-fixed64 rest l =
    let more = filled 8 rest l in
    (more.0, more.1, i64 (from_le_bytes w64 (rest ++ more.0)), refl, (more.2, refl))

complete-fixed32 : (rest : List ℕ) → length rest < 4 → Completes 5 rest
complete-fixed32 rest l =
    let more = filled 4 rest l in
    (more.0, more.1, i32 (from_le_bytes w32 (rest ++ more.0)), refl, (more.2, refl))

at : (wire n : ℕ) (rest : List ℕ) → wire ≡ n → Completes n rest → Completes wire rest
at wire n rest e h = subst (λ w. Completes w rest) (sym e) h

-- what is wrong with a payload, by the fault
abbrev PayloadStands : Fault → ℕ → List ℕ → Type 0
PayloadStands truncated wire rest = Completes wire rest
PayloadStands long_varint wire rest = ((wire ≡ 0) ⊎ (wire ≡ 2)) × IsLong 10 rest
PayloadStands bad_number wire rest = ⊥
PayloadStands group wire rest = (wire ≡ 3) ⊎ (wire ≡ 4)
PayloadStands bad_wire_type wire rest = 5 < wire
PayloadStands bad_utf8 wire rest = ⊥
PayloadStands too_deep wire rest = ⊥

as-payload : (f g : Fault) (wire : ℕ) (rest : List ℕ) → f ≡ g → PayloadStands g wire rest
    → PayloadStands f wire rest
as-payload f g wire rest e h = subst (λ k. PayloadStands k wire rest) (sym e) h

payload-stands : (wire : ℕ) (rest : List ℕ) (f : Fault) → NoPayload wire rest f
    → PayloadStands f wire rest
payload-stands wire rest f (of_varint w (inl h)) =
    as-payload f truncated wire rest h.2
    (at wire 0 rest w (
      0 ∷ [],
      some 0 [],
      varint (number_of_septets (rest ++ 0 ∷ []) % 2 ^ 64),
      refl,
      closed-varint rest h.0 h.1,
    ))
payload-stands wire rest f (of_varint w (inr h)) =
    as-payload f long_varint wire rest h.1 (inl w, h.0)
payload-stands wire rest f (of_fixed64 w h) =
    as-payload f truncated wire rest h.1 (at wire 1 rest w (complete-fixed64 rest h.0))
payload-stands wire rest f (of_bytes w (inl (inl h))) =
    as-payload f truncated wire rest h.2 (at wire 2 rest w (complete-bytes rest h.0 h.1))
payload-stands wire rest f (of_bytes w (inl (inr h))) =
    as-payload f long_varint wire rest h.1 (inr w, h.0)
payload-stands wire rest f (of_bytes w (inr s)) =
    as-payload f truncated wire rest s.4.1
    (at wire 2 rest w (complete-content rest s.1 s.2 s.0 s.3 s.4.0 s.5))
payload-stands wire rest f (of_fixed32 w h) =
    as-payload f truncated wire rest h.1 (at wire 5 rest w (complete-fixed32 rest h.0))
payload-stands wire rest f (of_group w h) = as-payload f group wire rest h w
payload-stands wire rest f (of_type w h) = as-payload f bad_wire_type wire rest h w

-- ---- a field

long-varint : (bs : List ℕ) → IsLong 10 bs → IsLongVarint bs
long-varint bs h = record { front = h.0; rest = h.1; high = h.2; size = h.3; whole = h.4 }

from-long : (bs : List ℕ) → IsLongVarint bs → IsLong 10 bs
from-long bs h = (h.front, h.rest, h.high, h.size, h.whole)

six-or-seven : (wire : ℕ) → 5 < wire → wire < 8 → (wire ≡ 6) ⊎ (wire ≡ 7)
six-or-seven wire l m = go (nat_lt wire 7) refl
  where
    go : (b : Bool) → nat_lt wire 7 ≡ b → (wire ≡ 6) ⊎ (wire ≡ 7)
    go true e = inl (omega (arith, l, ltb-true wire 7 e))
    go false e = inr (omega (arith, m, ltb-false wire 7 e))

of-payload : (f : Fault) (bs front rest : List ℕ) (tag : ℕ) → IsVarint front tag
    → bs ≡ front ++ rest → is_field_number (tag / 8) ≡ true → PayloadStands f (tag % 8) rest
    → Stands f bs
of-payload truncated bs front rest tag v e ok h = (
  h.0,
  h.1,
  inl (
    record { number = tag / 8; payload = h.2 },
    a-field tag front rest h.0 h.2 v ok h.3 h.4 bs e,
  ),
)
of-payload long_varint bs front rest tag v e ok h =
    inr (tag, rest, record { front = front; spelled = v; whole = e }, ok, h.0, long-varint rest h.1)
of-payload bad_number bs front rest tag v e ok h = absurd h
of-payload group bs front rest tag v e ok h =
    (tag, rest, record { front = front; spelled = v; whole = e }, ok, h)
of-payload bad_wire_type bs front rest tag v e ok h = (
  tag,
  rest,
  record { front = front; spelled = v; whole = e },
  ok,
  six-or-seven (tag % 8) h (mod_below tag 8 (omega arith)),
)
of-payload bad_utf8 bs front rest tag v e ok h = absurd h
of-payload too_deep bs front rest tag v e ok h = absurd h

as-stands : (f g : Fault) (bs : List ℕ) → f ≡ g → Stands g bs → Stands f bs
as-stands f g bs e h = subst (λ k. Stands k bs) (sym e) h

stands : (bs : List ℕ) (f : Fault) → NoField bs f → Stands f bs
stands bs f (inl (inl h)) =
    as-stands f truncated bs h.2
    (0 ∷ [], some 0 [], inr (number_of_septets (bs ++ 0 ∷ []) % 2 ^ 64, closed-varint bs h.0 h.1))
stands bs f (inl (inr h)) = as-stands f long_varint bs h.1 (inl (long-varint bs h.0))
stands bs f (inr s) = elim s.4 [
  | inl h ↦ of-payload f bs s.1 s.2 s.0 s.3 s.5 h.0 (payload-stands (s.0 % 8) s.2 f h.1)
  | inr h ↦
      as-stands f bad_number bs h.1
      (s.0, s.2, record { front = s.1; spelled = s.3; whole = s.5 }, h.0)
]

-- ---- more bytes mend only what is cut off

abbrev Stays : (List ℕ → Fault → Type 0) → Type 0
Stays F = (bs more : List ℕ) (f : Fault) → F bs f → (f ≡ truncated) ⊎ F (bs ++ more) f

appended : (bs front rest more : List ℕ) → bs ≡ front ++ rest → bs ++ more ≡ front ++ (rest ++ more)
appended bs front rest more e = ap (λ l. l ++ more) e ∙ append_assoc front rest more

varint-stays : Stays NoVarint
varint-stays bs more f (inl h) = inl h.2
varint-stays bs more f (inr h) =
    inr (inr ((h.0.0, h.0.1 ++ more, h.0.2, h.0.3, appended bs h.0.0 h.0.1 more h.0.4), h.1))

bytes-stays : Stays NoBytes
bytes-stays bs more f (inl h) =
    elim (varint-stays bs more f h) [ inl e ↦ inl e | inr s ↦ inr (inl s) ]
bytes-stays bs more f (inr s) = inl s.4.1

payload-stays : (wire : ℕ) → Stays (NoPayload wire)
payload-stays wire bs more f (of_varint w h) =
    elim (varint-stays bs more f h) [ inl e ↦ inl e | inr s ↦ inr (of_varint w s) ]
payload-stays wire bs more f (of_fixed64 w h) = inl h.1
payload-stays wire bs more f (of_bytes w h) =
    elim (bytes-stays bs more f h) [ inl e ↦ inl e | inr s ↦ inr (of_bytes w s) ]
payload-stays wire bs more f (of_fixed32 w h) = inl h.1
payload-stays wire bs more f (of_group w h) = inr (of_group w h)
payload-stays wire bs more f (of_type w h) = inr (of_type w h)

rest-stays : (tag : ℕ) → Stays (NoRest tag)
rest-stays tag bs more f (inl h) =
    elim (payload-stays (tag % 8) bs more f h.1) [ inl e ↦ inl e | inr s ↦ inr (inl (h.0, s)) ]
rest-stays tag bs more f (inr h) = inr (inr h)

field-stays : Stays NoField
field-stays bs more f (inl h) =
    elim (varint-stays bs more f h) [ inl e ↦ inl e | inr s ↦ inr (inl s) ]
field-stays bs more f (inr s) = elim (rest-stays s.0 s.2 more f s.4) [
  | inl e ↦ inl e
  | inr t ↦ inr (inr (s.0, s.1, s.2 ++ more, s.3, t, appended bs s.1 s.2 more s.5))
]

-- A reader refuses a proper beginning of what it takes as cut off.
cut-off : {A : Type 0} (p : Front A) (S : List ℕ → A → Type 0) (F : List ℕ → Fault → Type 0)
    → Takes p S → Refuses p F → Stays F →
    (bs more : List ℕ) (x : A) → more ≢ [] → S (bs ++ more) x → p bs ≡ Err truncated
cut-off {A = A} p S F tp hp stays bs more x more_some s = go (p bs) refl
  where
    whole : p (bs ++ more) ≡ Ok (x, [])
    whole = ap p (sym (append-nil (bs ++ more))) ∙ tp.again (bs ++ more) [] x s

    go : (r : Result (A × List ℕ) Fault) → p bs ≡ r → p bs ≡ Err truncated
    go (Ok y) e =
        let t = tp.found bs y.1 y.0 e in
        let same =
        prefix-free p S tp t.0 (bs ++ more) (y.1 ++ more) [] y.0 x t.1 s
        (sym (append_assoc t.0 y.1 more) ∙ ap (λ l. l ++ more) (sym t.2)
        ∙ sym (append-nil (bs ++ more))) in
        absurd (longer bs more t.0 y.1 more_some t.2 same.0)
      where
        longer : (bs more front rest : List ℕ) → more ≢ [] → bs ≡ front ++ rest → front ≡ bs ++ more
            → ⊥
        longer bs [] front rest none e h = none refl
        longer bs (b ∷ more) front rest none e h =
            omega (
              arith,
              ap length e ∙ length-append front rest,
              ap length h ∙ length-append bs (b ∷ more),
            )
    go (Err f) e = elim (stays bs more f (hp.found bs f e)) [
      | inl same ↦ e ∙ ap Err same
      | inr t ↦ absurd (err-ok f (x, []) (sym (hp.again (bs ++ more) f t) ∙ whole))
    ]

cut : (bs : List ℕ) → IsCutOff bs → field bs ≡ Err truncated
cut bs (more, other, inl s) =
    cut-off field IsField NoField takes-field refuses-field field-stays bs more s.0 other s.1
cut bs (more, other, inr s) =
    refuses-field.again bs truncated
    (inl (refuses-number.found bs truncated
    (cut-off number IsVarint NoVarint takes-number refuses-number varint-stays bs more s.0 other
    s.1)))

refuse : (bs : List ℕ) (f : Fault) → NoField bs f → field bs ≡ Err f
refuse = refuses-field.again

tagged : (bs rest : List ℕ) (tag : ℕ) (f : Fault) → HasTag bs tag rest → NoRest tag rest f
    → field bs ≡ Err f
tagged bs rest tag f t h = refuse bs f (inr (tag, t.front, rest, t.spelled, h, t.whole))

long-payload : (wire : ℕ) (rest : List ℕ) → (wire ≡ 0) ⊎ (wire ≡ 2) → IsLongVarint rest
    → NoPayload wire rest long_varint
long-payload wire rest (inl w) h = of_varint w (inr (from-long rest h, refl))
long-payload wire rest (inr w) h = of_bytes w (inl (inr (from-long rest h, refl)))

above-five : (wire : ℕ) → (wire ≡ 6) ⊎ (wire ≡ 7) → 5 < wire
above-five wire (inl e) = omega (arith, e)
above-five wire (inr e) = omega (arith, e)

back : (bs : List ℕ) (f : Fault) → Stands f bs → field bs ≡ Err f
back bs truncated h = cut bs h
back bs long_varint (inl h) = refuse bs long_varint (inl (inr (from-long bs h, refl)))
back bs long_varint (inr h) =
    tagged bs h.1 h.0 long_varint h.2 (inl (h.3, long-payload (h.0 % 8) h.1 h.4 h.5))
back bs bad_number h = tagged bs h.1 h.0 bad_number h.2 (inr (h.3, refl))
back bs group h = tagged bs h.1 h.0 group h.2 (inl (h.3, of_group h.4 refl))
back bs bad_wire_type h =
    tagged bs h.1 h.0 bad_wire_type h.2 (inl (h.3, of_type (above-five (h.0 % 8) h.4) refl))
back bs bad_utf8 h = absurd h
back bs too_deep h = absurd h

-- The front of some bytes is refused with a fault just where what the fault says is there.
pub faults-stand : (bs : List ℕ) (f : Fault) → (field bs ≡ Err f) ↔ Stands f bs
faults-stand bs f = (λ e. stands bs f (refuses-field.found bs f e), back bs f)
