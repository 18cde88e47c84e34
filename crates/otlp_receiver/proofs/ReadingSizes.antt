-- The reading of a body takes at most 384 bytes of memory for each byte of the body.
use Rattle.std.proofs.Common.{◌≡◌, refl, sym, ap, ◌∙◌, ℕ, zero, suc, ◌+◌, ◌-◌, ◌*◌, ◌^◌, ◌≤◌}
use Rattle.std.proofs.Common.{List, [], ◌∷◌, length, Bool, true, false, cond, nat_eq, nat_lt, arith}
use Rattle.std.proofs.Common.{Result, Ok, Err, Option, Some, mul-le-mul_left}
use Rattle.std.specs.Prelude.{min, sum_by, unwrap_or}
use Rattle.std.specs.Map.{lookup}
use Rattle.std.proofs.lemmas.Bool.{le-ltb}
use Rattle.std.proofs.lemmas.List.{length-append}
use Rattle.std.proofs.lemmas.List.Sums.{sum_by-cons}
use Rattle.model_message.specs.Reading.{Fault}
use Rattle.model_message.specs.Wire.{Payload, varint, i64, len, i32, Field, field, row_from}
use Rattle.model_message.specs.Wire.{row_after, row}
use Rattle.model_message.specs.Spelling.{IsEnded, IsPayload, IsField}
use Rattle.model_message.proofs.Fields.{takes-field}
use Rattle.otlp_read.specs.Memory.{contents, content_of, content_size, payload_size, field_size}
use Rattle.otlp_read.specs.Memory.{at_most_64_bits, message_size, request_size}

-- ---- how many bytes the fields of a row take at least

-- A field with a length takes at least two bytes, its tag and its length, and those after it.
abbrev least_bytes : Payload → ℕ
least_bytes (len bs) = 2 + length bs
least_bytes _ = 0

abbrev field_least : Field → ℕ
field_least f = least_bytes f.payload

some-bytes : (bs : List ℕ) → IsEnded bs → 1 ≤ length bs
some-bytes [] h = absurd h
some-bytes (b ∷ bs) h = omega arith

payload-takes : (p : Payload) (bs : List ℕ) → IsPayload bs p → least_bytes p ≤ 1 + length bs
payload-takes (varint n) bs h = omega arith
payload-takes (i64 n) bs h = omega arith
payload-takes (len content) bs h =
    let whole : length bs ≡ length h.size + length content =
    ap length h.whole ∙ length-append h.size content in
    omega (arith, whole, some-bytes h.size h.count.ended)
payload-takes (i32 n) bs h = omega arith

field-takes : (bs : List ℕ) (f : Field) → IsField bs f
    → (1 ≤ length bs) × (field_least f ≤ length bs)
field-takes bs f s =
    let whole : length bs ≡ length s.tag + length s.rest =
    ap length s.whole ∙ length-append s.tag s.rest in
    let tag = some-bytes s.tag s.is_tag.ended in
    let rest = payload-takes f.payload s.rest s.payload in
    (omega (arith, whole, tag), omega (arith, whole, tag, rest))

fields-take-at : (b : ℕ) (bs : List ℕ)
    → ((skip : ℕ) → sum_by field_least (row_after skip bs).value ≤ length bs - skip)
    → (r : Result (Field × List ℕ) Fault) → field (b ∷ bs) ≡ r →
    sum_by field_least (row_from r (λ rest. row_after (length bs - length rest) bs)).value
    ≤ length (b ∷ bs)
fields-take-at b bs ih (Err f) e = omega arith
fields-take-at b bs ih (Ok x) e =
    let s = takes-field.found (b ∷ bs) x.1 x.0 e in
    let whole : length (b ∷ bs) ≡ length s.0 + length x.1 =
    ap length s.2 ∙ length-append s.0 x.1 in
    let first = field-takes s.0 x.0 s.1 in
    let more = (row_after (length bs - length x.1) bs).value in
    omega (
      arith,
      whole,
      first.0,
      first.1,
      ih (length bs - length x.1),
      sum_by-cons field_least x.0 more,
    )

fields-take-after : (bs : List ℕ) (skip : ℕ)
    → sum_by field_least (row_after skip bs).value ≤ length bs - skip
unfolding row_after
fields-take-after [] zero = omega arith
fields-take-after [] (suc skip) = omega arith
fields-take-after (b ∷ bs) (suc skip) = omega (arith, fields-take-after bs skip)
fields-take-after (b ∷ bs) zero =
    omega (arith, fields-take-at b bs (fields-take-after bs) (field (b ∷ bs)) refl)

-- The fields of some bytes take no more than these.
fields-take : (bs : List ℕ) → sum_by field_least (row bs).value ≤ length bs
unfolding row
fields-take bs = omega (arith, fields-take-after bs 0)

-- ---- how many bytes of memory they take at most

-- each of these takes at most so many
abbrev AreAtMost : {C : Type 0} → ℕ → (C → ℕ) → List (ℕ × C) → Type 0
AreAtMost most size [] = Unit {0}
AreAtMost most size (c ∷ cs) = (size c.1 ≤ most) × AreAtMost most size cs

found-first : {C : Type 0} (size : C → ℕ) (most : ℕ) (none c : C) (o : Option C) (is : Bool)
    → size c ≤ most → size (unwrap_or o none) ≤ most
    → size (unwrap_or (cond is (Some c) o) none) ≤ most
found-first size most none c o true h k = h
found-first size most none c o false h k = k

-- What is looked up among these takes at most so many, too.
found-at-most : {C : Type 0} (size : C → ℕ) (most : ℕ) (none : C) (test : ℕ → Bool)
    (cs : List (ℕ × C)) → size none ≤ most → AreAtMost most size cs
    → size (unwrap_or (lookup test cs) none) ≤ most
found-at-most size most none test [] l h = l
found-at-most size most none test (c ∷ cs) l h =
    found-first size most none c.1 (lookup test cs) (test c.0) h.0
    (found-at-most size most none test cs l h.1)

-- A message takes at most 768 bytes, as a span does, besides what is kept of its fields. The kinds
-- of messages have no names here, so `grind` goes through them.
contents-at-most : (size : _ → List ℕ → ℕ) (kind : _) (bs : List ℕ) (most : ℕ)
    → ((kind : _) → 768 + size kind bs ≤ most) → length bs ≤ most
    → AreAtMost most (λ c. content_size size c bs) (contents kind)
contents-at-most size kind bs most h l = grind arith

payload-at-most : (size : _ → List ℕ → ℕ)
    → ((kind : _) (bs : List ℕ) → size kind bs ≤ 384 * length bs) → (kind : _) (number : ℕ)
    (p : Payload) → payload_size size (content_of kind number) p ≤ 384 * least_bytes p
payload-at-most size h kind number (varint n) = omega arith
payload-at-most size h kind number (i64 n) = omega arith
payload-at-most size h kind number (len bs) =
    found-at-most (λ c. content_size size c bs) (384 * (2 + length bs)) _ (nat_eq number)
    (contents kind) (omega arith)
    (contents-at-most size kind bs (384 * (2 + length bs)) (λ inner. omega (arith, h inner bs))
    (omega arith))
payload-at-most size h kind number (i32 n) = omega arith

fields-at-most : (size : _ → List ℕ → ℕ)
    → ((kind : _) (bs : List ℕ) → size kind bs ≤ 384 * length bs) → (kind : _)
    (fields : List Field) → sum_by (field_size size kind) fields ≤ 384 * sum_by field_least fields
fields-at-most size h kind [] = omega arith
fields-at-most size h kind (f ∷ fields) =
    omega (
      arith,
      sum_by-cons (field_size size kind) f fields,
      sum_by-cons field_least f fields,
      payload-at-most size h kind f.number f.payload,
      fields-at-most size h kind fields,
    )

message-at-most : (depth : ℕ) (kind : _) (bs : List ℕ)
    → message_size depth kind bs ≤ 384 * length bs
unfolding message_size
message-at-most zero kind bs = omega arith
message-at-most (suc depth) kind bs =
    omega (
      arith,
      fields-take bs,
      fields-at-most (message_size depth) (message-at-most depth) kind (row bs).value,
    )

-- The reading of a body takes at most 384 bytes for each of the body.
pub request-at-most : (body : List ℕ) → request_size body ≤ 384 * length body
request-at-most body = message-at-most 200 _ body

-- Where there is room for 384 bytes or more for each byte of a content, there is for its reading.
pub not-above : (content : List ℕ) (each most room : ℕ)
    → most ≡ min (length content * each) (2 ^ 64 - 1) → most ≤ room → 384 ≤ each
    → false ≡ nat_lt room (at_most_64_bits (request_size content))
not-above content each most room e l enough =
    let bytes : length content * 384 ≤ length content * each =
    mul-le-mul_left (length content) enough in
    sym (le-ltb room (at_most_64_bits (request_size content))
    (omega (arith, request-at-most content, e, l, bytes)))
