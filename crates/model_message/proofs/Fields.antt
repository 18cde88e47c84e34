-- Reading and writing a field.
use Rattle.std.proofs.Common.{◌≡◌, refl, sym, ap, subst, ◌∙◌, ℕ, List, ◌++◌, length, arith, nat_lt}
use Rattle.std.proofs.Common.{cond, Bool, true, false, ◌<◌, ◌+◌, ◌*◌, ◌%◌, ◌/◌, ◌^◌, ◌==◌}
use Rattle.std.specs.Int.{w32, w64, from_le_bytes}
use Rattle.std.proofs.lemmas.Bool.{ltb-true, lt-ltb, eqb-true, eqb-false, true≢false, and_parts}
use Rattle.std.proofs.lemmas.Bool.{and_from}
use Rattle.std.proofs.lemmas.Nat.{div-add-mod', div-mul-add, mod-mul-add}
use Rattle.model_message.specs.Reading.{bad_number}
use Rattle.model_message.specs.Wire.{Front, fail, number, payload, counted_bytes, next_bytes}
use Rattle.model_message.specs.Wire.{map_front, field, Field, Payload, varint, i64, len, i32}
use Rattle.model_message.specs.Wire.{is_field_number}
use Rattle.model_message.specs.Messages.{wire_type}
use Rattle.model_message.specs.Spelling.{IsVarint, IsCounted, IsPayload, IsField}
use Rattle.model_message.proofs.Fronts.{Takes, takes-bind, takes-fail, takes-as, takes-map}
use Rattle.model_message.proofs.Fronts.{takes-next, Both}
use Rattle.model_message.proofs.Varints.{takes-number}

takes-cond : {A : Type 0} (b : Bool) (p q : Front A) (S : List ℕ → A → Type 0)
    → (b ≡ true → Takes p S) → (b ≡ false → Takes q S) → Takes (cond b p q) S
takes-cond true p q S hp hq = hp refl
takes-cond false p q S hp hq = hq refl

takes-counted : Takes counted_bytes IsCounted
takes-counted =
    takes-as _ _ _
    (takes-bind number next_bytes IsVarint
    (λ n bs x. (length bs ≡ n) × (x ≡ bs)) takes-number takes-next)
    (λ bs x. (
      λ s. record {
        size = s.1;
        count = subst (λ n. IsVarint s.1 n) (sym s.4.0 ∙ ap length (sym s.4.1)) s.3;
        whole = s.5 ∙ ap (λ l. s.1 ++ l) (sym s.4.1);
      },
      λ c. (length x, c.size, x, c.count, (refl, refl), c.whole),
    ))

-- The bytes spell the payload, which has this wire type.
abbrev Under : ℕ → List ℕ → Payload → Type 0
Under wire bs p = (wire_type p ≡ wire) × IsPayload bs p

-- Where a constructor makes just the payloads of its wire type, they are read just where one is
-- spelled.
under : {X : Type 0} (wire : ℕ) (make : X → Payload) (S : List ℕ → X → Type 0) (p : Front X)
    → Takes p S → ((x : X) → wire_type (make x) ≡ wire) →
    ((bs : List ℕ) (x : X) → S bs x → IsPayload bs (make x))
    → ((bs : List ℕ) (y : Payload) → Under wire bs y → (x : X) × S bs x × (y ≡ make x))
    → Takes (map_front make p) (Under wire)
under wire make S p hp type into out = takes-as _ _ _ (takes-map make p S hp) (λ bs y.
    (λ s. subst (λ q. Under wire bs q) (sym s.2) (type s.0, into bs s.0 s.1), out bs y))

is-varint : (bs : List ℕ) (y : Payload) → Under 0 bs y → (x : ℕ) × IsVarint bs x × (y ≡ varint x)
is-varint bs (varint n) u = (n, u.1, refl)
is-varint bs (i64 n) u = absurd (omega (arith, u.0))
is-varint bs (len b) u = absurd (omega (arith, u.0))
is-varint bs (i32 n) u = absurd (omega (arith, u.0))

is-fixed64 : (bs : List ℕ) (y : Payload) → Under 1 bs y
    → (x : List ℕ) × ((length bs ≡ 8) × (x ≡ bs)) × (y ≡ i64 (from_le_bytes w64 x))
is-fixed64 bs (varint n) u = absurd (omega (arith, u.0))
is-fixed64 bs (i64 n) u = (bs, (u.1.0, refl), ap i64 u.1.1)
is-fixed64 bs (len b) u = absurd (omega (arith, u.0))
is-fixed64 bs (i32 n) u = absurd (omega (arith, u.0))

is-bytes : (bs : List ℕ) (y : Payload) → Under 2 bs y → (x : List ℕ) × IsCounted bs x × (y ≡ len x)
is-bytes bs (varint n) u = absurd (omega (arith, u.0))
is-bytes bs (i64 n) u = absurd (omega (arith, u.0))
is-bytes bs (len b) u = (b, u.1, refl)
is-bytes bs (i32 n) u = absurd (omega (arith, u.0))

is-fixed32 : (bs : List ℕ) (y : Payload) → Under 5 bs y
    → (x : List ℕ) × ((length bs ≡ 4) × (x ≡ bs)) × (y ≡ i32 (from_le_bytes w32 x))
is-fixed32 bs (varint n) u = absurd (omega (arith, u.0))
is-fixed32 bs (i64 n) u = absurd (omega (arith, u.0))
is-fixed32 bs (len b) u = absurd (omega (arith, u.0))
is-fixed32 bs (i32 n) u = (bs, (u.1.0, refl), ap i32 u.1.1)

is-none : (wire : ℕ) → (wire ≡ 0 → ⊥) → (wire ≡ 1 → ⊥) → (wire ≡ 2 → ⊥) → (wire ≡ 5 → ⊥)
    → (bs : List ℕ) (y : Payload) → Under wire bs y → ⊥
is-none wire a b c d bs (varint n) u = a (sym u.0)
is-none wire a b c d bs (i64 n) u = b (sym u.0)
is-none wire a b c d bs (len x) u = c (sym u.0)
is-none wire a b c d bs (i32 n) u = d (sym u.0)

at-type : (wire n : ℕ) (p : Front Payload) → wire ≡ n → Takes p (Under n) → Takes p (Under wire)
at-type wire n p e h = subst (λ w. Takes p (Under w)) (sym e) h

-- A payload of a wire type is read just where one of that type is spelled.
pub takes-payload : (wire : ℕ) → Takes (payload wire) (Under wire)
unfolding payload
takes-payload wire =
    takes-cond (wire == 0) _ _ (Under wire)
    (λ e. at-type wire 0 _ (eqb-true wire 0 e)
    (under 0 varint IsVarint number takes-number (λ x. refl) (λ bs x s. s) is-varint))
    λ n0.
    takes-cond (wire == 1) _ _ (Under wire)
    (λ e. at-type wire 1 _ (eqb-true wire 1 e)
    (under 1 (λ bs. i64 (from_le_bytes w64 bs)) (λ bs x. (length bs ≡ 8) × (x ≡ bs)) (next_bytes 8)
    (takes-next 8) (λ x. refl) (λ bs x s. (s.0, ap (from_le_bytes w64) s.1)) is-fixed64))
    λ n1.
    takes-cond (wire == 2) _ _ (Under wire)
    (λ e. at-type wire 2 _ (eqb-true wire 2 e)
    (under 2 len IsCounted counted_bytes takes-counted (λ x. refl) (λ bs x s. s) is-bytes))
    λ n2.
    takes-cond (wire == 5) _ _ (Under wire)
    (λ e. at-type wire 5 _ (eqb-true wire 5 e)
    (under 5 (λ bs. i32 (from_le_bytes w32 bs)) (λ bs x. (length bs ≡ 4) × (x ≡ bs)) (next_bytes 4)
    (takes-next 4) (λ x. refl) (λ bs x s. (s.0, ap (from_le_bytes w32) s.1)) is-fixed32))
    λ n5.
    takes-as _ _ _ (takes-fail _)
    (λ bs y. (
      λ s. absurd s,
      is-none wire (eqb-false wire 0 n0) (eqb-false wire 1 n1) (eqb-false wire 2 n2)
          (eqb-false wire 5 n5) bs y,
    ))

abbrev AfterTag : ℕ → List ℕ → Field → Type 0
AfterTag tag bs f =
    (p : Payload) × ((is_field_number (tag / 8) ≡ true) × Under (tag % 8) bs p)
    × (f ≡ record { number = tag / 8; payload = p })

-- A wire type is below 8.
pub type-below : (p : Payload) → wire_type p < 8
type-below (varint n) = omega arith
type-below (i64 n) = omega arith
type-below (len bs) = omega arith
type-below (i32 n) = omega arith

take-if : (b : Bool) (wire : ℕ)
    → Takes (cond b (payload wire) (fail bad_number)) (λ bs p. (b ≡ true) × Under wire bs p)
take-if true wire = takes-as _ _ _ (takes-payload wire) (λ bs p. (λ u. (refl, u), λ u. u.1))
take-if false wire =
    takes-as _ _ _ (takes-fail bad_number)
    (λ bs p. (λ u. absurd u, λ u. absurd (true≢false (sym u.0))))

to-field : (bs : List ℕ) (f : Field) → Both IsVarint AfterTag bs f → IsField bs f
to-field bs f s =
    let u = s.4.1 in
    let range = and_parts (nat_lt 0 (s.0 / 8)) (nat_lt (s.0 / 8) (2 ^ 29)) u.0 in
    subst (λ g. IsField bs g) (sym s.4.2) (record {
      tag = s.1;
      rest = s.2;
      is_tag = subst (λ n. IsVarint s.1 n) (omega (arith, div-add-mod' s.0 8, u.1.0)) s.3;
      positive = ltb-true 0 (s.0 / 8) range.0;
      in_range = ltb-true (s.0 / 8) (2 ^ 29) range.1;
      payload = u.1.1;
      whole = s.5;
    })

from-field : (bs : List ℕ) (f : Field) → IsField bs f → Both IsVarint AfterTag bs f
from-field bs f s =
    let number : (f.number * 8 + wire_type f.payload) / 8 ≡ f.number =
    div-mul-add f.number 8 (wire_type f.payload) (type-below f.payload) in
    let type : (f.number * 8 + wire_type f.payload) % 8 ≡ wire_type f.payload =
    mod-mul-add f.number 8 (wire_type f.payload) (type-below f.payload) in (
      f.number * 8 + wire_type f.payload,
      s.tag,
      s.rest,
      s.is_tag,
      (
        f.payload,
        (
          rw number
              (and_from (nat_lt 0 f.number) (nat_lt f.number (2 ^ 29))
              (lt-ltb 0 f.number s.positive) (lt-ltb f.number (2 ^ 29) s.in_range)),
          (sym type, s.payload),
        ),
        ap (λ m. record { number = m; payload = f.payload }) (sym number),
      ),
      s.whole,
    )

-- A field is read just where one is spelled.
pub takes-field : Takes field IsField
unfolding field
takes-field = takes-as _ _ _ (takes-bind number _ IsVarint AfterTag takes-number (λ tag.
    takes-map (λ p. record { number = tag / 8; payload = p }) _
    (λ bs p. (is_field_number (tag / 8) ≡ true) × Under (tag % 8) bs p)
    (take-if (is_field_number (tag / 8)) (tag % 8))))
    (λ bs f. (to-field bs f, from-field bs f))
