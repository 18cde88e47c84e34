-- Readers of what is at the front of some bytes, and the faults where it isn't there.
use Rattle.std.proofs.Common.{◌≡◌, ◌⊎◌, inl, inr, refl, sym, ap, ◌∙◌, ℕ, zero, suc, List, [], ◌∷◌}
use Rattle.std.proofs.Common.{◌++◌, length, take, drop, Result, Ok, Err, ◌↔◌, arith, nat_lt, cond}
use Rattle.std.proofs.Common.{Bool, true, false, ◌<◌, ◌≤◌, ◌+◌, ◌*◌, ◌%◌, ◌/◌, ◌^◌, ◌==◌}
use Rattle.std.proofs.lemmas.Bool.{ltb-true, ltb-false, lt-ltb, le-ltb, eqb-true, eqb-false}
use Rattle.std.proofs.lemmas.Bool.{true≢false}
use Rattle.model_message.specs.Reading.{Fault, truncated, long_varint, bad_number, group}
use Rattle.model_message.specs.Reading.{bad_wire_type}
use Rattle.model_message.specs.Wire.{Front, give, fail, after, ◌>>=◌, map_front, next_bytes}
use Rattle.model_message.specs.Wire.{septets, number, counted_bytes, payload, varint, i64, len, i32}
use Rattle.model_message.specs.Wire.{field, is_field_number}
use Rattle.model_message.specs.Spelling.{IsVarint, IsPayload}
use Rattle.model_message.specs.Messages.{wire_type}
use Rattle.std.specs.Int.{w32, w64, from_le_bytes}
use Rattle.model_message.proofs.Fields.{takes-payload}
use Rattle.model_message.proofs.Fronts.{Takes, Both, err-ok, takes-bind, takes-next, takes-fail}
use Rattle.model_message.proofs.Fronts.{takes-as}
use Rattle.model_message.proofs.Varints.{takes-number, takes-groups}
use Rattle.law_export.specs.Faults.{AreHigh}

-- what fault a result is
abbrev fault_in : {A : Type 0} → Fault → Result A Fault → Fault
fault_in d (Ok x) = d
fault_in d (Err f) = f

-- Equal results that are errors have equal faults.
pub err-err : {A : Type 0} (f g : Fault) → ◌≡◌ {A = Result A Fault} (Err f) (Err g) → f ≡ g
err-err f g e = ap (fault_in f) e

-- The reader refuses bytes with a fault just where the relation F holds of both.
pub record Refuses {A : Type 0} (p : Front A) (F : List ℕ → Fault → Type 0) : Type 0 where
  pub found : (bs : List ℕ) (f : Fault) → p bs ≡ Err f → F bs f
  pub again : (bs : List ℕ) (f : Fault) → F bs f → p bs ≡ Err f

-- A reader that refuses by one relation refuses by each equivalent one.
pub refuses-as : {A : Type 0} (p : Front A) (F G : List ℕ → Fault → Type 0) → Refuses p F
    → ((bs : List ℕ) (f : Fault) → F bs f ↔ G bs f) → Refuses p G
refuses-as p F G h same = record {
  found = λ bs f e. (same bs f).0 (h.found bs f e);
  again = λ bs f g. h.again bs f ((same bs f).1 g);
}

-- A reader that gives a value refuses nothing.
pub refuses-give : {A : Type 0} (x : A) → Refuses (give x) (λ bs f. ⊥)
refuses-give x = record { found = λ bs f e. err-ok f (x, bs) (sym e); again = λ bs f h. absurd h }

-- A reader that fails with a fault refuses all bytes with this fault.
pub refuses-fail : {A : Type 0} (g : Fault) → Refuses {A = A} (fail g) (λ bs f. f ≡ g)
refuses-fail {A = A} g = record {
  found = λ bs f e. sym (err-err {A = A × List ℕ} g f e);
  again = λ bs f h. ap Err (sym h);
}

-- A choice between two readers refuses what the chosen one refuses.
pub refuses-cond : {A : Type 0} (b : Bool) (p q : Front A) (F : List ℕ → Fault → Type 0)
    → (b ≡ true → Refuses p F) → (b ≡ false → Refuses q F) → Refuses (cond b p q) F
refuses-cond true p q F hp hq = hp refl
refuses-cond false p q F hp hq = hq refl

-- the first part is refused, or the part after it
abbrev pub Either : {A : Type 0} → (List ℕ → A → Type 0) → (List ℕ → Fault → Type 0)
    → (A → List ℕ → Fault → Type 0) → List ℕ → Fault → Type 0
Either {A = A} S F G bs f =
    F bs f
    ⊎ ((x : A) × (front : List ℕ) × (rest : List ℕ) × S front x × G x rest f × (bs ≡ front ++ rest))

found-bind : {A B : Type 0} (p : Front A) (q : A → Front B) (S : List ℕ → A → Type 0)
    (F : List ℕ → Fault → Type 0) (G : A → List ℕ → Fault → Type 0)
    → Takes p S → Refuses p F → ((x : A) → Refuses (q x) (G x)) →
    (bs : List ℕ) (f : Fault) (r : Result (A × List ℕ) Fault) → p bs ≡ r → after r q ≡ Err f
    → Either S F G bs f
found-bind p q S F G tp hp hq bs f (Ok x) e h =
    let s = tp.found bs x.1 x.0 e in inr (x.0, s.0, x.1, s.1, (hq x.0).found x.1 f h, s.2)
found-bind {B = B} p q S F G tp hp hq bs f (Err g) e h =
    inl (hp.found bs f (e ∙ ap Err (err-err {A = B × List ℕ} g f h)))

again-bind : {A B : Type 0} (p : Front A) (q : A → Front B) (S : List ℕ → A → Type 0)
    (F : List ℕ → Fault → Type 0) (G : A → List ℕ → Fault → Type 0)
    → Takes p S → Refuses p F → ((x : A) → Refuses (q x) (G x)) →
    (bs : List ℕ) (f : Fault) → Either S F G bs f → after (p bs) q ≡ Err f
again-bind p q S F G tp hp hq bs f (inl h) = ap (λ r. after r q) (hp.again bs f h)
again-bind p q S F G tp hp hq bs f (inr s) =
    ap (λ l. after (p l) q) s.5 ∙ ap (λ r. after r q) (tp.again s.1 s.2 s.0 s.3)
    ∙ (hq s.0).again s.2 f s.4

-- Two readers in sequence refuse what the first refuses, or what the second refuses after it.
pub refuses-bind : {A B : Type 0} (p : Front A) (q : A → Front B) (S : List ℕ → A → Type 0)
    (F : List ℕ → Fault → Type 0) (G : A → List ℕ → Fault → Type 0)
    → Takes p S → Refuses p F → ((x : A) → Refuses (q x) (G x)) →
    Refuses (p >>= q) (Either S F G)
refuses-bind p q S F G tp hp hq = record {
  found = λ bs f e. found-bind p q S F G tp hp hq bs f (p bs) refl e;
  again = again-bind p q S F G tp hp hq;
}

-- A reader whose value is mapped refuses what the reader refuses.
pub refuses-map : {A B : Type 0} (g : A → B) (p : Front A) (S : List ℕ → A → Type 0)
    (F : List ℕ → Fault → Type 0)
    → Takes p S → Refuses p F → Refuses (map_front g p) F
refuses-map g p S F tp hp =
    refuses-as _ _ _
    (refuses-bind p (λ x. give (g x)) S F (λ x bs f. ⊥) tp hp (λ x. refuses-give (g x))) (λ bs f. (
      λ e. elim e [ inl h ↦ h | inr s ↦ absurd s.4 ],
      λ h. inl h,
    ))

-- ---- a number of bytes

abbrev pub IsShort : ℕ → List ℕ → Fault → Type 0
IsShort n bs f = (length bs < n) × (f ≡ truncated)

short-found : (n : ℕ) (bs : List ℕ) (f : Fault) (b : Bool) → nat_lt (length bs) n ≡ b
    → cond {A = Result (List ℕ × List ℕ) Fault} b (Err truncated) (Ok (take n bs, drop n bs))
    ≡ Err f
    → IsShort n bs f
short-found n bs f true e h = (ltb-true _ _ e, sym (err-err {A = List ℕ × List ℕ} truncated f h))
short-found n bs f false e h = absurd (err-ok f (take n bs, drop n bs) (sym h))

-- A reader of a number of bytes refuses just where fewer are left, as cut off.
pub refuses-next : (n : ℕ) → Refuses (next_bytes n) (IsShort n)
refuses-next n = record {
  found = λ bs f e. short-found n bs f (nat_lt (length bs) n) refl e;
  again = λ bs f s. rw (lt-ltb (length bs) n s.0) (ap Err (sym s.1));
}

-- ---- a varint

abbrev pub IsLong : ℕ → List ℕ → Type 0
IsLong room bs =
    (front : List ℕ) × (rest : List ℕ) × AreHigh front × (length front ≡ room)
    × (bs ≡ front ++ rest)

abbrev pub NoGroups : ℕ → List ℕ → Fault → Type 0
NoGroups room bs f =
    (AreHigh bs × (length bs < room) × (f ≡ truncated)) ⊎ (IsLong room bs × (f ≡ long_varint))

more-high : (room b : ℕ) (bs : List ℕ) (f : Fault) → 128 ≤ b → NoGroups room bs f
    → NoGroups (suc room) (b ∷ bs) f
more-high room b bs f l (inl h) = inl ((l, h.0), omega (arith, h.1), h.2)
more-high room b bs f l (inr h) =
    inr ((b ∷ h.0.0, h.0.1, (l, h.0.2), omega (arith, h.0.3), ap (λ z. b ∷ z) h.0.4), h.1)

step : (room b : ℕ) (bs : List ℕ) (f : Fault)
    → ((g : Fault) → septets room bs ≡ Err g → NoGroups room bs g) → (t : Bool) → nat_lt b 128 ≡ t
    → (r : Result (ℕ × List ℕ) Fault) → septets room bs ≡ r →
    cond {A = Result (ℕ × List ℕ) Fault} t (Ok (b, bs))
    (after r (λ high. give (b % 128 + 128 * high)))
    ≡ Err f
    → NoGroups (suc room) (b ∷ bs) f
step room b bs f ih true e r er h = absurd (err-ok f (b, bs) (sym h))
step room b bs f ih false e (Ok x) er h = absurd (err-ok f (b % 128 + 128 * x.0, x.1) (sym h))
step room b bs f ih false e (Err g) er h = more-high room b bs f (ltb-false b 128 e) (ih f (er ∙ h))

groups-found : (room : ℕ) (bs : List ℕ) (f : Fault) → septets room bs ≡ Err f → NoGroups room bs f
unfolding septets
groups-found zero bs f e =
    inr (([], bs, tt, refl, refl), sym (err-err {A = ℕ × List ℕ} long_varint f e))
groups-found (suc room) [] f e = inl (tt, omega arith, sym (err-err {A = ℕ × List ℕ} truncated f e))
groups-found (suc room) (b ∷ bs) f e =
    step room b bs f (groups-found room bs) (nat_lt b 128) refl (septets room bs) refl e

groups-short : (room : ℕ) (bs : List ℕ) → AreHigh bs → length bs < room
    → septets room bs ≡ Err truncated
unfolding septets
groups-short zero bs h l = absurd (omega (arith, l))
groups-short (suc room) [] h l = refl
groups-short (suc room) (b ∷ bs) h l =
    rw (le-ltb b 128 h.0, groups-short room bs h.1 (omega (arith, l))) refl

groups-long : (room : ℕ) (front rest : List ℕ) → AreHigh front → length front ≡ room
    → septets room (front ++ rest) ≡ Err long_varint
unfolding septets
groups-long zero [] rest h l = refl
groups-long zero (b ∷ front) rest h l = absurd (omega (arith, l))
groups-long (suc room) [] rest h l = absurd (omega (arith, l))
groups-long (suc room) (b ∷ front) rest h l =
    rw (le-ltb b 128 h.0, groups-long room front rest h.1 (omega (arith, l))) refl

groups-again : (room : ℕ) (bs : List ℕ) (f : Fault) → NoGroups room bs f → septets room bs ≡ Err f
groups-again room bs f (inl h) = groups-short room bs h.0 h.1 ∙ ap Err (sym h.2)
groups-again room bs f (inr h) =
    ap (septets room) h.0.4 ∙ groups-long room h.0.0 h.0.1 h.0.2 h.0.3 ∙ ap Err (sym h.1)

-- A reader of a varint's bytes refuses just where they are cut off or too many.
pub refuses-groups : (room : ℕ) → Refuses (septets room) (NoGroups room)
refuses-groups room = record { found = groups-found room; again = groups-again room }

-- no varint is there: it is cut off, or ten bytes are at least 128
abbrev pub NoVarint : List ℕ → Fault → Type 0
NoVarint bs f = NoGroups 10 bs f

-- A reader of a varint refuses just where no varint is.
pub refuses-number : Refuses number NoVarint
unfolding number
refuses-number =
    refuses-map (λ n. n % 2 ^ 64) (septets 10) _ (NoGroups 10) (takes-groups 10) (refuses-groups 10)

-- ---- a payload

-- no length is there, or fewer bytes are left after it than it says
abbrev pub NoBytes : List ℕ → Fault → Type 0
NoBytes bs f =
    NoVarint bs f
    ⊎ ((n : ℕ) × (front : List ℕ) × (rest : List ℕ) × IsVarint front n × IsShort n rest f
    × (bs ≡ front ++ rest))

refuses-counted : Refuses counted_bytes NoBytes
refuses-counted =
    refuses-bind number next_bytes IsVarint NoVarint IsShort takes-number refuses-number
    refuses-next

abbrev Counted : List ℕ → List ℕ → Type 0
Counted bs x = Both IsVarint (λ n bs x. (length bs ≡ n) × (x ≡ bs)) bs x

takes-counted : Takes counted_bytes Counted
takes-counted =
    takes-bind number next_bytes IsVarint
    (λ n bs x. (length bs ≡ n) × (x ≡ bs)) takes-number takes-next

pub data NoPayload (wire : ℕ) (bs : List ℕ) (f : Fault) : Type 0 where
  of_varint : wire ≡ 0 → NoVarint bs f → NoPayload wire bs f
  of_fixed64 : wire ≡ 1 → IsShort 8 bs f → NoPayload wire bs f
  of_bytes : wire ≡ 2 → NoBytes bs f → NoPayload wire bs f
  of_fixed32 : wire ≡ 5 → IsShort 4 bs f → NoPayload wire bs f
  of_group : (wire ≡ 3) ⊎ (wire ≡ 4) → f ≡ group → NoPayload wire bs f
  of_type : 5 < wire → f ≡ bad_wire_type → NoPayload wire bs f

type-fault : (wire : ℕ) (b : Bool) → nat_lt wire 5 ≡ b → (wire ≡ 0 → ⊥) → (wire ≡ 1 → ⊥)
    → (wire ≡ 2 → ⊥) → (wire ≡ 5 → ⊥) → (bs : List ℕ) (f : Fault)
    → (f ≡ cond b group bad_wire_type) ↔ NoPayload wire bs f
type-fault wire true e n0 n1 n2 n5 bs f = (
  λ h. of_group (three-or-four wire (ltb-true wire 5 e) n0 n1 n2) h,
  λ h. elim h [
    | of_varint w s ↦ absurd (n0 w)
    | of_fixed64 w s ↦ absurd (n1 w)
    | of_bytes w s ↦ absurd (n2 w)
    | of_fixed32 w s ↦ absurd (n5 w)
    | of_group w s ↦ s
    | of_type w s ↦ absurd (omega (arith, w, ltb-true wire 5 e))
  ],
)
  where
    three-or-four : (wire : ℕ) → wire < 5 → (wire ≡ 0 → ⊥) → (wire ≡ 1 → ⊥) → (wire ≡ 2 → ⊥)
        → (wire ≡ 3) ⊎ (wire ≡ 4)
    three-or-four zero l a b c = absurd (a refl)
    three-or-four (suc zero) l a b c = absurd (b refl)
    three-or-four (suc (suc zero)) l a b c = absurd (c refl)
    three-or-four (suc (suc (suc zero))) l a b c = inl refl
    three-or-four (suc (suc (suc (suc n)))) l a b c = inr (omega (arith, l))
type-fault wire false e n0 n1 n2 n5 bs f = (
  λ h. of_type (above wire (ltb-false wire 5 e) n5) h,
  λ h. elim h [
    | of_varint w s ↦ absurd (n0 w)
    | of_fixed64 w s ↦ absurd (n1 w)
    | of_bytes w s ↦ absurd (n2 w)
    | of_fixed32 w s ↦ absurd (n5 w)
    | of_group w s ↦
        absurd (elim w [
          | inl x ↦ omega (arith, x, ltb-false wire 5 e)
          | inr x ↦ omega (arith, x, ltb-false wire 5 e)
        ])
    | of_type w s ↦ s
  ],
)
  where
    above : (wire : ℕ) → 5 ≤ wire → (wire ≡ 5 → ⊥) → 5 < wire
    above wire l n = go (nat_lt 5 wire) refl
      where
        go : (b : Bool) → nat_lt 5 wire ≡ b → 5 < wire
        go true e = ltb-true 5 wire e
        go false e = absurd (n (omega (arith, l, ltb-false 5 wire e)))

varint-only : (wire : ℕ) (bs : List ℕ) (f : Fault) → wire ≡ 0 → NoPayload wire bs f → NoVarint bs f
varint-only wire bs f e (of_varint w s) = s
varint-only wire bs f e (of_fixed64 w s) = absurd (omega (arith, e, w))
varint-only wire bs f e (of_bytes w s) = absurd (omega (arith, e, w))
varint-only wire bs f e (of_fixed32 w s) = absurd (omega (arith, e, w))
varint-only wire bs f e (of_group w s) =
    absurd (elim w [ inl x ↦ omega (arith, e, x) | inr x ↦ omega (arith, e, x) ])
varint-only wire bs f e (of_type w s) = absurd (omega (arith, e, w))

fixed64-only : (wire : ℕ) (bs : List ℕ) (f : Fault) → wire ≡ 1 → NoPayload wire bs f
    → IsShort 8 bs f
fixed64-only wire bs f e (of_varint w s) = absurd (omega (arith, e, w))
fixed64-only wire bs f e (of_fixed64 w s) = s
fixed64-only wire bs f e (of_bytes w s) = absurd (omega (arith, e, w))
fixed64-only wire bs f e (of_fixed32 w s) = absurd (omega (arith, e, w))
fixed64-only wire bs f e (of_group w s) =
    absurd (elim w [ inl x ↦ omega (arith, e, x) | inr x ↦ omega (arith, e, x) ])
fixed64-only wire bs f e (of_type w s) = absurd (omega (arith, e, w))

bytes-only : (wire : ℕ) (bs : List ℕ) (f : Fault) → wire ≡ 2 → NoPayload wire bs f → NoBytes bs f
bytes-only wire bs f e (of_varint w s) = absurd (omega (arith, e, w))
bytes-only wire bs f e (of_fixed64 w s) = absurd (omega (arith, e, w))
bytes-only wire bs f e (of_bytes w s) = s
bytes-only wire bs f e (of_fixed32 w s) = absurd (omega (arith, e, w))
bytes-only wire bs f e (of_group w s) =
    absurd (elim w [ inl x ↦ omega (arith, e, x) | inr x ↦ omega (arith, e, x) ])
bytes-only wire bs f e (of_type w s) = absurd (omega (arith, e, w))

fixed32-only : (wire : ℕ) (bs : List ℕ) (f : Fault) → wire ≡ 5 → NoPayload wire bs f
    → IsShort 4 bs f
fixed32-only wire bs f e (of_varint w s) = absurd (omega (arith, e, w))
fixed32-only wire bs f e (of_fixed64 w s) = absurd (omega (arith, e, w))
fixed32-only wire bs f e (of_bytes w s) = absurd (omega (arith, e, w))
fixed32-only wire bs f e (of_fixed32 w s) = s
fixed32-only wire bs f e (of_group w s) =
    absurd (elim w [ inl x ↦ omega (arith, e, x) | inr x ↦ omega (arith, e, x) ])
fixed32-only wire bs f e (of_type w s) = absurd (omega (arith, e, w))

-- A reader of a payload refuses just where no payload of its wire type is.
pub refuses-payload : (wire : ℕ) → Refuses (payload wire) (NoPayload wire)
unfolding payload
refuses-payload wire =
    refuses-cond (wire == 0) _ _ (NoPayload wire)
    (λ e. refuses-as _ _ _ (refuses-map varint number _ NoVarint takes-number refuses-number)
    (λ bs f. (of_varint (eqb-true wire 0 e), varint-only wire bs f (eqb-true wire 0 e))))
    λ n0.
    refuses-cond (wire == 1) _ _ (NoPayload wire)
    (λ e. refuses-as _ _ _
    (refuses-map (λ bs. i64 (from_le_bytes w64 bs)) (next_bytes 8) _ (IsShort 8) (takes-next 8)
    (refuses-next 8))
    (λ bs f. (of_fixed64 (eqb-true wire 1 e), fixed64-only wire bs f (eqb-true wire 1 e))))
    λ n1.
    refuses-cond (wire == 2) _ _ (NoPayload wire)
    (λ e. refuses-as _ _ _
    (refuses-map len counted_bytes Counted NoBytes takes-counted refuses-counted)
    (λ bs f. (of_bytes (eqb-true wire 2 e), bytes-only wire bs f (eqb-true wire 2 e))))
    λ n2.
    refuses-cond (wire == 5) _ _ (NoPayload wire)
    (λ e. refuses-as _ _ _
    (refuses-map (λ bs. i32 (from_le_bytes w32 bs)) (next_bytes 4) _ (IsShort 4) (takes-next 4)
    (refuses-next 4))
    (λ bs f. (of_fixed32 (eqb-true wire 5 e), fixed32-only wire bs f (eqb-true wire 5 e))))
    λ n5.
    refuses-as _ _ _ (refuses-fail _)
    (type-fault wire (nat_lt wire 5) refl (eqb-false wire 0 n0) (eqb-false wire 1 n1)
    (eqb-false wire 2 n2) (eqb-false wire 5 n5))

-- ---- a field

-- after a tag: its payload is refused, or its field number
abbrev pub NoRest : ℕ → List ℕ → Fault → Type 0
NoRest tag bs f =
    ((is_field_number (tag / 8) ≡ true) × NoPayload (tag % 8) bs f)
    ⊎ ((is_field_number (tag / 8) ≡ false) × (f ≡ bad_number))

refuses-if : (b : Bool) (wire : ℕ)
    → Refuses (cond b (payload wire) (fail bad_number))
    (λ bs f. ((b ≡ true) × NoPayload wire bs f) ⊎ ((b ≡ false) × (f ≡ bad_number)))
refuses-if true wire =
    refuses-as _ _ _ (refuses-payload wire)
    (λ bs f. (λ h. inl (refl, h), λ h. elim h [ inl s ↦ s.1 | inr s ↦ absurd (true≢false s.0) ]))
refuses-if false wire =
    refuses-as _ _ _ (refuses-fail bad_number)
    (λ bs f.
    (λ h. inr (refl, h), λ h. elim h [ inl s ↦ absurd (true≢false (sym s.0)) | inr s ↦ s.1 ]))

takes-if : (b : Bool) (wire : ℕ)
    → Takes (cond b (payload wire) (fail bad_number))
    (λ bs p. (b ≡ true) × ((wire_type p ≡ wire) × IsPayload bs p))
takes-if true wire = takes-as _ _ _ (takes-payload wire) (λ bs p. (λ u. (refl, u), λ u. u.1))
takes-if false wire =
    takes-as _ _ _ (takes-fail bad_number)
    (λ bs p. (λ u. absurd u, λ u. absurd (true≢false (sym u.0))))

-- no field is there: its tag is no varint, or what comes after the tag is refused
abbrev pub NoField : List ℕ → Fault → Type 0
NoField bs f =
    NoVarint bs f
    ⊎ ((tag : ℕ) × (front : List ℕ) × (rest : List ℕ) × IsVarint front tag × NoRest tag rest f
    × (bs ≡ front ++ rest))

-- A reader of a field refuses just where no field is.
pub refuses-field : Refuses field NoField
unfolding field
refuses-field = refuses-bind number _ IsVarint NoVarint NoRest takes-number refuses-number (λ tag.
    refuses-map (λ p. record { number = tag / 8; payload = p }) _
    (λ bs p. (is_field_number (tag / 8) ≡ true) × ((wire_type p ≡ tag % 8) × IsPayload bs p))
    (NoRest tag) (takes-if (is_field_number (tag / 8)) (tag % 8))
    (refuses-if (is_field_number (tag / 8)) (tag % 8)))
