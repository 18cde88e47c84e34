-- What counts of the members of a value, after one more field.
use Rattle.std.proofs.Common.{◌≡◌, refl, sym, ap, ap₂, subst, ◌∙◌, ℕ, List, [], ◌∷◌, ◌++◌, true}
use Rattle.std.proofs.Common.{false, cond, is_some, map, filter, reverse, take_while, ◌==◌}
use Rattle.std.proofs.Common.{append_assoc}
use Rattle.std.specs.Borrow.{Bor}
use Rattle.std.proofs.lemmas.List.Sums.{take_while-cons}
use Rattle.std.proofs.lemmas.Bool.{ne_eqb}
use Rattle.std.proofs.lemmas.Grind.{reverse_onto}
use Rattle.std.proofs.lemmas.List.{map-append, reverse-append}
use Rattle.std.proofs.lemmas.List.Elements.{filter-append}
use Rattle.model_message.specs.Wire.{Field, Payload, len}
use Rattle.model_message.specs.Messages.{member_of, last_run, wire_type}
use Rattle.otlp_wire.specs.Fields.{payload_of, field_of}
use Rattle.otlp_wire.specs.declared.reader.Field.{Field as Found}
use Rattle.otlp_wire.specs.declared.reader.Payload.{Payload as Held}
use Rattle.otlp_wire.specs.declared.reader.Payload.TheVariants.{Len}
use Rattle.otlp_read.specs.declared.any_value.Member.{Member}
use Rattle.otlp_read.specs.Members.{members_from_last, parts_view, Begins, Runs, Holds}

-- A field that is a member of a value is the one member of its row.
pub one-member : (f : Field) → is_some (member_of f) ≡ true → members_from_last (f ∷ []) ≡ f ∷ []
unfolding members_from_last
one-member f e = rw e refl

-- A field that is no member of a value leaves its row without members.
pub no-member : (f : Field) → is_some (member_of f) ≡ false → members_from_last (f ∷ []) ≡ []
unfolding members_from_last
no-member f e = rw e refl

-- A field that is a member of a value is the last of the members, whatever members came before.
pub begins : (n : ℕ) (p : Payload) (f : Field) → f ≡ record { number = n; payload = p }
    → is_some (member_of (record { number = n; payload = p })) ≡ true → (back : List Field)
    → Begins n p (members_from_last (f ∷ []) ++ back)
begins n p f e m back = record {
  others = back;
  whole =
      ap (λ l. l ++ back)
      (ap (λ g. members_from_last (g ∷ [])) e ∙ one-member (record { number = n; payload = p }) m);
}

-- ---- a field that was read

field-is : (f : Found) (n : ℕ) (p : Held) → f.number ≡ n → f.payload ≡ p
    → field_of f ≡ record { number = n; payload = payload_of p }
field-is f n p e1 e2 = ap₂ (λ m q. record { number = m; payload = payload_of q }) e1 e2

-- A field that is a member of a value is the last of the members.
pub begins-with : (f : Found) (n : ℕ) (p : Held) → f.number ≡ n → f.payload ≡ p
    → is_some (member_of (record { number = n; payload = payload_of p })) ≡ true
    → (back : List Field) →
    Begins n (payload_of p) (members_from_last (field_of f ∷ []) ++ back)
begins-with f n p e1 e2 m back = begins n (payload_of p) (field_of f) (field-is f n p e1 e2) m back

-- The last run of a number goes on with one more field of that number.
first-taken : (n : ℕ) (f : Field) (back : List Field) → (f.number == n) ≡ true
    → take_while (λ g. g.number == n) (f ∷ back) ≡ f ∷ take_while (λ g. g.number == n) back
first-taken n f back e =
    take_while-cons (λ g. g.number == n) f back
    ∙ ap (λ t. cond t (f ∷ take_while (λ g. g.number == n) back) []) e

-- One more payload of the same number is added to the last unbroken run.
pub longer-run : (n : ℕ) (p : Payload) (back : List Field) → (n == n) ≡ true
    → last_run n (record { number = n; payload = p } ∷ back) ≡ last_run n back ++ p ∷ []
longer-run n p back e =
    let f : Field = record { number = n; payload = p } in
    let run = take_while (λ g. g.number == n) back in
    ap (λ l. map (λ g. g.payload) (reverse l)) (first-taken n f back e)
    ∙ ap (map (λ g. g.payload)) (reverse_onto run f [])
    ∙ map-append (λ g. g.payload) (reverse run) (f ∷ [])

parts-more : (old : List (Bor (List ℕ))) (part : Bor (List ℕ))
    → parts_view (old ++ part ∷ []) ≡ parts_view old ++ len part.now ∷ []
parts-more old part = map-append (λ b. len b.now) old (part ∷ [])

-- A part of an array or a list of pairs is added to the last run of its number.
pub runs-with : (f : Found) (n : ℕ) (part : Bor (List ℕ)) → f.number ≡ n → f.payload ≡ Len part
    → is_some (member_of (record { number = n; payload = len part.now })) ≡ true → (n == n) ≡ true →
    (old new : List (Bor (List ℕ))) → new ≡ old ++ part ∷ [] → (back : List Field)
    → parts_view old ≡ last_run n back
    → Runs n (parts_view new) (members_from_last (field_of f ∷ []) ++ back)
runs-with f n part e1 e2 m same old new e back h =
    let b = begins-with f n (Len part) e1 e2 m back in record {
      last = part.now;
      others = back;
      whole =
          ap (λ l. l ++ back)
          (ap (λ g. members_from_last (g ∷ [])) (field-is f n (Len part) e1 e2)
          ∙ one-member (record { number = n; payload = len part.now }) m);
      run =
          ap parts_view e ∙ parts-more old part ∙ ap (λ l. l ++ len part.now ∷ []) h
          ∙ sym (longer-run n (len part.now) back same)
          ∙ sym (ap (last_run n)
          (ap (λ l. l ++ back)
          (ap (λ g. members_from_last (g ∷ [])) (field-is f n (Len part) e1 e2)
          ∙ one-member (record { number = n; payload = len part.now }) m)));
    }

-- A field with the number of a member but another wire type is no member.
pub other-member : (f : Found) (n w : ℕ) → f.number ≡ n → (wire_type (payload_of f.payload) ≡ w → ⊥)
    → ((p : Payload) → (wire_type p == w) ≡ false
    → is_some (member_of (record { number = n; payload = p })) ≡ false) →
    members_from_last (field_of f ∷ []) ≡ []
other-member f n w e h step =
    no-member (field_of f)
    (ap (λ m. is_some (member_of (record { number = m; payload = payload_of f.payload }))) e
    ∙ step (payload_of f.payload) (ne_eqb (wire_type (payload_of f.payload)) w h))

-- A field whose number is that of no member is no member.
pub no-number : (f : Found) → (f.number ≡ 1 → ⊥) → (f.number ≡ 2 → ⊥) → (f.number ≡ 3 → ⊥)
    → (f.number ≡ 4 → ⊥) → (f.number ≡ 5 → ⊥) → (f.number ≡ 6 → ⊥) → (f.number ≡ 7 → ⊥)
    → members_from_last (field_of f ∷ []) ≡ []
no-number f h1 h2 h3 h4 h5 h6 h7 =
    no-member (field_of f)
    (rw (
      ne_eqb f.number 1 h1,
      ne_eqb f.number 2 h2,
      ne_eqb f.number 3 h3,
      ne_eqb f.number 4 h4,
      ne_eqb f.number 5 h5,
      ne_eqb f.number 6 h6,
      ne_eqb f.number 7 h7,
    ) refl)

-- ---- fields one after the other

-- A row without fields has no members.
pub no-members : members_from_last [] ≡ []
unfolding members_from_last
no-members = refl

-- The members of two rows, from the last, are those of the second row and then those of the first.
pub members-append : (a b : List Field)
    → members_from_last (a ++ b) ≡ members_from_last b ++ members_from_last a
unfolding members_from_last
members-append a b =
    ap reverse (filter-append (λ f. is_some (member_of f)) a b)
    ∙ reverse-append (filter (λ f. is_some (member_of f)) a) (filter (λ f. is_some (member_of f)) b)

-- What counts of a value goes from the first to the second by these fields, whatever members came
-- before.
abbrev pub Leads : {A : Type 0} → Member A → Member A → List Field → Type 0
Leads old new fields =
    (back : List Field) → Holds old back → Holds new (members_from_last fields ++ back)

-- No fields leave what counts of a value as it is.
pub leads-none : {A : Type 0} (m : Member A) → Leads m m []
leads-none m back h = subst (λ l. Holds m (l ++ back)) (sym no-members) h

-- One field more adds to what counts of a value.
pub leads-more : {A : Type 0} (old mid new : Member A) (f : Field)
    → ((back : List Field) → Holds mid back → Holds new (members_from_last (f ∷ []) ++ back))
    → (fields : List Field) → Leads old mid fields → Leads old new (fields ++ f ∷ [])
leads-more old mid new f step fields h back k =
    subst (Holds new)
    (sym (ap (λ l. l ++ back) (members-append fields (f ∷ []))
    ∙ append_assoc (members_from_last (f ∷ [])) (members_from_last fields) back))
    (step (members_from_last fields ++ back) (h back k))
