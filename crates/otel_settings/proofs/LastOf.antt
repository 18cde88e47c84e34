-- The last pair of a name, one pair after the other.
use Rattle.std.proofs.Common.{◌≡◌, ℕ, ◌+◌, ◌<◌, List, [], ◌∷◌, ◌++◌, length, take, get_or, true}
use Rattle.std.proofs.Common.{false, Option, Some, None, inl, inr, refl, sym, ap, ◌∙◌, eqb, arith}
use Rattle.std.specs.Prelude.{if◌then◌else◌, bytes_eq, option_map, option_and_then}
use Rattle.std.proofs.lemmas.Bool.{cases_Bool, eqb-true}
use Rattle.std.proofs.lemmas.List.{take_more, map-append}
use denote.Ref.{Bor}
use Rattle.otel_settings.specs.declared.variable.Variable.{Variable}
use Rattle.otel_settings.specs.Variables.{name_of}
use Rattle.otel_settings.specs.Pairs.{Pairs, pairs_view, last_of, non_empty, text_set}

-- a name and a value, as they are borrowed
abbrev pub Borrowed : Type 0
Borrowed = Bor (List ℕ) × Bor (List ℕ)

-- One more pair at the end counts, if it has the name.
pub last_of-append : (name : List ℕ) (pairs : Pairs) (pair : List ℕ × List ℕ)
    → last_of name (pairs ++ pair ∷ [])
    ≡ (if bytes_eq pair.0 name then Some pair.1 else last_of name pairs)
unfolding last_of
last_of-append name [] pair = refl
last_of-append name (first ∷ pairs) pair = elim (cases_Bool (bytes_eq pair.0 name)) [
  | inl same ↦ rw (last_of-append name pairs pair, same) refl
  | inr differs ↦ rw (last_of-append name pairs pair, differs) refl
]

more : (name : List ℕ) (raw : List Borrowed) (i : ℕ) (d : Borrowed) → i < length raw
    → last_of name (pairs_view (take (i + 1) raw))
    ≡ (if bytes_eq (get_or raw i d).0.now name then Some (get_or raw i d).1.now
    else last_of name (pairs_view (take i raw)))
more name raw i d inside =
    ap (λ ps. last_of name (pairs_view ps)) (take_more raw i d inside)
    ∙ ap (last_of name)
    (map-append (λ (p : Borrowed). (p.0.now, p.1.now)) (take i raw) (get_or raw i d ∷ []))
    ∙ last_of-append name (pairs_view (take i raw)) ((get_or raw i d).0.now, (get_or raw i d).1.now)

-- A next pair that has the name is the last pair of this name so far.
pub more_same : (name : List ℕ) (raw : List Borrowed) (i : ℕ) (d : Borrowed) → i < length raw
    → bytes_eq (get_or raw i d).0.now name ≡ true
    → Some (get_or raw i d).1.now ≡ last_of name (pairs_view (take (i + 1) raw))
more_same name raw i d inside same = sym (more name raw i d inside ∙ rw same refl)

-- A next pair that has another name leaves the last pair of the name as it was.
pub more_other : (name : List ℕ) (raw : List Borrowed) (i : ℕ) (d : Borrowed) → i < length raw
    → bytes_eq (get_or raw i d).0.now name ≡ false
    → last_of name (pairs_view (take i raw)) ≡ last_of name (pairs_view (take (i + 1) raw))
more_other name raw i d inside differs = sym (more name raw i d inside ∙ rw differs refl)

-- Before the first pair, no pair has the name.
pub none_yet : (name : List ℕ) → None ≡ last_of name []
unfolding last_of
none_yet name = refl

-- ---- what is set

by_name : (variable : Variable) (pairs : Pairs) (name : List ℕ) (o : Option (List ℕ))
    → name ≡ name_of variable → o ≡ last_of name pairs
    → text_set variable pairs ≡ option_and_then non_empty o
unfolding text_set
by_name variable pairs name o named e =
    ap (option_and_then non_empty) (ap (λ n. last_of n pairs) (sym named) ∙ sym e)

-- A variable that no pair names is not set.
pub nothing_set : (variable : Variable) (pairs : Pairs) (name : List ℕ) (o : Option (Bor (List ℕ)))
    → name ≡ name_of variable
    → option_map (λ t. t.now) o ≡ last_of name pairs → o ≡ None → None ≡ text_set variable pairs
nothing_set variable pairs name o named e none =
    sym (by_name variable pairs name _ named e ∙ rw none refl)

is_empty : (bs : List ℕ) → eqb (length bs) 0 ≡ true → non_empty bs ≡ None
is_empty [] h = refl
is_empty (b ∷ bs) h = absurd (omega (arith, eqb-true (length (b ∷ bs)) 0 h))

is_filled : (bs : List ℕ) → eqb (length bs) 0 ≡ false → non_empty bs ≡ Some bs
is_filled [] h = cc
is_filled (b ∷ bs) h = refl

-- A variable whose last value is empty is not set.
pub empty_set : (variable : Variable) (pairs : Pairs) (name : List ℕ) (o : Option (Bor (List ℕ)))
    (t : Bor (List ℕ))
    → name ≡ name_of variable
    → option_map (λ t. t.now) o ≡ last_of name pairs → o ≡ Some t → eqb (length t.now) 0 ≡ true
    → None ≡ text_set variable pairs
empty_set variable pairs name o t named e is empty =
    sym (by_name variable pairs name _ named e ∙ rw is (is_empty t.now empty))

-- A variable whose last value isn't empty is set to this value.
pub text_is_set : (variable : Variable) (pairs : Pairs) (name : List ℕ) (o : Option (Bor (List ℕ)))
    (t : Bor (List ℕ))
    → name ≡ name_of variable
    → option_map (λ t. t.now) o ≡ last_of name pairs → o ≡ Some t → eqb (length t.now) 0 ≡ false
    → Some t.now ≡ text_set variable pairs
text_is_set variable pairs name o t named e is filled =
    sym (by_name variable pairs name _ named e ∙ rw is (is_filled t.now filled))
