-- An environment, of which one variable after the other is read.
use Rattle.std.proofs.Common.{◌≡◌, ℕ, ◌+◌, ◌<◌, List, [], ◌∷◌, ◌++◌, length, map, take, get_or, sym}
use Rattle.std.proofs.Common.{Bool, true, false, Option, Some, None, inl, inr, refl, ap, subst, ◌∙◌}
use Rattle.std.proofs.Common.{String, string_bytes, option_map, true≢false}
use Rattle.std.specs.Prelude.{bytes_eq}
use Rattle.std.specs.List.{list_any}
use Rattle.std.proofs.lemmas.Bool.{cases_Bool}
use Rattle.std.proofs.lemmas.List.{map-append}
use Rattle.std.proofs.Math.Seq.{take-length}
use Rattle.std.proofs.lemmas.List.Folds.{list_any_more}
use Rattle.std.proofs.lemmas.Slice.Eq.{bytes_eq-Decides}
use denote.Ref.{Bor}
use Rattle.otel_settings.specs.declared.variable.Variable.{Variable}
use Rattle.otel_settings.specs.declared.variable.Variable.TheVariants as variables
use Rattle.otel_settings.specs.declared.variable.TheConstants.Variable.{ALL}
use Rattle.otel_settings.specs.Variables.{name_of}
use Rattle.otel_settings.specs.Pairs.{Pairs, last_of}
use Rattle.otel_settings.specs.Environments.{AreRead, texts_view}
use Rattle.otel_settings.proofs.LastOf.{last_of-append, none_yet}

-- the variable has this name
abbrev pub is_named : List ℕ → Variable → Bool
is_named name variable = bytes_eq (name_of variable) name

-- The value of a name is one that it may have; or it has none, and none of the variables that were
-- read has the name.
pub data IsRead (gives : List ℕ → Option (List ℕ) → Type 0) (variables : List Variable)
    (pairs : Pairs) (name : List ℕ) : Type 0 where
  given : gives name (last_of name pairs) → IsRead gives variables pairs name
  not_yet : last_of name pairs ≡ None → list_any (is_named name) variables ≡ false
      → IsRead gives variables pairs name

-- each variable is among them all
are_all : (variable : Variable) → list_any (is_named (name_of variable)) ALL ≡ true
unfolding name_of
are_all variables.SdkDisabled = refl
are_all _ = refl

module _ (gives : List ℕ → Option (List ℕ) → Type 0) where
  -- Before any variable is asked for, nothing is read of any name.
  pub nothing_read : (name : List ℕ) → IsRead gives [] [] name
  nothing_read name = not_yet (sym (none_yet name)) refl

  none_more : (variables : List Variable) (pairs : Pairs) (i : ℕ) (d : Variable)
      → i < length variables → gives (name_of (get_or variables i d)) None
      → (name : List ℕ) → IsRead gives (take i variables) pairs name
      → IsRead gives (take (i + 1) variables) pairs name
  none_more variables pairs i d inside none name (given value) = given value
  none_more variables pairs i d inside none name (not_yet unset others) =
      elim (cases_Bool (is_named name (get_or variables i d))) [
        | inl same ↦
            let e = (bytes_eq-Decides (name_of (get_or variables i d)) name).0 same in
            given (subst (gives name) (sym unset) (subst (λ n. gives n None) e none))
        | inr differs ↦
            not_yet unset (list_any_more (is_named name) variables i d inside
            ∙ rw (others, differs) refl)
      ]

  some_more : (variables : List Variable) (pairs : Pairs) (i : ℕ) (d : Variable) (text : List ℕ)
      → i < length variables → gives (name_of (get_or variables i d)) (Some text)
      → (name : List ℕ) → IsRead gives (take i variables) pairs name
      → IsRead gives (take (i + 1) variables)
      (pairs ++ (name_of (get_or variables i d), text) ∷ []) name
  some_more variables pairs i d text inside value name before =
      let n : List ℕ = name_of (get_or variables i d) in
      let last = last_of-append name pairs (n, text) in
      elim (cases_Bool (is_named name (get_or variables i d))) [
        | inl same ↦
            let e = (bytes_eq-Decides n name).0 same in
            given (subst (gives name) (sym (last ∙ rw same refl))
            (subst (λ m. gives m (Some text)) e value))
        | inr differs ↦
            let kept : last_of name (pairs ++ (n, text) ∷ []) ≡ last_of name pairs =
            last ∙ rw differs refl in
            elim before [
              | given had ↦ given (subst (gives name) (sym kept) had)
              | not_yet unset others ↦
                  not_yet (kept ∙ unset) (list_any_more (is_named name) variables i d inside
                  ∙ rw (others, differs) refl)
            ]
      ]

  -- The pairs are those of one variable more, which has no value.
  pub none_is_read : (variables : List Variable) {A : Type 0} (all : List (Bor (List ℕ) × String A))
      (i : ℕ) (d : Variable) (n : List ℕ) (value : Option (String A))
      → i < length variables → n ≡ name_of (get_or variables i d)
      → gives n (option_map string_bytes value) → value ≡ None
      → ((name : List ℕ) → IsRead gives (take i variables) (texts_view all) name)
      → (name : List ℕ) → IsRead gives (take (i + 1) variables) (texts_view all) name
  none_is_read variables all i d n value inside named had is before name =
      none_more variables (texts_view all) i d inside
      (subst (λ m. gives m None) named
      (subst (λ v. gives n (option_map string_bytes v)) is had))
      name (before name)

  -- The pairs, with one more, are those of one variable more, which has this value.
  pub some_is_read : (variables : List Variable) {A : Type 0}
      (all all' : List (Bor (List ℕ) × String A)) (i : ℕ) (d : Variable) (n : Bor (List ℕ))
      (value : Option (String A)) (text : String A)
      → i < length variables → n.now ≡ name_of (get_or variables i d)
      → gives n.now (option_map string_bytes value) → value ≡ Some text
      → all' ≡ all ++ (n, text) ∷ []
      → ((name : List ℕ) → IsRead gives (take i variables) (texts_view all) name)
      → (name : List ℕ) → IsRead gives (take (i + 1) variables) (texts_view all') name
  some_is_read variables {A} all all' i d n value text inside named had is more before name =
      let view : (Bor (List ℕ) × String A) → (List ℕ × List ℕ) =
      λ p. (p.0.now, string_bytes p.1) in
      let e : texts_view all'
      ≡ texts_view all ++ (name_of (get_or variables i d), string_bytes text) ∷ [] =
      ap (map view) more ∙ map-append view all ((n, text) ∷ [])
      ∙ ap (λ (m : List ℕ). texts_view all ++ (m, string_bytes text) ∷ []) named in
      let got : gives (name_of (get_or variables i d)) (Some (string_bytes text)) =
      subst (λ m. gives m (Some (string_bytes text))) named
      (subst (λ v. gives n.now (option_map string_bytes v)) is had) in
      subst (λ pairs. IsRead gives (take (i + 1) variables) pairs name) (sym e)
      (some_more variables (texts_view all) i d (string_bytes text) inside got name (before name))

  -- Once all variables were read, each has a value that it may have.
  pub all_are_read : (i : ℕ) (pairs : Pairs) → i ≡ length ALL
      → ((name : List ℕ) → IsRead gives (take i ALL) pairs name) → AreRead gives pairs
  all_are_read i pairs past read variable = elim (read (name_of variable)) [
    | given value ↦ value
    | not_yet unset others ↦
        absurd (true≢false (sym (are_all variable)
        ∙ ap (list_any (is_named (name_of variable)))
        (sym (ap (λ n. take n ALL) past ∙ take-length ALL))
        ∙ others))
  ]
