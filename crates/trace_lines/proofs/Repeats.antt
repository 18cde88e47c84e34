-- How identifiers are used in a list of spans.
use Rattle.std.proofs.Common.{◌≡◌, refl, sym, ap, subst, ◌∙◌, ℕ, suc, ◌+◌, ◌<◌, ◌≤◌, Bool, true}
use Rattle.std.proofs.Common.{false, not, cond, nat_lt, ltb, inl, inr, Option, Some, None, List, []}
use Rattle.std.proofs.Common.{◌∷◌, ◌++◌, length, position, arith}
use Rattle.std.specs.Prelude.{count_by, option_map, Vec}
use Rattle.std.specs.BTreeMap.{BTreeMap}
use Rattle.std.specs.Cmp.Lexicographic.{slice_cmp}
use Rattle.std.specs.List.{position_or_len}
use Rattle.std.specs.Ordering.{is_eq, nat_cmp}
use Rattle.std.specs.Str.{bytes_eq}
use Rattle.std.proofs.lemmas.Bool.{cases_Bool, cases_lt, cond-true, cond-false, lt-ltb, ltb-true}
use Rattle.std.proofs.lemmas.List.Sums.{sum_by-cons}
use Rattle.std.proofs.lemmas.Option.{cond_some, none-some}
use Rattle.std.proofs.lemmas.Slice.Eq.{bytes_eq-Decides}
use Rattle.trace_tree.proofs.Ids.{place_before, place_kept, place_new, ties_is}
use Rattle.trace_store.specs.declared.span.ViewSpan.{ViewSpan}
use Rattle.trace_lines.specs.Repeats.{AreUses, has_id, mark_by, mark_of, next_use, use_of}
use Rattle.trace_lines.specs.declared.repeat.Use.{Use}

none_by : (b : Bool) (long first count : ℕ) → suc long ≤ cond (not b) (1 + first) 0
    → (long ≤ first → count ≡ 0) → cond b 1 0 + count ≡ 0
none_by true long first count h f = absurd (omega arith)
none_by false long first count h f = let none : count ≡ 0 = f (omega arith) in omega arith

some_by : (b : Bool) (long first count : ℕ) → cond (not b) (1 + first) 0 < suc long
    → (first < long → 1 ≤ count) → 1 ≤ cond b 1 0 + count
some_by true long first count h f = omega arith
some_by false long first count h f = let some : 1 ≤ count = f (omega arith) in omega arith

more_by : (b c m l : ℕ) → b ≡ m + c → l + b ≡ (l + m) + c
more_by b c m l e = omega arith

-- how many pass a test, where none does, where one does, and with one more
module _ {X : Type 0} (p : X → Bool) where
  one : X → ℕ
  one x = cond (p x) 1 0

  none_pass : (xs : List X) → length xs ≤ position_or_len p xs → count_by p xs ≡ 0
  none_pass [] h = refl
  none_pass (x ∷ xs) h =
      sum_by-cons (λ x. cond (p x) 1 0) x xs
      ∙ none_by (p x) (length xs) (position_or_len p xs) (count_by p xs) h (none_pass xs)

  some_pass : (xs : List X) → position_or_len p xs < length xs → 1 ≤ count_by p xs
  some_pass [] h = absurd (omega arith)
  some_pass (x ∷ xs) h =
      subst (λ n. 1 ≤ n) (sym (sum_by-cons (λ x. cond (p x) 1 0) x xs))
      (some_by (p x) (length xs) (position_or_len p xs) (count_by p xs) h (some_pass xs))

  count_none : (xs : List X) → position p xs ≡ None → count_by p xs ≡ 0
  count_none xs none = elim (cases_lt (position_or_len p xs) (length xs)) [
    | inl less ↦
        absurd (none-some (position_or_len p xs)
        (sym none
        ∙ cond-true (ltb (position_or_len p xs) (length xs)) (Some (position_or_len p xs)) None
        (lt-ltb (position_or_len p xs) (length xs) less)))
    | inr all ↦ none_pass xs all
  ]

  count_some : (xs : List X) (i : ℕ) → position p xs ≡ Some i → 1 ≤ count_by p xs
  count_some xs i some =
      some_pass xs
      (ltb-true (position_or_len p xs) (length xs)
      (cond_some (ltb (position_or_len p xs) (length xs)) (position_or_len p xs) i some).0)

  count_more : (xs : List X) (y : X) → count_by p (xs ++ y ∷ []) ≡ count_by p xs + cond (p y) 1 0
  count_more [] y = sum_by-cons (λ x. cond (p x) 1 0) y [] ∙ omega arith
  count_more (x ∷ xs) y =
      sum_by-cons (λ x. cond (p x) 1 0) x (xs ++ y ∷ [])
      ∙ more_by (count_by p (xs ++ y ∷ [])) (cond (p y) 1 0) (count_by p xs) (cond (p x) 1 0)
      (count_more xs y)
      ∙ ap (λ n. n + cond (p y) 1 0) (sym (sum_by-cons (λ x. cond (p x) 1 0) x xs))

-- a use by its two parts
abbrev use_by : ℕ → Option ℕ → Option Use
use_by count place =
    option_map (λ first. record { first = first; is_repeated = nat_lt 1 count }) place

more_is : (n : ℕ) → 1 ≤ n → nat_lt 1 (n + 1) ≡ true
more_is n h = lt-ltb 1 (n + 1) (omega arith)

-- the use of an identifier, with one more span
module _ {A : Type 0} (q : List ℕ) (xs : List (ViewSpan A)) (y : ViewSpan A) where
  use_kept : has_id q y ≡ false → use_of (xs ++ y ∷ []) q ≡ use_of xs q
  unfolding use_of
  use_kept hasnt =
      let count : count_by (has_id q) (xs ++ y ∷ []) ≡ count_by (has_id q) xs =
      count_more (has_id q) xs y ∙ ap (λ b. count_by (has_id q) xs + cond b 1 0) hasnt
      ∙ omega arith in
      ap (λ n. use_by n (position (has_id q) (xs ++ y ∷ []))) count
      ∙ ap (use_by (count_by (has_id q) xs)) (place_kept (has_id q) xs y hasnt)

  count_yes : has_id q y ≡ true → count_by (has_id q) (xs ++ y ∷ []) ≡ count_by (has_id q) xs + 1
  count_yes has = count_more (has_id q) xs y ∙ ap (λ b. count_by (has_id q) xs + cond b 1 0) has

  use_by_place : has_id q y ≡ true → (o : Option ℕ) → position (has_id q) xs ≡ o
      → use_of (xs ++ y ∷ []) q ≡ Some (next_use (use_by (count_by (has_id q) xs) o) (length xs))
  unfolding use_of
  use_by_place has None none =
      ap (use_by (count_by (has_id q) (xs ++ y ∷ []))) (place_new (has_id q) xs y none has)
      ∙ ap (λ n. use_by n (Some (length xs)))
      (count_yes has ∙ ap (λ n. n + 1) (count_none (has_id q) xs none))
  use_by_place has (Some i) some =
      ap (use_by (count_by (has_id q) (xs ++ y ∷ []))) (place_before (has_id q) xs y i some)
      ∙ ap (λ n. use_by n (Some i)) (count_yes has)
      ∙ ap (λ b. Some (record { first = i; is_repeated = b }))
      (more_is (count_by (has_id q) xs) (count_some (has_id q) xs i some))

  use_again : has_id q y ≡ true
      → use_of (xs ++ y ∷ []) q ≡ Some (next_use (use_of xs q) (length xs))
  unfolding use_of
  use_again has = use_by_place has (position (has_id q) xs) refl

-- what a map of identifiers says, with one more span
pub use_more : {A : Type 0} (spans : List (ViewSpan A)) (x : ViewSpan A) (q : List ℕ)
    (new before : Option Use) (v : Use) (place : ℕ)
    → place ≡ length spans
    → before ≡ use_of spans x.span.span_id.items → v ≡ next_use before place
    → new ≡ cond (is_eq (slice_cmp nat_cmp x.span.span_id.items q)) (Some v) (use_of spans q)
    → new ≡ use_of (spans ++ x ∷ []) q
use_more spans x q new before v place at had value more =
    let id = x.span.span_id.items in
    elim (cases_Bool (bytes_eq id q)) [
      | inl same ↦
          let e : id ≡ q = (bytes_eq-Decides id q).0 same in
          more
          ∙ cond-true (is_eq (slice_cmp nat_cmp id q)) (Some v) (use_of spans q)
          (ties_is id q ∙ same)
          ∙ ap Some value
          ∙ ap (λ u. Some (next_use u place)) (had ∙ ap (use_of spans) e)
          ∙ ap (λ n. Some (next_use (use_of spans q) n)) at
          ∙ sym (use_again q spans x same)
      | inr other ↦
          more
          ∙ cond-false (is_eq (slice_cmp nat_cmp id q)) (Some v) (use_of spans q)
          (ties_is id q ∙ other)
          ∙ sym (use_kept q spans x other)
    ]

mark_at : {A : Type 0} (spans : List (ViewSpan A)) (id : List ℕ) (place : ℕ) (o : Option ℕ)
    → position (has_id id) spans ≡ o
    → mark_by (use_by (count_by (has_id id) spans) o) place ≡ mark_of spans id place
unfolding mark_of
mark_at spans id place None none = rw (count_none (has_id id) spans none, none) refl
mark_at spans id place (Some i) some = rw some refl

-- what a row says of an identifier, by its use
pub mark_of_use : {A : Type 0} (spans : List (ViewSpan A)) (id : List ℕ) (place : ℕ)
    → mark_by (use_of spans id) place ≡ mark_of spans id place
unfolding use_of
mark_of_use spans id place = mark_at spans id place (position (has_id id) spans) refl

-- a map with no entries says that no span has an identifier
pub uses_none : {A : Type 0} (uses : BTreeMap (Vec ℕ A) Use) → uses.entries ≡ []
    → AreUses {A = A} [] uses
unfolding use_of
uses_none uses empty = record { each = λ id. rw empty refl }

-- the place of the first span that has an identifier is in its use
pub first_of_use : {A : Type 0} (spans : List (ViewSpan A)) (id : List ℕ)
    → option_map (λ (u : Use). u.first) (use_of spans id) ≡ position (has_id id) spans
unfolding use_of
first_of_use spans id = first_by (position (has_id id) spans)
  where
    first_by : (o : Option ℕ)
        → option_map (λ (u : Use). u.first) (use_by (count_by (has_id id) spans) o) ≡ o
    first_by None = refl
    first_by (Some i) = refl
