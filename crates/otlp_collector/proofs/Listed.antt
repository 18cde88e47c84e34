-- What is written of a list with commas between its parts, with what is left to write.
use Rattle.std.proofs.Common.{◌≡◌, refl, sym, ap, subst, ◌∙◌, ℕ, zero, suc, ◌+◌, ◌<◌, ◌≤◌, List, []}
use Rattle.std.proofs.Common.{◌∷◌, ◌++◌, length, length-append, append_assoc, map, get_or, drop}
use Rattle.std.proofs.Common.{drop-cons, add-one, arith}
use Rattle.std.specs.List.{flat_map}
use Rattle.otlp_collector.specs.Lines.{comma_before, listed}

-- the parts that are left, of which the first has this number
abbrev pub left_of : ℕ → List (List ℕ) → List ℕ
left_of zero words = listed words
left_of (suc n) words = flat_map (λ word. 44 ∷ word) words

left-first : (at : ℕ) (word : List ℕ) (words : List (List ℕ))
    → left_of at (word ∷ words) ≡ (comma_before at ++ word) ++ left_of (suc at) words
left-first zero word words = refl
left-first (suc n) word words = refl

module _ {X : Type 0} (f : X → List ℕ) (xs : List X) where
  -- One part more, after its comma, leaves the parts after it to be written.
  pub left-more : (at : ℕ) (x : X) (start old new : List ℕ) → at < length xs → x ≡ get_or xs at x
      → old ++ left_of at (map f (drop at xs)) ≡ start ++ listed (map f xs)
      → new ≡ old ++ (comma_before at ++ f x)
      → new ++ left_of (at + 1) (map f (drop (at + 1) xs)) ≡ start ++ listed (map f xs)
  left-more at x start old new within is before more =
      let next : drop at xs ≡ x ∷ drop (suc at) xs =
      drop-cons xs at x within ∙ ap (λ y. y ∷ drop (suc at) xs) (sym is) in
      let rest = left_of (suc at) (map f (drop (suc at) xs)) in
      let split : left_of at (map f (drop at xs)) ≡ (comma_before at ++ f x) ++ rest =
      ap (λ l. left_of at (map f l)) next ∙ left-first at (f x) (map f (drop (suc at) xs)) in
      rw (add-one at)
      (ap (λ l. l ++ rest) more ∙ append_assoc old (comma_before at ++ f x) rest
      ∙ ap (λ l. old ++ l) (sym split) ∙ before)

-- A part is no longer than the parts that come after a first one, with their commas.
part-of-more : {X : Type 0} (f : X → List ℕ) (xs : List X) (at : ℕ) (d : X) → at < length xs
    → length (f (get_or xs at d)) ≤ length (left_of 1 (map f xs))
part-of-more f [] at d h = absurd (omega arith)
part-of-more f (x ∷ xs) zero d h = omega (arith, length-append (f x) (left_of 1 (map f xs)))
part-of-more f (x ∷ xs) (suc n) d h =
    omega (arith, length-append (f x) (left_of 1 (map f xs)), part-of-more f xs n d (omega arith))

part-at : {X : Type 0} (f : X → List ℕ) (xs : List X) (at : ℕ) (d : X) → at < length xs
    → length (f (get_or xs at d)) ≤ length (listed (map f xs))
part-at f [] at d h = absurd (omega arith)
part-at f (x ∷ xs) zero d h = omega (arith, length-append (f x) (left_of 1 (map f xs)))
part-at f (x ∷ xs) (suc n) d h =
    omega (arith, length-append (f x) (left_of 1 (map f xs)), part-of-more f xs n d (omega arith))

-- A part is no longer than the list of the parts.
pub part-of : {X : Type 0} (f : X → List ℕ) (xs : List X) (at : ℕ) (x : X) → at < length xs
    → x ≡ get_or xs at x → length (f x) ≤ length (listed (map f xs))
part-of f xs at x within is =
    subst (λ y. length (f y) ≤ length (listed (map f xs))) (sym is) (part-at f xs at x within)

-- Two texts that are appended in turn are appended together.
pub appended : (old mid new first then : List ℕ) → mid ≡ old ++ first
    → new ≡ mid ++ then → new ≡ old ++ (first ++ then)
appended old mid new first then to-mid to-new =
    to-new ∙ ap (λ l. l ++ then) to-mid ∙ append_assoc old first then
