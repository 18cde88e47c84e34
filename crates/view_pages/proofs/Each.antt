-- What is written of a list, part by part, with what is left to write.
use Rattle.std.proofs.Common.{◌≡◌, sym, ap, ◌∙◌, ℕ, ◌+◌, ◌<◌, ◌≤◌, List, [], ◌∷◌, ◌++◌, length}
use Rattle.std.proofs.Common.{length-append, append_assoc, get_or, drop, subst, arith, zero, suc}
use Rattle.std.proofs.Common.{refl, map}
use Rattle.std.proofs.lemmas.List.{drop_more}
use Rattle.view_pages.specs.Html.{Html, each, html_bytes, ◌▹◌}

module _ {X : Type 0} (part : X → Html) (xs : List X) where
  -- one more
  pub each_more : (at : ℕ) (x : X) (start old new : List ℕ) → at < length xs → x ≡ get_or xs at x
      → old ++ html_bytes (each part (drop at xs)) ≡ start ++ html_bytes (each part xs)
      → new ≡ old ++ html_bytes (part x)
      → new ++ html_bytes (each part (drop (at + 1) xs)) ≡ start ++ html_bytes (each part xs)
  unfolding html_bytes
  each_more at x start old new within is before more =
      let rest = html_bytes (each part (drop (at + 1) xs)) in
      let split : html_bytes (each part (drop at xs)) ≡ html_bytes (part x) ++ rest =
      ap (λ l. html_bytes (each part l))
      (drop_more xs at x within ∙ ap (λ y. y ∷ drop (at + 1) xs) (sym is)) in
      ap (λ l. l ++ rest) more ∙ append_assoc old (html_bytes (part x)) rest
      ∙ ap (λ l. old ++ l) (sym split) ∙ before

  -- the same, by the place of the part
  pub each_more_at : (at : ℕ) (x : X) (start old new : List ℕ) → at < length xs
      → old ++ html_bytes (each part (drop at xs)) ≡ start ++ html_bytes (each part xs)
      → new ≡ old ++ html_bytes (part (get_or xs at x))
      → new ++ html_bytes (each part (drop (at + 1) xs)) ≡ start ++ html_bytes (each part xs)
  unfolding html_bytes
  each_more_at at x start old new within before more =
      let rest = html_bytes (each part (drop (at + 1) xs)) in
      let split : html_bytes (each part (drop at xs)) ≡ html_bytes (part (get_or xs at x)) ++ rest =
      ap (λ l. html_bytes (each part l)) (drop_more xs at x within) in
      ap (λ l. l ++ rest) more ∙ append_assoc old (html_bytes (part (get_or xs at x))) rest
      ∙ ap (λ l. old ++ l) (sym split) ∙ before

  -- a part is written, and what is left is the rest
  pub each_step : (at : ℕ) (x : X) (old new : List ℕ) → at < length xs
      → new ≡ old ++ html_bytes (part (get_or xs at x))
      → new ++ html_bytes (each part (drop (at + 1) xs))
      ≡ old ++ html_bytes (each part (drop at xs))
  unfolding html_bytes
  each_step at x old new within more =
      let rest = html_bytes (each part (drop (at + 1) xs)) in
      let split : html_bytes (each part (drop at xs)) ≡ html_bytes (part (get_or xs at x)) ++ rest =
      ap (λ l. html_bytes (each part l)) (drop_more xs at x within) in
      ap (λ l. l ++ rest) more ∙ append_assoc old (html_bytes (part (get_or xs at x))) rest
      ∙ ap (λ l. old ++ l) (sym split)

part_at : {X : Type 0} (part : X → Html) (xs : List X) (at : ℕ) (d : X) → at < length xs
    → length (html_bytes (part (get_or xs at d))) ≤ length (html_bytes (each part xs))
unfolding html_bytes
part_at part [] at d h = absurd (omega arith)
part_at part (x ∷ xs) zero d h =
    omega (arith, length-append (html_bytes (part x)) (html_bytes (each part xs)))
part_at part (x ∷ xs) (suc n) d h =
    omega (
      arith,
      length-append (html_bytes (part x)) (html_bytes (each part xs)),
      part_at part xs n d (omega arith),
    )

-- a part has no more bytes than all of them
pub part_within : {X : Type 0} (part : X → Html) (xs : List X) (at : ℕ) (x : X) → at < length xs
    → x ≡ get_or xs at x
    → length (html_bytes (part x)) ≤ length (html_bytes (each part xs))
part_within part xs at x within is =
    subst (λ y. length (html_bytes (part y)) ≤ length (html_bytes (each part xs))) (sym is)
    (part_at part xs at x within)

-- the parts of things that are made of others
pub each_map : {X Y : Type 0} (f : X → Y) (part : Y → Html) (xs : List X)
    → each part (map f xs) ≡ each (λ x. part (f x)) xs
each_map f part [] = refl
each_map f part (x ∷ xs) = ap (λ h. part (f x) ▹ h) (each_map f part xs)
