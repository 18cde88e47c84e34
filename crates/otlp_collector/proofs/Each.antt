-- What is written of a list, part by part, with what is left to write.
use Rattle.std.proofs.Common.{◌≡◌, sym, ap, ◌∙◌, ℕ, ◌+◌, ◌<◌, List, ◌∷◌, ◌++◌, length, append_assoc}
use Rattle.std.proofs.Common.{map, get_or, drop}
use Rattle.std.specs.List.{flat_map}
use Rattle.std.proofs.lemmas.List.{drop_more}

module _ {X M : Type 0} (text : M → List ℕ) (view : X → M) (xs : List X) where
  -- One part more leaves the parts after it to be written.
  pub each-more : (at : ℕ) (x : X) (start old new : List ℕ) → at < length xs → x ≡ get_or xs at x
      → old ++ flat_map text (map view (drop at xs)) ≡ start ++ flat_map text (map view xs)
      → new ≡ old ++ text (view x)
      → new ++ flat_map text (map view (drop (at + 1) xs)) ≡ start ++ flat_map text (map view xs)
  each-more at x start old new within is before more =
      let rest = flat_map text (map view (drop (at + 1) xs)) in
      let split : flat_map text (map view (drop at xs)) ≡ text (view x) ++ rest =
      ap (λ l. flat_map text (map view l))
      (drop_more xs at x within ∙ ap (λ y. y ∷ drop (at + 1) xs) (sym is)) in
      ap (λ l. l ++ rest) more ∙ append_assoc old (text (view x)) rest
      ∙ ap (λ l. old ++ l) (sym split) ∙ before
