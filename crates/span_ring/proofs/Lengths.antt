-- How many items the segments of a ring hold, and what one more or one fewer is.
use Rattle.std.proofs.Common.{◌≡◌, ℕ, ◌+◌, ◌*◌, List, [], ◌∷◌, ◌++◌, length, arith, rules}
use Rattle.std.proofs.Common.{length-append}
use Rattle.std.proofs.lemmas.Grind.{common_steps}
use Rattle.std.specs.List.{flat_map}
use native.Mathlib.Nat.{suc-mul, zero-mul}
use Rattle.span_ring.specs.Run.{RunView}
use Rattle.span_ring.specs.Segments.{items_of, AreFull, AreSpare}

module _ {X : Type 0} (batch : ℕ) where
  length_full : (full : List (RunView X)) → AreFull batch full
      → length (flat_map (λ s. s.items) full) ≡ length full * batch
  length_full [] all = omega (arith, zero-mul batch)
  length_full (s ∷ full) all =
      let first : length s.items ≡ batch = all.0 in
      omega (
        arith,
        length-append s.items (flat_map (λ s. s.items) full),
        length_full full all.2,
        first,
        suc-mul (length full) batch,
      )

  -- A ring holds a batch for each full segment, and the items of the segment being filled.
  pub length_items_of : (full : List (RunView X)) (filling : RunView X) → AreFull batch full
      → length (items_of full filling) ≡ length full * batch + length filling.items
  length_items_of full filling all =
      omega
      (arith, length-append (flat_map (λ s. s.items) full) filling.items, length_full full all)

  -- Full segments with one more full segment after them are full.
  pub one_more_full : (full : List (RunView X)) (s : RunView X) → AreFull batch full
      → length s.items ≡ batch → s.room ≡ batch → AreFull batch (full ++ s ∷ [])
  one_more_full [] s all many room = (many, room, tt)
  one_more_full (t ∷ full) s all many room = (all.0, all.1, one_more_full full s all.2 many room)

  -- Spare segments with one more spare segment after them are spare.
  pub one_more_spare : (spare : List (RunView X)) (s : RunView X) → AreSpare batch spare
      → s.items ≡ [] → s.room ≡ batch → AreSpare batch (spare ++ s ∷ [])
  one_more_spare [] s all none room = (none, room, tt)
  one_more_spare (t ∷ spare) s all none room =
      (all.0, all.1, one_more_spare spare s all.2 none room)

  -- Where all segments are spare, the last one is, and so are the others.
  pub last_spare : (spare : List (RunView X)) (s : RunView X) → AreSpare batch (spare ++ s ∷ [])
      → AreSpare batch spare × (s.items ≡ []) × (s.room ≡ batch)
  last_spare [] s all = (tt, all.0, all.1)
  last_spare (t ∷ spare) s all =
      let rest = last_spare spare s all.2 in ((all.0, all.1, rest.0), rest.1, rest.2)

-- The items of one more segment come after those of the others.
pub items_of_more : {X : Type 0} (full : List (RunView X)) (s : RunView X)
    → flat_map (λ (s : RunView X). s.items) (full ++ s ∷ [])
    ≡ flat_map (λ s. s.items) full ++ s.items
items_of_more [] s = search (rules, common_steps)
items_of_more (t ∷ full) s = let rest = items_of_more full s in grind (arith, common_steps, rest)

pub ruleset segments =
    (length_items_of, one_more_full, one_more_spare, last_spare, items_of_more, suc-mul, zero-mul)
