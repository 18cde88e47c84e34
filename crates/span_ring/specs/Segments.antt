-- How the segments of a ring hold its items.
use Rattle.std.specs.Prelude.{◌≡◌, ℕ, ◌+◌, ◌*◌, ◌<◌, ◌≤◌, Bool, List, [], ◌∷◌, ◌++◌, length}
use Rattle.std.specs.Prelude.{if◌then◌else◌}
use Rattle.std.specs.List.{flat_map}
use Rattle.span_ring.specs.Run.{RunView}
use Rattle.span_ring.specs.SpanRing.{IsRingSize}

module _ {X : Type 0} where
  -- the items of the full segments, and then those of the one that is being filled
  abbrev pub items_of : List (RunView X) → RunView X → List X
  items_of full filling = flat_map (λ s. s.items) full ++ filling.items

  -- each has as many items as a batch, for which it has room
  abbrev pub AreFull : ℕ → List (RunView X) → Type 0
  AreFull batch [] = Unit {0}
  AreFull batch (s ∷ ss) = (length s.items ≡ batch) × (s.room ≡ batch) × AreFull batch ss

  -- each has no item, and room for a batch
  abbrev pub AreSpare : ℕ → List (RunView X) → Type 0
  AreSpare batch [] = Unit {0}
  AreSpare batch (s ∷ ss) = (s.items ≡ []) × (s.room ≡ batch) × AreSpare batch ss

  -- how many segments there are, but for the one that is being filled
  abbrev pub others : List (RunView X) → List (RunView X) → Bool → ℕ
  others full spare run_out = length full + length spare + (if run_out then 1 else 0)

  -- where each item and each segment is
  pub record AreSegments (full : List (RunView X)) (filling : RunView X) (spare : List (RunView X))
      (len queue batch : ℕ) (run_out : Bool) : Type 0 where
    pub sizes : IsRingSize queue batch
    pub all_full : AreFull batch full
    pub room : filling.room ≡ batch
    pub fits : length filling.items ≤ batch
    pub all_spare : AreSpare batch spare
    pub counted : len ≡ length (items_of full filling)
    pub within : len ≤ queue
    -- the segment that is being filled is wanted for the queue
    pub begun : length full * batch < queue
    pub enough : queue ≤ others full spare run_out * batch
