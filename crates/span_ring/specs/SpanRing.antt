-- What a contract sees of a `SpanRing`.
use Rattle.std.specs.Prelude.{ℕ, ◌<◌, ◌≤◌, Bool, false, List, []}
use Rattle.span_ring.specs.declared.ring.TheConstants.{MAX_QUEUE}

-- the items that wait, first to last, how many may wait, how many a run takes at most, and whether
-- a run is out
pub record RingView (X : Type 0) : Type 0 where
  pub items : List X
  pub queue : ℕ
  pub batch : ℕ
  pub run_out : Bool

-- a new ring
abbrev pub empty_ring : {X : Type 0} → ℕ → ℕ → RingView X
empty_ring queue batch = record { items = []; queue = queue; batch = batch; run_out = false }

-- the sizes that a ring may have
pub record IsRingSize (queue batch : ℕ) : Type 0 where
  pub positive : 0 < batch
  pub fits : batch ≤ queue
  pub limited : queue ≤ MAX_QUEUE
