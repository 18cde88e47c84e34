-- The newest items of a list, and the others. (profile)
use Rattle.std.specs.Prelude.{ℕ, ◌-◌, List, length, take, drop}
use Rattle.drop_ledger.specs.Named.{Named}

-- the newest items of a list whose newest is the last: this number of them, or all if there are
-- fewer
abbrev pub newest_of : {X : Type 0} → ℕ → List X → List X
newest_of most items = drop (length items - most) items

-- the others, which are older
abbrev pub older_of : {X : Type 0} → ℕ → List X → List X
older_of most items = take (length items - most) items

-- What keeps the newest items of those that it was given, within a bound: the bound, and all that
-- it was given.
pub record Newest (X : Type 0) : Type 0 where
  pub most : ℕ
  pub given : List X

-- What a sink that keeps the newest names shows: how many it keeps of dropped spans, and as many of
-- lost ones, and all that it was given.
pub record KeptNames : Type 0 where
  pub most : ℕ
  pub given : Named
