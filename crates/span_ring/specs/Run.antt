-- What a contract sees of a `Run`.
use Rattle.std.specs.Prelude.{ℕ, List, []}

-- the items, first to last, and how many there is room for
pub record RunView (X : Type 0) : Type 0 where
  pub items : List X
  pub room : ℕ

-- a run without items
abbrev pub empty_run : {X : Type 0} → ℕ → RunView X
empty_run room = record { items = []; room = room }
