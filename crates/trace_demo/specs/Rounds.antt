-- What balances: each span that ended is found in exactly one place.
use Rattle.std.specs.Prelude.{ℕ, ◌++◌, List}
use Rattle.std.specs.List.Sorted.{IsPermutation, IsStrictlyIncreasing}
use Rattle.trace_demo.specs.declared.soak.losses.Loss.{Loss}
use Rattle.trace_demo.specs.Losses.{numbers_of}

-- Each span that ended, by its number, is in exactly one of these: the batches that were delivered,
-- those that were taken in part, the ledger of lost spans, and the ledger of dropped ones. Nothing
-- else is in one of them: in their order, the numbers that ended rise, and they are those that were
-- found. (profile)
pub record IsBalanced (ended delivered partial : List ℕ) (lost : List Loss) (dropped : List ℕ)
    : Type 0 where
  pub sorted : List ℕ
  pub rises : IsStrictlyIncreasing sorted
  pub ended_are : IsPermutation ended sorted
  pub found_are : IsPermutation (delivered ++ partial ++ numbers_of lost ++ dropped) sorted
