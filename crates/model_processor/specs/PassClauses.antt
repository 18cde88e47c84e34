-- What the accounts of all passes of a processor say of tickets, of the names of dropped and lost
-- spans, and of late spans: a simple processor and a batch processor say it in the same words.
-- (Trace SDK, Shutdown; tickets, the two ledgers and late spans: profile)
use Rattle.std.specs.Prelude.{◌≡◌, ℕ, ◌-◌, ◌^◌, ◌<◌, ◌++◌, ◌==◌, ◌||◌, nat_lt, Bool, true, List}
use Rattle.std.specs.Prelude.{length, IsPermutation}
use Rattle.std.specs.List.{range_with_len, AllByRecursion}
use Rattle.model_span.specs.Dropped.{Entry}
use Rattle.model_desk.specs.Desks.{DropCounts, capped, drop_counts}
use Rattle.model_processor.specs.Passes.{PassAccount, Rises, tickets, all_tickets, late_count}
use Rattle.model_processor.specs.Passes.{shutdown_count}

-- ---- tickets

-- the numbers below n, in order
abbrev pub numbers_below : ℕ → List ℕ
numbers_below n = range_with_len 0 n

-- The tickets of spans that were accepted or dropped are the numbers below the next one, each once.
-- On each pass they rise, in the order of its calls.
pub record GivesTickets (next : ℕ) (passes : List PassAccount) : Type 0 where
  pub given_once : IsPermutation (all_tickets passes) (numbers_below next)
  pub below : AllByRecursion
      (λ (a : PassAccount). AllByRecursion (λ t. t < next) (tickets a)) passes
  pub rising : AllByRecursion (λ (a : PassAccount). Rises (tickets a)) passes

-- ---- names of dropped spans

-- The entries of the dropped spans are those of the ledger and those that were popped, each as
-- often. The totals count them, each under its reason.
pub record NamesDrops (ledger : List Entry) (counts : DropCounts) (dropped popped : List Entry)
    : Type 0 where
  pub named : IsPermutation dropped (ledger ++ popped)
  pub counted : counts ≡ drop_counts dropped

-- ---- names of lost spans

-- The entries of the lost spans are those of the second ledger and those that were popped from it,
-- each as often. The count says how many there are.
pub record NamesLosses (ledger : List Entry) (count : ℕ) (lost popped : List Entry)
    : Type 0 where
  pub named : IsPermutation lost (ledger ++ popped)
  pub counted : count ≡ length lost

-- ---- late spans

-- No span is admitted any more: a pass called shutdown, or there is no ticket left.
abbrev pub is_closed : ℕ → List PassAccount → Bool
is_closed next passes = nat_lt 0 (shutdown_count passes) || (next == 2 ^ 64 - 1)

-- The late spans are counted, up to the greatest number of 64 bits. There are some only where no
-- span is admitted any more.
pub record CountsLate (late next : ℕ) (closed : Bool) (passes : List PassAccount) : Type 0 where
  pub counted : late ≡ capped (late_count passes)
  pub late_if_closed : 0 < late_count passes → closed ≡ true
  pub closed_is : closed ≡ is_closed next passes
