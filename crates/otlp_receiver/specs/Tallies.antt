-- What a service counts: its connections, and its answers by their status.
use Rattle.std.specs.Prelude.{◌≡◌, ◌≢◌, ℕ, ◌+◌, ◌-◌, ◌^◌, ◌<◌, ◌≤◌, List, min, slice_index}
use Rattle.std.specs.List.{sum}

-- The connections; and the answers, those with the status 100 first.
pub record Tally : Type 0 where
  pub connections : ℕ
  pub answers : List ℕ

-- the greatest count
abbrev pub MOST : ℕ
MOST = 2 ^ 64 - 1

-- how many answers had a status
abbrev pub count_of : Tally → ℕ → ℕ
count_of tally status = slice_index tally.answers (status - 100)

-- One more answer, with this status, was counted: the status has one more, any other as many as
-- before, and so there is one more of all. A count stops at 2^64 - 1.
pub record CountsAnswer (old new : Tally) (status : ℕ) : Type 0 where
  pub one_more : count_of new status ≡ min (count_of old status + 1) MOST
  pub others : (other : ℕ) → 100 ≤ other → other ≢ status
      → count_of new other ≡ count_of old other
  pub sum_of_all : count_of old status < MOST → sum new.answers ≡ sum old.answers + 1
  pub connections : new.connections ≡ old.connections
