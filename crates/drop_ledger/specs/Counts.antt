-- How many names there are of each reason.
use Rattle.std.specs.Prelude.{◌≡◌, ℕ, ◌+◌, ◌^◌, ◌<◌, false, List, length, IsTrue, Option}
use Rattle.std.specs.Option.{ForSome}
use Rattle.model_span.specs.Dropped.{Reason, Entry, queue_full, encode_memory, too_large, abandoned}
use Rattle.model_span.specs.Dropped.{is_lost, count_of_reason}
use Rattle.model_desk.specs.Desks as model
use Rattle.otlp_span.specs.Slips.{entries_of, is_named}
use Rattle.drop_ledger.specs.declared.counts.DropCounts.{DropCounts}

abbrev pub drop_counts_view : DropCounts → model.DropCounts
drop_counts_view c = record {
  queue_full = c.queue_full;
  encode_memory = c.encode_memory;
  too_large = c.too_large;
  abandoned = c.abandoned;
}

-- how many were dropped for this reason: none where it is that of lost spans
abbrev pub count_in : model.DropCounts → Reason → ℕ
count_in c queue_full = c.queue_full
count_in c encode_memory = c.encode_memory
count_in c too_large = c.too_large
count_in c abandoned = c.abandoned
count_in c _ = 0

-- what two count together
abbrev pub sum_of : model.DropCounts → model.DropCounts → model.DropCounts
sum_of b c = record {
  queue_full = b.queue_full + c.queue_full;
  encode_memory = b.encode_memory + c.encode_memory;
  too_large = b.too_large + c.too_large;
  abandoned = b.abandoned + c.abandoned;
}

-- what two count together is within 64 bits
pub record FitTogether (b c : model.DropCounts) : Type 0 where
  pub queue_full : b.queue_full + c.queue_full < 2 ^ 64
  pub encode_memory : b.encode_memory + c.encode_memory < 2 ^ 64
  pub too_large : b.too_large + c.too_large < 2 ^ 64
  pub abandoned : b.abandoned + c.abandoned < 2 ^ 64

-- Each reason for which spans are dropped is counted as often as it is in the list.
pub record IsTally (counts : model.DropCounts) (entries : List Entry) : Type 0 where
  pub exact : (reason : Reason) → is_lost reason ≡ false
      → count_in counts reason ≡ count_of_reason reason entries

-- The newest slip, if there is one, names something, and its names are counted.
pub record IsLedger (newest : Option (List Entry)) (len : ℕ) (counts : DropCounts) : Type 0 where
  pub named : ForSome newest (λ es. IsTrue (is_named es))
  pub length : len ≡ length (entries_of newest)
  pub tally : IsTally (drop_counts_view counts) (entries_of newest)
