-- The accounts of the examples: a queue of 2 spans and batches of 2; the spans with the tickets
-- 0, 1 and 2 end on the first pass, where 2 finds the queue full; a flush is answered; then 3 ends
-- on the second pass, which pops the entry of 2 and shuts down, and one that ends after that is
-- late.
use Rattle.std.specs.Prelude.{ℕ, List, [], ◌∷◌, Option, Some, None, false}
use Rattle.model_span.specs.Dropped.{Reason}
use Rattle.model_desk.specs.Retries.{Outcome, later, Fate}
use Rattle.model_desk.specs.Waits.{RetryConfig}
use Rattle.worked_sdk.specs.Histories.{named, span_at}
use Rattle.model_processor.specs.Passes.{PassAccount, Drop, accepted, dropped}
use Rattle.model_processor.specs.Worker.{WorkerAccount, OutBatch, settled}

-- ticket 2 found the queue full, on a pass that had no floor yet
abbrev pub drop_of_2 : Drop
drop_of_2 = record { span = span_at 2; reason = Reason.queue_full; floor = 0 }

abbrev pub first : PassAccount
first = record {
  ends = accepted (span_at 0) ∷ accepted (span_at 1) ∷ dropped drop_of_2 ∷ [];
  popped = [];
  popped_lost = [];
  late = 1;
  shutdowns = 0;
  asked = record { ticket = 3; mark = 2 };
  floor = 3;
  told_left = false;
}

abbrev pub second : PassAccount
second = record {
  ends = accepted (span_at 3) ∷ [];
  popped = named Reason.queue_full 2 ∷ [];
  popped_lost = [];
  late = 0;
  shutdowns = 1;
  asked = record { ticket = 4; mark = 3 };
  floor = 0;
  told_left = false;
}

abbrev pub both : List PassAccount
both = first ∷ second ∷ []

-- two attempts at most
abbrev pub twice : RetryConfig
twice = record { attempts = 2; initial_ms = 1000; max_ms = 30000; least_ms = 0 }

-- the batch of ticket 3 is out, and was handed or not
abbrev pub out_with : Option (List ℕ) → List Outcome → OutBatch
out_with body outcomes =
    record { number = 2; spans = span_at 3 ∷ []; body = body; outcomes = outcomes }

-- The first batch was delivered by its second attempt, and the second one is out.
abbrev pub worker_with : OutBatch → WorkerAccount
worker_with out = record {
  ended = record {
    number = 1;
    spans = span_at 0 ∷ span_at 1 ∷ [];
    ending = settled (7 ∷ []) (later 503 None ∷ Outcome.delivered ∷ []) Fate.delivered;
  } ∷ [];
  out = Some out;
  drained = false;
  left = false;
}
