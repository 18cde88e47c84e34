-- What the accounts of a batch processor say. (profile)
use Rattle.std.specs.Prelude.{ℕ, true, List, [], ◌∷◌, ◌++◌, Option, Some, None}
use Rattle.model_desk.specs.Retries.{Outcome, Fate}
use Rattle.model_span.specs.Spans.{SpanData}
use Rattle.model_span.specs.Dropped.{Reason}
pub use Rattle.model_processor.specs.Holders.{Holder, processor, pass, worker, origin_or}
pub use Rattle.model_processor.specs.Holders.{account_in, worker_in, pass_account, worker_account}
pub use Rattle.model_processor.specs.Holders.{pass_accounts, worker_accounts, on_pass, on_worker}
pub use Rattle.model_processor.specs.Passes.{after_flush, after_shutdown, after_flushed}
pub use Rattle.model_processor.specs.Passes.{after_told_left}
use Rattle.model_processor.specs.Worker as batches
use Rattle.model_processor.specs.Worker.{WorkerAccount, OutBatch, EndedBatch, BatchEnd}
pub use Rattle.model_processor.specs.Worker.{after_left}
use Rattle.model_processor.specs.WorkerClauses.{Origin}

-- what an account of a batch processor says
abbrev pub AnyAccount : Type 0
AnyAccount = Holder Origin

abbrev pub new_origin : Origin
new_origin = record {
  passes = 0;
  desk = record { queue = 0; batch = 0; delay_ms = 0 };
  retry = record { attempts = 0; initial_ms = 0; max_ms = 0; least_ms = 0 };
  max_body = 0;
}

-- what an account says that the processor began with
abbrev pub origin_in : AnyAccount → Origin
origin_in holder = origin_or new_origin holder

-- ---- what the worker learns in a critical section

-- a batch was taken
abbrev pub after_take : ℕ → List SpanData → WorkerAccount → WorkerAccount
after_take number spans account = record account {
  out = Some (record { number = number; spans = spans; body = None; outcomes = [] });
}

abbrev pub handed_with : List ℕ → Option OutBatch → Option OutBatch
handed_with body None = None
handed_with body (Some batch) = Some (record batch { body = Some body })

-- the batch was handed, with this body
abbrev pub after_handed : List ℕ → WorkerAccount → WorkerAccount
after_handed body account = record account { out = handed_with body account.out }

abbrev pub ended_with : (OutBatch → BatchEnd) → Option OutBatch → List EndedBatch
ended_with f None = []
ended_with f (Some batch) =
    record { number = batch.number; spans = batch.spans; ending = f batch } ∷ []

-- the batch was dropped
abbrev pub after_drop : Reason → WorkerAccount → WorkerAccount
after_drop reason account = record account {
  ended = account.ended ++ ended_with (λ _. batches.dropped reason) account.out;
  out = None;
}

abbrev pub settled_with : List Outcome → Fate → Option (List ℕ) → BatchEnd
settled_with outcomes fate None = batches.settled [] outcomes fate
settled_with outcomes fate (Some body) = batches.settled body outcomes fate

-- the batch was settled with this fate, after these outcomes
abbrev pub after_settle : List Outcome → Fate → WorkerAccount → WorkerAccount
after_settle outcomes fate account = record account {
  ended = account.ended ++ ended_with (λ b. settled_with outcomes fate b.body) account.out;
  out = None;
}

-- all is drained
abbrev pub after_drained : WorkerAccount → WorkerAccount
after_drained account = record account { drained = true }
