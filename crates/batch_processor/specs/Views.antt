-- What a processor's settings and answers are in the model.
use Rattle.std.specs.Prelude.{ℕ, ◌≤◌, Result, Ok, Err}
use Rattle.otlp_span.specs.declared.reason.Reason.TheVariants as reasons
use Rattle.trace_api.specs.declared.pass.Ended.{Ended}
use Rattle.trace_api.specs.declared.pass.Ended.TheVariants as answers
use Rattle.batch_desk.specs.Views.{config_view}
use Rattle.batch_desk.specs.declared.admitted.Admitted.{Admitted}
use Rattle.batch_desk.specs.declared.admitted.Admitted.TheVariants as admitted
use Rattle.batch_processor.specs.declared.config.Setup.{Setup}
use Rattle.processor_account.specs.declared.passes.TheConstants.{MAX_PASSES}
use Rattle.span_ring.specs.declared.fault.RingFault.{RingFault}
use Rattle.span_ring.specs.declared.fault.RingFault.TheVariants as rings
use Rattle.batch_processor.specs.declared.fault.WorkerLeft.{WorkerLeft}
use Rattle.batch_processor.specs.declared.pass.Flushed.{Flushed}
use Rattle.batch_processor.specs.declared.fault.NewFault.{NewFault}
use Rattle.batch_processor.specs.declared.fault.NewFault.TheVariants as faults
use Rattle.model_processor.specs.Passes.{PassAccount}
use Rattle.model_processor.specs.WorkerClauses.{Origin}
use Rattle.model_processor.specs.AnyAccounts.{after_flushed, after_told_left}

abbrev pub setup_view : Setup → Origin
setup_view s = record {
  passes = s.passes;
  desk = config_view s.config.desk;
  retry = s.config.retry;
  max_body = s.config.max_body;
}

-- the answer to the end of a span, by how it was admitted
abbrev pub ended_of : Admitted → Ended
ended_of (admitted.Queued ticket) = answers.Queued ticket
ended_of (admitted.Full ticket) = answers.Dropped ticket reasons.QueueFull
ended_of admitted.Late = answers.Late

-- a pass's account after the answer to a flush: it is flushed, or the worker has left
abbrev pub after_answer : Result Flushed WorkerLeft → PassAccount → PassAccount
after_answer (Ok flushed) account = after_flushed account
after_answer (Err left) account = after_told_left account

-- a processor may have this number of passes (profile)
abbrev pub IsPassCount : ℕ → Type 0
IsPassCount passes = (1 ≤ passes) × (passes ≤ MAX_PASSES)

-- why a processor is not made, by why its queue isn't
abbrev pub new_fault : RingFault → NewFault
new_fault rings.ZeroSize = faults.ZeroSize
new_fault rings.BatchAboveQueue = faults.BatchAboveQueue
new_fault rings.TooLarge = faults.TooLarge
new_fault rings.OutOfMemory = faults.OutOfMemory
