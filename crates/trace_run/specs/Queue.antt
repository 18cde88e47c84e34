-- The result of the end of a span in a run's queue. (Trace SDK, OnEnd; Batching processor)
use Rattle.std.specs.Prelude.{◌≡◌}
use Rattle.model_span.specs.Spans.{SpanData}
use Rattle.model_desk.specs.Desks.{Desk, Does}
use Rattle.otlp_span.specs.declared.reason.Reason.TheVariants.{QueueFull}
use Rattle.batch_desk.specs.Desk.{admission, admission_event, after_admission}
use Rattle.batch_desk.specs.declared.admitted.Admitted.{Admitted}
use Rattle.batch_desk.specs.declared.admitted.Admitted.TheVariants as admitted
use Rattle.trace_api.specs.declared.pass.Ended.{Ended}
use Rattle.trace_api.specs.declared.pass.Ended.TheVariants as ends

abbrev pub ended_as : Admitted → Ended
ended_as (admitted.Queued ticket) = ends.Queued ticket
ended_as (admitted.Full ticket) = ends.Dropped ticket QueueFull
ended_as admitted.Late = ends.Late

-- The desk admits it, and the answer says so.
pub record Admits (old : Desk) (span : SpanData) (answer : Ended) (new : Desk) : Type 0 where
  pub answered : answer ≡ ended_as (admission old)
  pub desk : new ≡ after_admission (admission old) span old
  pub does : Does (admission_event (admission old) span) old new
