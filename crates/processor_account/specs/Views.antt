-- What the answer to the end of a span adds to what a pass knows, and what outcomes are in the
-- model.
use Rattle.std.specs.Prelude.{List, map}
use Rattle.model_span.specs.Spans.{SpanData}
use Rattle.model_desk.specs.Retries as retries
use Rattle.otlp_span.specs.Dropped.{reason_view}
use Rattle.trace_api.specs.declared.pass.Ended.{Ended}
use Rattle.trace_api.specs.declared.pass.Ended.TheVariants as answers
use Rattle.retry_core.specs.Retries.{outcome_view}
use Rattle.retry_core.specs.declared.outcome.Outcome.{Outcome}
use Rattle.model_processor.specs.Passes.{PassAccount, after_accepted, after_dropped, after_late}

-- A pass's account after the end of a span, by the answer: it was accepted, be it that it was
-- queued or handed to an exporter at once; or it was dropped; or it was late. (Trace SDK, OnEnd)
abbrev pub after_end : Ended → SpanData → PassAccount → PassAccount
after_end (answers.Queued ticket) span account = after_accepted ticket span account
after_end (answers.Handed ticket) span account = after_accepted ticket span account
after_end (answers.Dropped ticket reason) span account =
    after_dropped (reason_view reason) ticket span account
after_end answers.Late span account = after_late account
after_end _ span account = account

abbrev pub outcomes_view : List Outcome → List retries.Outcome
outcomes_view outcomes = map outcome_view outcomes
