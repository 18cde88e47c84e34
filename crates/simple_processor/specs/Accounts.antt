-- What calls on a pass of a simple processor add to what it knows. (Trace SDK, Simple processor,
-- OnEnd, Shutdown)
use Rattle.std.specs.Prelude.{◌≡◌, ◌+◌, Bool, true, false}
use Rattle.model_span.specs.Spans.{SpanData}
use Rattle.otlp_span.specs.declared.reason.Reason.TheVariants as reasons
use Rattle.trace_api.specs.declared.pass.Ended.{Ended}
use Rattle.trace_api.specs.declared.pass.Ended.TheVariants as answers
use Rattle.model_processor.specs.Passes.{PassAccount}
pub use Rattle.processor_account.specs.Views.{after_end}

-- What a simple processor answers: the span was handed, or there was no memory to encode it, or its
-- body would be longer than it may be, or it was late. (Trace SDK, OnEnd)
abbrev pub is_simple_answer : Ended → Bool
is_simple_answer (answers.Handed ticket) = true
is_simple_answer (answers.Dropped ticket reasons.EncodeMemory) = true
is_simple_answer (answers.Dropped ticket reasons.TooLarge) = true
is_simple_answer answers.Late = true
is_simple_answer _ = false

-- a call of shutdown (Trace SDK, Shutdown)
abbrev pub after_shutdown : PassAccount → PassAccount
after_shutdown account = record account { shutdowns = account.shutdowns + 1 }

-- A span ends on a pass, which knows then what came of this very span.
pub record AdmitsSpan (old : PassAccount) (span : SpanData) (answer : Ended) (new : PassAccount)
    : Type 0 where
  pub answered : is_simple_answer answer ≡ true
  pub account : new ≡ after_end answer span old
