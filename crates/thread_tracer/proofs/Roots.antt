-- A start without a parent.
use Rattle.std.proofs.Common.{ℕ, List, Some, None, inl, inr}
use Rattle.rand_core.specs.Stream.{Stream}
use Rattle.model_span.specs.Sampling.{SamplerMeaning}
use Rattle.model_span.specs.Spans.{Kind}
use Rattle.thread_tracer.specs.Spans.{SpanOfThread}
use Rattle.thread_tracer.specs.Made.{invalid_context}
use Rattle.thread_tracer.specs.Threads.{StartsOrCounts, ThreadState}

-- an invalid parent counts as none
pub as-root : {S R C P : Type 0} (meaning : S → SamplerMeaning) (stream : R → Stream)
    (tells : C → ℕ → Type 0) (name : List ℕ) (kind : Kind) (old : ThreadState S R C P)
    (span : SpanOfThread) (new : ThreadState S R C P)
    → StartsOrCounts meaning stream tells (Some invalid_context) name kind old span new
    → StartsOrCounts meaning stream tells None name kind old span new
as-root meaning stream tells name kind old span new (inl x) =
    inl (record {
      starts = record {
        at = x.starts.at;
        told = x.starts.told;
        s = x.starts.s;
        started = x.starts.started;
        held = x.starts.held;
      };
      spent = x.spent;
      span_is = x.span_is;
      state = x.state;
    })
as-root meaning stream tells name kind old span new (inr x) =
    inr (record { carries = x.carries; spent = x.spent; span_is = x.span_is; state = x.state })
