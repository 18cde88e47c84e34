use Rattle.std.proofs.Common.{refl, string_bytes}
use Rattle.model_run.specs.Runs.{span_steps}
use Rattle.otlp_span.specs.Parts.{call_view, kind_view}
use Rattle.trace_run.specs.Answers.{answer_view}
use Rattle.trace_run.specs.Steps.{parent_name_view}
use Rattle.trace_run.proofs.Standing.{start-on, start-tells}
use Rattle.trace_run.proofs.Calling.{called, called-tells}
use Rattle.trace_run.proofs.Batches.{flush-on, shutdown-on, take-on, encode-on, attempt-on}
use Rattle.trace_run.proofs.Batches.{reply-on}
use Rattle.trace_run.proofs.Telling.{tells-nothing, take-tells-at, encode-tells, send-tells}
use Rattle.trace_run.proofs.Telling.{reply-tells}
use Rattle.trace_run.proofs.running.Running.take_step.Goals as goal

pub returns-in-Start-clause-goes_on : goal.returns-in-Start-clause-goes_on
returns-in-Start-clause-goes_on g c = λ run h small same max at.
    let x = c.in-Start in
    rw x.is
    (start-on g.S.Sampler.meaning g.R.Rng.stream run h _ _ _ at x.scope (parent_name_view x.parent)
    (kind_view x.kind) x.at (string_bytes x.name) (answer_view c.start.result) c.start.new.self
    (rw c.as_str-name.ensures.value at (c.start.ensures.answered run.setup (span_steps h) at.spans))
    (rw c.as_str-name.ensures.value at c.start.ensures.table) c.start.ensures.one_more)

pub returns-in-Start-clause-told : goal.returns-in-Start-clause-told
returns-in-Start-clause-told g c =
    λ run h at. tells-nothing (answer_view c.start.result) _ _ _
    (start-tells _ _ _ (answer_view c.start.result)
    (c.start.ensures.answered run.setup (span_steps h) at.spans))
    refl

pub returns-in-Call-clause-goes_on : goal.returns-in-Call-clause-goes_on
returns-in-Call-clause-goes_on g c = λ run h small same max at.
    rw c.in-Call.is
    (called g.S.Sampler.meaning g.R.Rng.stream run h _ _ _ at c.in-Call.span
    (call_view c.in-Call.call) c.call.result c.call.new.self c.call.new.pass small
    (λ e. c.call.ensures.answered e run.setup (span_steps h) at.spans) c.call.ensures.asks_nothing
    c.call.ensures.ended c.call.ensures.table c.call.ensures.many)

pub returns-in-Call-clause-told : goal.returns-in-Call-clause-told
returns-in-Call-clause-told g c = λ run h at.
    tells-nothing (answer_view c.call.result) _ _ _
    (called-tells g.S.Sampler.meaning g.R.Rng.stream run h _ _ _ at c.in-Call.span
    (call_view c.in-Call.call) c.call.result c.call.new.pass
    (λ e. c.call.ensures.answered e run.setup (span_steps h) at.spans) c.call.ensures.ended) refl

pub returns-in-Flush-clause-goes_on : goal.returns-in-Flush-clause-goes_on
returns-in-Flush-clause-goes_on g c = λ run h small same max at.
    rw c.in-Flush.is
    (flush-on g.S.Sampler.meaning g.R.Rng.stream run h _ _ _
    (rw (← c.self.view_is) at at) c.flush.new.self c.flush.ensures.desk c.flush.ensures.history)

pub returns-in-Shutdown-clause-goes_on : goal.returns-in-Shutdown-clause-goes_on
returns-in-Shutdown-clause-goes_on g c = λ run h small same max at.
    rw c.in-Shutdown.is
    (shutdown-on g.S.Sampler.meaning g.R.Rng.stream run h _ _ _
    (rw (← c.self-in-Shutdown.view_is) at at) c.shutdown.new.self c.shutdown.ensures.desk
    c.shutdown.ensures.history)

pub returns-in-Take-clause-goes_on : goal.returns-in-Take-clause-goes_on
returns-in-Take-clause-goes_on g c = λ run h small same max at.
    rw c.in-Take.is
    (take-on g.S.Sampler.meaning g.R.Rng.stream run h _ _ _
    (rw (← c.self-in-Take.view_is) at at) c.in-Take.at c.take_batch.result.0 c.take_batch.new.desk
    c.take_batch.result.1 c.take_batch.ensures.answered c.take_batch.ensures.takes)

pub returns-in-Take-clause-told : goal.returns-in-Take-clause-told
returns-in-Take-clause-told g c =
    λ run h at. tells-nothing (answer_view c.take_batch.result.0) _ _ _
    (take-tells-at (rw (← c.self-in-Take.view_is) at at) c.in-Take.at c.take_batch.result.0
    c.take_batch.ensures.answered)
    refl

pub returns-in-Encode-clause-goes_on : goal.returns-in-Encode-clause-goes_on
returns-in-Encode-clause-goes_on g c = λ run h small same max at.
    rw c.in-Encode.is
    (encode-on g.S.Sampler.meaning g.R.Rng.stream run h _ _ _
    (rw (← c.self-in-Encode.view_is) at at) _ (rw (← c.self-in-Encode.view_is) at same) _
    (rw (← c.self-in-Encode.view_is) at max) c.encode_batch.result.0 c.encode_batch.new.desk
    c.encode_batch.result.1 c.encode_batch.ensures.encodes)

pub returns-in-Encode-clause-told : goal.returns-in-Encode-clause-told
returns-in-Encode-clause-told g c =
    λ run h at. tells-nothing (answer_view c.encode_batch.result.0) _ _ _
    (encode-tells _ _ _ _ c.encode_batch.result.0 _ _ c.encode_batch.ensures.encodes)
    c.encode_batch.ensures.nothing_is_sent

pub returns-in-Attempt-clause-goes_on : goal.returns-in-Attempt-clause-goes_on
returns-in-Attempt-clause-goes_on g c = λ run h small same max at.
    rw c.in-Attempt.is
    (attempt-on g.S.Sampler.meaning g.R.Rng.stream run h _ _ _
    (rw (← c.self-in-Attempt.view_is) at at) c.in-Attempt.at c.send_batch.result.0
    c.send_batch.new.desk c.send_batch.result.1 _ _ c.send_batch.ensures.sends)

pub returns-in-Attempt-clause-told : goal.returns-in-Attempt-clause-told
returns-in-Attempt-clause-told g c =
    λ run h at. send-tells run h c.in-Attempt.at _ _ c.send_batch.result.0 _ _ _ _
    (rw (← c.self-in-Attempt.view_is) at at) c.send_batch.ensures.sends

pub returns-in-Reply-clause-goes_on : goal.returns-in-Reply-clause-goes_on
returns-in-Reply-clause-goes_on g c = λ run h small same max at.
    rw c.in-Reply.is
    (reply-on g.S.Sampler.meaning g.R.Rng.stream run h _ _ _
    (rw (← c.self-in-Reply.view_is) at at) c.in-Reply.at c.in-Reply.word c.judge_batch.result.0
    c.judge_batch.new.desk c.judge_batch.result.1 c.judge_batch.ensures.replies)

pub returns-in-Reply-clause-told : goal.returns-in-Reply-clause-told
returns-in-Reply-clause-told g c =
    λ run h at. tells-nothing (answer_view c.judge_batch.result.0) _ _ _
    (reply-tells _ _ _ _ c.judge_batch.result.0 _ _ c.judge_batch.ensures.replies) refl

pub returns-in-Reply-clause-ready : goal.returns-in-Reply-clause-ready
returns-in-Reply-clause-ready g c =
    c.judge_batch.ensures.ready (g.E.Exporter.room c.args.exporter.now) c.requires.ready
