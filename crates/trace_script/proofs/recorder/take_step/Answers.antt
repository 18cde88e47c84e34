use Rattle.std.proofs.Common.{string_bytes}
use Rattle.otlp_span.specs.Parts.{call_view, kind_view}
use Rattle.trace_run.specs.Steps.{parent_name_view}
use Rattle.trace_run.specs.Answers.{answer_view}
use Rattle.trace_script.proofs.Read.{on-ok}
use Rattle.trace_script.proofs.Steps.{called, started}
use Rattle.trace_script.proofs.recorder.take_step.Goals as goal

pub returns-in-Start-clause-taken : goal.returns-in-Start-clause-taken
returns-in-Start-clause-taken g c =
    let x = c.in-Start in
    let said = c.start.ensures in
    rw x.is
    (on-ok c.unless_refused.result
    (λ granted. started x.scope (parent_name_view x.parent) (kind_view x.kind) x.at
    (string_bytes x.name)
    (answer_view c.start.result) c.args.spans.now c.start.new.self c.args.pass.now
    granted (rw c.as_str.ensures.value at said.table)
    (rw x.is at c.requires) said.one_more said.room)
    c.unless_refused.ensures)

pub returns-in-Call-clause-taken : goal.returns-in-Call-clause-taken
returns-in-Call-clause-taken g c =
    let x = c.in-Call in
    let said = c.call.ensures in
    rw x.is
    (on-ok c.unless_refused-in-Call.result
    (λ granted. called x.span
    (call_view x.call) c.call.result c.args.spans.now c.call.new.self c.args.pass.now
    c.call.new.pass
    granted said.table said.asks_nothing said.ended said.many said.room)
    c.unless_refused-in-Call.ensures)
