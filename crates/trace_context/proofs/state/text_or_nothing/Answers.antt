use Rattle.std.proofs.Common.{ap, ◌∙◌, Vec}
use Rattle.trace_context.specs.Tracestate.{text_or_nothing}
use Rattle.trace_context.proofs.Texts.{of_text, of_no_text}
use Rattle.trace_context.proofs.state.text_or_nothing.Goals as goal

pub returns-in-Ok : goal.returns-in-Ok
returns-in-Ok g c =
    of_text c.in-Ok.text ∙ ap (λ (v : Vec _ _). text_or_nothing v.items) c.in-Ok.ensures.ok

pub returns : goal.returns
returns g c =
    c.new.ensures.bytes
    ∙ of_no_text c.args.bytes.items (λ text. cc (c.in-Err.ensures.succeeds text))
