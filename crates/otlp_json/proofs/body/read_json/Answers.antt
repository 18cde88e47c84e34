use Rattle.std.proofs.Common.{◌∙◌}
use Rattle.otlp_json.proofs.Wholes.{no_text, text_bytes}
use Rattle.otlp_json.proofs.body.read_json.Goals as goal

pub returns-in_default : goal.returns-in_default
returns-in_default g c = no_text c.args.text.now c.in_default.ensures.cases.0

pub returns-in-Ok-request : goal.returns-in-Ok-request
returns-in-Ok-request g c =
    text_bytes c.args.text.now c.in-Ok.text.now c.new-out.result.items c.in-Ok-new.reader
    c.in-Ok.ensures.cases.0 c.in-Ok-new.ensures.ok c.new-out.ensures.items c.in-Ok.ensures.cases.1
    ∙ c.in-Ok-request.ensures

pub returns : goal.returns
returns g c =
    text_bytes c.args.text.now c.in-Ok.text.now c.new-out.result.items c.in-Ok-new.reader
    c.in-Ok.ensures.cases.0 c.in-Ok-new.ensures.ok c.new-out.ensures.items c.in-Ok.ensures.cases.1
    ∙ (rw c.in-Err-Fault.field-0-is at c.in-Err-Fault.ensures)
