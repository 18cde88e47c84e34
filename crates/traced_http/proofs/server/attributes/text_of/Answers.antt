use Rattle.std.proofs.Common.{ap, ◌∙◌, Some}
use Rattle.traced_http.proofs.Texts.{of_no_text, of_text}
use Rattle.traced_http.proofs.server.attributes.text_of.Goals as goal

pub returns-in-Ok : goal.returns-in-Ok
returns-in-Ok c = ap Some c.in-Ok.ensures.cases.0 ∙ of_text _ c.in-Ok.ensures.cases.1

pub returns-in-Err : goal.returns-in-Err
returns-in-Err c = of_no_text _ c.in-Err.ensures.cases.0
