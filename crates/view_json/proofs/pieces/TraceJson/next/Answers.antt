use Rattle.std.proofs.Common.{◌∙◌, sym}
use Rattle.view_json.proofs.Stages.{end_left, not_false}
use Rattle.view_json.proofs.pieces.TraceJson.next.Goals as goal

pub returns-clause-end : goal.returns-clause-end
returns-clause-end g c =
    λ h. end_left c.args.self.now.spans.items c.in_ok-text.stage
    (sym c.is_end.ensures ∙ not_false c.is_end.result h)
