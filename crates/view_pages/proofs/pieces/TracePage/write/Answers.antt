use Rattle.std.proofs.Common.{◌∙◌, sym}
use Rattle.view_pages.proofs.Stages.{not_false, page_end}
use Rattle.view_pages.proofs.pieces.TracePage.write.Goals as goal

pub returns-clause-end : goal.returns-clause-end
returns-clause-end g c planned =
    λ h. page_end c.args.self.now c.in_ok-text.stage planned
    (sym c.is_end.ensures ∙ not_false c.is_end.result h)
