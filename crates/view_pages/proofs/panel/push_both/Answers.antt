use Rattle.view_pages.proofs.Parts.{after}
use Rattle.view_pages.specs.Panels.{both_html}
use Rattle.view_pages.proofs.panel.push_both.Goals as goal

pub returns : goal.returns
unfolding both_html
returns g c =
    after _ _ _ _ _ _ c.in_ok-push_digits.ensures
    (after _ _ _ _ _ _ c.in_ok-push_markup.ensures c.push_digits-2.ensures)
