use Rattle.view_pages.proofs.Parts.{after}
use Rattle.view_pages.specs.Dates.{fraction_html}
use Rattle.view_pages.proofs.date.push_fraction.Goals as goal

pub returns : goal.returns
unfolding fraction_html
returns g c =
    after _ _ _ _ _ _ c.in_ok-push_three.ensures
    (after _ _ _ _ _ _ c.in_ok-push_three-2.ensures c.push_three-3.ensures)
