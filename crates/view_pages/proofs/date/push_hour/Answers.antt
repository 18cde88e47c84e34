use Rattle.view_pages.proofs.Parts.{after}
use Rattle.view_pages.specs.Dates.{hour_html}
use Rattle.view_pages.proofs.date.push_hour.Goals as goal

pub returns : goal.returns
unfolding hour_html
returns g c =
    after _ _ _ _ _ _ c.in_ok-push_two.ensures
    (after _ _ _ _ _ _ c.in_ok-push_markup.ensures
    (after _ _ _ _ _ _ c.in_ok-push_two-2.ensures
    (after _ _ _ _ _ _ c.in_ok-push_markup-2.ensures c.push_two-3.ensures)))
