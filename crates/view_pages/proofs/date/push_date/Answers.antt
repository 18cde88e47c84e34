use Rattle.view_pages.proofs.Parts.{after}
use Rattle.view_pages.specs.Dates.{date_html}
use Rattle.view_pages.proofs.date.push_date.Goals as goal

pub returns : goal.returns
unfolding date_html
returns g c =
    after _ _ _ _ _ _ c.in_ok-push_number.ensures
    (after _ _ _ _ _ _ c.in_ok-push_markup.ensures
    (after _ _ _ _ _ _ c.in_ok-push_two.ensures
    (after _ _ _ _ _ _ c.in_ok-push_markup-2.ensures c.push_two-2.ensures)))
