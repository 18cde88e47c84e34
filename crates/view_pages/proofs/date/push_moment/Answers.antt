use Rattle.view_pages.proofs.Parts.{after}
use Rattle.view_pages.specs.Dates.{moment_html}
use Rattle.view_pages.proofs.date.push_moment.Goals as goal

pub returns : goal.returns
unfolding moment_html
returns g c =
    after _ _ _ _ _ _ c.in_ok-push_day.ensures
    (after _ _ _ _ _ _ c.in_ok-push_markup.ensures
    (after _ _ _ _ _ _ c.in_ok-push_hour.ensures
    (after _ _ _ _ _ _ c.in_ok-push_markup-2.ensures
    (after _ _ _ _ _ _ c.in_ok-push_fraction.ensures c.push_markup-3.ensures))))
