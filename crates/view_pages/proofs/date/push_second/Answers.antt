use Rattle.view_pages.proofs.Parts.{after}
use Rattle.view_pages.specs.Dates.{second_html}
use Rattle.view_pages.proofs.date.push_second.Goals as goal

pub returns : goal.returns
unfolding second_html
returns g c =
    after _ _ _ _ _ _ c.in_ok-push_day.ensures
    (after _ _ _ _ _ _ c.in_ok-push_markup.ensures c.push_hour.ensures)
