use Rattle.view_pages.proofs.Parts.{after, same}
use Rattle.view_pages.specs.Html.{each}
use Rattle.view_pages.specs.Rows.{tick_html, time_html}
use Rattle.view_pages.specs.Times.{duration}
use Rattle.view_pages.proofs.row.push_time.Goals as goal

pub returns : goal.returns
unfolding time_html
returns g c =
    after _ _ _ _ _ _ c.in_ok-push_markup.ensures
    (after _ _ _ _ _ _
    (same _ _ _ _ (each (tick_html c.args.frame)) c.deref.ensures.value c.in_ok-push_ticks.ensures)
    (after _ _ _ _ _ _ c.in_ok-push_markup-2.ensures
    (after _ _ _ _ _ _
    (same _ _ _ _ duration c.time_of.ensures c.in_ok-push_duration.ensures)
    c.push_markup-3.ensures)))
