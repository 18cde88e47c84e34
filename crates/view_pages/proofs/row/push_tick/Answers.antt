use Rattle.view_pages.proofs.Parts.{after, same}
use Rattle.view_pages.specs.Html.{Number}
use Rattle.view_pages.specs.Rows.{tick_html}
use Rattle.view_pages.proofs.row.push_tick.Goals as goal

pub returns : goal.returns
unfolding tick_html
returns g c =
    after _ _ _ _ _ _ c.in_ok-push_markup.ensures
    (after _ _ _ _ _ _
    (same _ _ _ _ Number c.share_of.ensures.value c.in_ok-push_number.ensures)
    c.push_markup-2.ensures)
