use Rattle.view_pages.proofs.Parts.{after, same}
use Rattle.view_pages.specs.Html.{Number}
use Rattle.view_pages.specs.Rows.{depth_html}
use Rattle.view_pages.proofs.row.push_depth.Goals as goal

pub returns : goal.returns
unfolding depth_html
returns g c =
    after _ _ _ _ _ _ c.in_ok-push_markup.ensures
    (after _ _ _ _ _ _ (same _ _ _ _ Number c.level_of.ensures c.in_ok-push_number.ensures)
    (after _ _ _ _ _ _ c.in_ok-push_markup-2.ensures c.push_number-2.ensures))
