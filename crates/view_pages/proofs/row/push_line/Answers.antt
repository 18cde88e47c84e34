use Rattle.view_pages.proofs.Parts.{after}
use Rattle.view_pages.specs.Rows.{row_html}
use Rattle.view_pages.proofs.row.push_line.Goals as goal

pub returns : goal.returns
unfolding row_html
returns g c =
    after _ _ _ _ _ _ c.in_ok-push_markup.ensures
    (after _ _ _ _ _ _ c.in_ok-push_number.ensures
    (after _ _ _ _ _ _ c.in_ok-push_markup-2.ensures c.push_rest.ensures))
