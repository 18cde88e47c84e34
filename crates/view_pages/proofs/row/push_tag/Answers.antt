use Rattle.view_pages.proofs.Parts.{after}
use Rattle.view_pages.specs.Rows.{tag_html}
use Rattle.view_pages.proofs.row.push_tag.Goals as goal

pub returns : goal.returns
unfolding tag_html
returns g c =
    after _ _ _ _ _ _ c.in_ok-push_class.ensures
    (after _ _ _ _ _ _ c.in_ok-push_depth.ensures c.push_bar.ensures)
