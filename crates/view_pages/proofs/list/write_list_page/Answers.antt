use Rattle.view_pages.proofs.Parts.{after}
use Rattle.view_pages.specs.Lists.{list_html}
use Rattle.view_pages.proofs.list.write_list_page.Goals as goal

pub returns : goal.returns
unfolding list_html
returns g c =
    after _ _ _ _ _ _ c.in_ok-push_list_head.ensures
    (after _ _ _ _ _ _ c.in_ok-push_shown.ensures
    (after _ _ _ _ _ _ c.in_ok-push_table.ensures
    (after _ _ _ _ _ _ c.in_ok-push_more.ensures c.push_foot.ensures)))
