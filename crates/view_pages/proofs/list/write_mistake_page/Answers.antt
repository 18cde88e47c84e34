use Rattle.view_pages.proofs.Parts.{after}
use Rattle.view_pages.specs.Lists.{mistake_html}
use Rattle.view_pages.proofs.list.write_mistake_page.Goals as goal

pub returns : goal.returns
unfolding mistake_html
returns g c =
    after _ _ _ _ _ _ c.in_ok-push_list_head.ensures
    (after _ _ _ _ _ _ c.in_ok-push_markup.ensures
    (after _ _ _ _ _ _ c.in_ok-push_number.ensures
    (after _ _ _ _ _ _ c.in_ok-push_markup-2.ensures
    (after _ _ _ _ _ _ c.in_ok-push_text.ensures
    (after _ _ _ _ _ _ c.in_ok-push_markup-3.ensures c.push_foot.ensures)))))
