use Rattle.view_pages.proofs.Parts.{after}
use Rattle.view_pages.specs.Lists.{list_head_html}
use Rattle.view_pages.proofs.list.push_list_head.Goals as goal

pub returns : goal.returns
unfolding list_head_html
returns g c =
    after _ _ _ _ _ _ c.in_ok-push_start.ensures
    (after _ _ _ _ _ _ c.in_ok-push_markup.ensures c.push_form.ensures)
