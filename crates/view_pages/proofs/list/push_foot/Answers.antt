use Rattle.view_pages.proofs.Parts.{after}
use Rattle.view_pages.specs.Lists.{foot_html}
use Rattle.view_pages.proofs.list.push_foot.Goals as goal

pub returns : goal.returns
unfolding foot_html
returns g c =
    after _ _ _ _ _ _ c.in_ok-push_markup.ensures
    (after _ _ _ _ _ _ c.in_ok-push_text.ensures c.push_markup-2.ensures)
