use Rattle.view_pages.proofs.Parts.{after}
use Rattle.view_pages.specs.Panels.{attributes_html}
use Rattle.view_pages.proofs.panel.push_attributes.Goals as goal

pub returns : goal.returns
unfolding attributes_html
returns g c =
    after _ _ _ _ _ _ c.in_ok-push_markup.ensures
    (after _ _ _ _ _ _ c.in_ok-push_markup-2.ensures
    (after _ _ _ _ _ _ c.in_ok-push_dropped.ensures
    (after _ _ _ _ _ _ c.in_ok-push_markup-3.ensures c.push_list.ensures)))
