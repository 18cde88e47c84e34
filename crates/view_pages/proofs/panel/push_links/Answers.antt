use Rattle.view_pages.proofs.Parts.{after, same_ok}
use Rattle.view_pages.specs.Html.{each}
use Rattle.view_pages.specs.Panels.{link_html, links_html}
use Rattle.view_pages.proofs.panel.push_links.Goals as goal

pub returns : goal.returns
unfolding links_html
returns g c =
    after _ _ _ _ _ _ c.in_ok-push_markup.ensures
    (after _ _ _ _ _ _ c.in_ok-push_dropped.ensures
    (after _ _ _ _ _ _ c.in_ok-push_markup-2.ensures
    (same_ok _ _ _ _ _ (each link_html) c.deref.ensures.value c.push_each_link.ensures)))
