use Rattle.view_pages.proofs.Parts.{after, same, same_ok}
use Rattle.view_pages.specs.Panels.{panel_html, resource_html, scope_html}
use Rattle.view_pages.proofs.panel.push_panel.Goals as goal

pub returns : goal.returns
unfolding panel_html
returns g c =
    after _ _ _ _ _ _ c.in_ok-push_facts.ensures
    (after _ _ _ _ _ _ c.in_ok-push_parts.ensures
    (after _ _ _ _ _ _ (same _ _ _ _ resource_html c.deref.ensures c.in_ok-push_resource.ensures)
    (same_ok _ _ _ _ _ scope_html c.deref-2.ensures c.push_scope.ensures)))
