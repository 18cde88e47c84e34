use Rattle.std.proofs.Common.{codes, string_bytes}
use Rattle.view_pages.proofs.Parts.{after, same, same_ok}
use Rattle.view_pages.specs.Panels.{attributes_html, scope_html, url_html, version_html}
use Rattle.view_pages.proofs.panel.push_scope.Goals as goal

pub returns : goal.returns
unfolding scope_html
returns g c =
    after _ _ _ _ _ _
    (same _ _ _ _
    (λ l. attributes_html (codes "Scope") l c.args.shared.now.scope.dropped_attributes_count)
    c.deref.ensures.value c.in_ok-push_attributes.ensures)
    (after _ _ _ _ _ _
    (same _ _ _ _
    (λ v. version_html (string_bytes c.args.shared.now.scope.name) v) c.deref-3.ensures
    (same _ _ _ _
    (λ n. version_html n c.deref-3.result.now) c.deref-2.ensures c.in_ok-push_version.ensures))
    (same_ok _ _ _ _ _ url_html c.deref-4.ensures c.push_schema_url.ensures))
