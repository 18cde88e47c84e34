use Rattle.std.proofs.Common.{codes}
use Rattle.view_pages.proofs.Parts.{after, same, same_ok}
use Rattle.view_pages.specs.Panels.{attributes_html, resource_html, url_html}
use Rattle.view_pages.proofs.panel.push_resource.Goals as goal

pub returns : goal.returns
unfolding resource_html
returns g c =
    after _ _ _ _ _ _
    (same _ _ _ _
    (λ l. attributes_html (codes "Resource") l c.args.shared.now.resource.dropped_attributes_count)
    c.deref.ensures.value c.in_ok-push_attributes.ensures)
    (same_ok _ _ _ _ _ url_html c.deref-2.ensures c.push_schema_url.ensures)
