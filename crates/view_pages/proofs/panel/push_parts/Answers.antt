use Rattle.std.proofs.Common.{codes}
use Rattle.view_pages.proofs.Parts.{after, same}
use Rattle.view_pages.specs.Panels.{attributes_html, parts_html}
use Rattle.view_pages.proofs.panel.push_parts.Goals as goal

pub returns : goal.returns
unfolding parts_html
returns g c =
    after _ _ _ _ _ _
    (same _ _ _ _
    (λ l. attributes_html (codes "Attributes") l c.args.span.now.dropped_attributes_count)
    c.deref.ensures.value c.in_ok-push_attributes.ensures)
    (after _ _ _ _ _ _ c.in_ok-push_events.ensures c.push_links.ensures)
