use Rattle.view_pages.proofs.Parts.{after, same, same_ok}
use Rattle.view_pages.specs.Panels.{link_html, list_html, place_html, context_html}
use Rattle.view_pages.proofs.panel.push_link.Goals as goal

pub returns : goal.returns
unfolding link_html
returns g c =
    after _ _ _ _ _ _ c.in_ok-push_markup.ensures
    (after _ _ _ _ _ _
    (same _ _ _ _ (λ s. place_html c.args.link.now.trace_id.items s) c.deref-2.ensures.value
    (same _ _ _ _
    (λ t. place_html t c.deref-2.result.now) c.deref.ensures.value c.in_ok-push_place.ensures))
    (after _ _ _ _ _ _ c.in_ok-push_dropped.ensures
    (after _ _ _ _ _ _ c.in_ok-push_markup-2.ensures
    (after _ _ _ _ _ _
    (same _ _ _ _
    (λ s. context_html s c.args.link.now.flags) c.deref-3.ensures c.in_ok-push_context.ensures)
    (same_ok _ _ _ _ _ list_html c.deref-4.ensures.value c.push_list.ensures)))))
