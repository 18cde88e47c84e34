use Rattle.view_pages.proofs.Parts.{after, same_ok}
use Rattle.view_pages.specs.Panels.{times_html, context_html}
use Rattle.view_pages.proofs.panel.push_times.Goals as goal

pub returns : goal.returns
unfolding times_html
returns g c =
    after _ _ _ _ _ _ c.in_ok-push_markup.ensures
    (after _ _ _ _ _ _ c.in_ok-push_instant.ensures
    (after _ _ _ _ _ _ c.in_ok-push_markup-2.ensures
    (after _ _ _ _ _ _ c.in_ok-push_instant-2.ensures
    (same_ok _ _ _ _ _
    (λ s. context_html s c.args.span.now.flags) c.deref.ensures c.push_context.ensures))))
