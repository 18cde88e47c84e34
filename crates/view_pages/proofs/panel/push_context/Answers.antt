use Rattle.view_pages.proofs.Parts.{after}
use Rattle.view_pages.specs.Panels.{context_html}
use Rattle.view_pages.proofs.panel.push_context.Goals as goal

pub returns : goal.returns
unfolding context_html
returns g c =
    after _ _ _ _ _ _ c.in_ok-push_after.ensures
    (after _ _ _ _ _ _ c.in_ok-push_markup.ensures
    (after _ _ _ _ _ _ c.in_ok-push_flags.ensures c.push_markup-2.ensures))
