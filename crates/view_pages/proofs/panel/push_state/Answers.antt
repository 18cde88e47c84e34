use Rattle.view_pages.proofs.Parts.{after, same_ok}
use Rattle.view_pages.specs.Panels.{message_html, state_html}
use Rattle.view_pages.proofs.panel.push_state.Goals as goal

pub returns : goal.returns
unfolding state_html
returns g c =
    after _ _ _ _ _ _ c.in_ok-push_markup.ensures
    (after _ _ _ _ _ _ c.in_ok-push_kind.ensures
    (after _ _ _ _ _ _ c.in_ok-push_markup-2.ensures
    (after _ _ _ _ _ _ c.in_ok-push_status.ensures
    (same_ok _ _ _ _ _ message_html c.deref.ensures c.push_after.ensures))))
