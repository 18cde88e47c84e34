use Rattle.view_pages.proofs.Parts.{after, same_ok}
use Rattle.view_pages.specs.Panels.{event_html, list_html}
use Rattle.view_pages.proofs.panel.push_event.Goals as goal

pub returns : goal.returns
unfolding event_html
returns g c =
    after _ _ _ _ _ _ c.in_ok-push_event_name.ensures
    (after _ _ _ _ _ _ c.in_ok-push_dropped.ensures
    (after _ _ _ _ _ _ c.in_ok-push_markup.ensures
    (same_ok _ _ _ _ _ list_html c.deref.ensures.value c.push_list.ensures)))
