use Rattle.view_pages.proofs.Parts.{after, same_ok}
use Rattle.view_pages.specs.Html.{each}
use Rattle.view_pages.specs.Panels.{event_html, events_html}
use Rattle.view_pages.proofs.panel.push_events.Goals as goal

pub returns : goal.returns
unfolding events_html
returns g c =
    after _ _ _ _ _ _ c.in_ok-push_markup.ensures
    (after _ _ _ _ _ _ c.in_ok-push_dropped.ensures
    (after _ _ _ _ _ _ c.in_ok-push_markup-2.ensures
    (same_ok _ _ _ _ _
    (each (event_html c.args.span.now.start_time_unix_nano)) c.deref.ensures.value
    c.push_each_event.ensures)))
