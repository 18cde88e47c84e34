use Rattle.std.proofs.Common.{◌≡◌, ◌++◌, string_bytes, drop}
use Rattle.view_pages.specs.Html.{each, html_bytes}
use Rattle.view_pages.specs.Panels.{event_html}
use Rattle.view_pages.proofs.panel.push_each_event.Given as goal

-- what is written, and then the events that are left, are all
abbrev pub invariant-loop-event : goal.invariant-loop-event
invariant-loop-event g l =
    string_bytes l.out ++ html_bytes (each (event_html l.start) (drop l.event-index l.events))
    ≡ string_bytes l.initial.out ++ html_bytes (each (event_html l.start) l.events)
