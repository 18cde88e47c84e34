use Rattle.std.proofs.Common.{◌≡◌, ◌++◌, string_bytes, drop}
use Rattle.view_pages.specs.Html.{each, html_bytes}
use Rattle.view_pages.specs.Rows.{tick_html}
use Rattle.view_pages.proofs.row.push_ticks.Given as goal

-- what is written, and then what is left, are all
abbrev pub invariant-loop-event : goal.invariant-loop-event
invariant-loop-event g l =
    string_bytes l.out ++ html_bytes (each (tick_html l.frame) (drop l.event-index l.events))
    ≡ string_bytes l.initial.out ++ html_bytes (each (tick_html l.frame) l.events)
