use Rattle.std.proofs.Common.{◌≡◌, ◌++◌, string_bytes, drop}
use Rattle.std.specs.List.{flat_map}
use Rattle.otlp_read.specs.Spans.{events_view}
use Rattle.otlp_collector.specs.Lines.{event_lines}
use Rattle.otlp_collector.proofs.line.push_events.Given as goal

-- what is written, and then the lines of the events that are left, are all
abbrev pub invariant-loop-event : goal.invariant-loop-event
invariant-loop-event g l =
    string_bytes l.out ++ flat_map event_lines (events_view (drop l.event-index l.events))
    ≡ string_bytes l.initial.out ++ flat_map event_lines (events_view l.events)
