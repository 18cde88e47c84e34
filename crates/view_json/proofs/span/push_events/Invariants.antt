use Rattle.std.proofs.Common.{◌≡◌, ◌++◌, drop}
use Rattle.std.specs.List.{flat_map}
use Rattle.otlp_json.specs.Seen.{seen}
use Rattle.view_json.specs.Spans.{event_seen}
use Rattle.view_json.proofs.span.push_events.Given as goal

-- what is written, and then those that are left, are all
abbrev pub invariant-loop-event : goal.invariant-loop-event
invariant-loop-event g l = record {
  written : seen l.out.tokens ++ flat_map event_seen (drop l.event-index l.events)
      ≡ seen l.fn.out.tokens ++ flat_map event_seen l.events;
  before : l.out.before ≡ l.fn.out.before;
}
