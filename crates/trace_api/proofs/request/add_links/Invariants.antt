use Rattle.std.proofs.Common.{take}
use Rattle.model_span.specs.Starts.{IgnoredUnlessRecording}
use Rattle.trace_api.specs.Request.{lent_links, link_calls}
use Rattle.trace_api.specs.ExtCalls.{DoesAll}
use Rattle.trace_api.proofs.request.add_links.Given as goal

-- The links so far are added.
abbrev pub invariant-loop-asked : goal.invariant-loop-asked
invariant-loop-asked g l = record {
  made : DoesAll (take l.asked-index (link_calls (lent_links l.links))) l.fn.span l.span;
  ignored : IgnoredUnlessRecording l.fn.span l.span;
}
