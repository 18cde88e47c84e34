use Rattle.std.proofs.Common.{map, take}
use Rattle.model_span.specs.Spans.{set_attribute}
use Rattle.model_span.specs.Starts.{IgnoredUnlessRecording}
use Rattle.trace_api.specs.ExtCalls.{DoesAll}
use Rattle.trace_api.specs.Lent.{lent_pairs}
use Rattle.trace_api.proofs.extension.SpanSpanExt.set_all.Given as goal

-- The attributes so far are set.
abbrev pub invariant-loop-pair : goal.invariant-loop-pair
invariant-loop-pair g l = record {
  made : DoesAll (take l.pair-index (map set_attribute (lent_pairs l.pairs))) l.fn.self l.self;
  ignored : IgnoredUnlessRecording l.fn.self l.self;
}
