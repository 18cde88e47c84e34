use Rattle.std.proofs.Common.{map, take}
use Rattle.model_span.specs.Spans.{Records, KeepsPlace}
use Rattle.otlp_span.specs.Parts.{start_view, call_view, opened_recording}
use Rattle.otlp_span.proofs.calls.replay.Given as goal

-- What is recorded is the value of the calls so far, of which none is an end.
abbrev pub invariant-loop-call : goal.invariant-loop-call
invariant-loop-call g l = record {
  place : KeepsPlace (opened_recording l.fn.limits l.fn.opening) l.record;
  value : Records l.record (start_view l.fn.opening) (map call_view (take l.call-index l.calls));
}
