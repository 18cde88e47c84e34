use Rattle.std.proofs.Common.{◌≡◌, take}
use Rattle.trace_store.specs.Traces.{joined_traces, span_count}
use Rattle.trace_store.proofs.joined.joined_spans.Given as goal

-- the spans of the traces of the parts so far
abbrev pub invariant-loop-trace : goal.invariant-loop-trace
invariant-loop-trace g l =
    l.total ≡ span_count (joined_traces l.traces.entries (take l.trace-index l.parts))
