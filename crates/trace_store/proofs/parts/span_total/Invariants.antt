use Rattle.std.proofs.Common.{◌≡◌, take}
use Rattle.trace_store.specs.Traces.{span_count}
use Rattle.trace_store.proofs.parts.span_total.Given as goal

-- the spans of the parts so far
abbrev pub invariant-loop-spans : goal.invariant-loop-spans
invariant-loop-spans g l = l.total ≡ span_count (take l.spans-index l.parts)
