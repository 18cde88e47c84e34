use Rattle.std.proofs.Common.{◌≡◌, take}
use Rattle.trace_store.specs.Traces.{byte_count}
use Rattle.trace_store.proofs.parts.byte_total.Given as goal

-- the bytes of the parts so far
abbrev pub invariant-loop-spans : goal.invariant-loop-spans
invariant-loop-spans g l = l.total ≡ byte_count g.S.SpanSize.size_of (take l.spans-index l.parts)
