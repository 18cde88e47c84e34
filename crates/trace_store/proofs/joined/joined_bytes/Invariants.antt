use Rattle.std.proofs.Common.{◌≡◌, take}
use Rattle.trace_store.specs.Traces.{byte_count, joined_traces}
use Rattle.trace_store.proofs.joined.joined_bytes.Given as goal

-- the bytes of the traces of the parts so far
abbrev pub invariant-loop-trace : goal.invariant-loop-trace
invariant-loop-trace g l =
    l.total
    ≡ byte_count g.S.SpanSize.size_of
    (joined_traces l.traces.entries (take l.trace-index l.parts))
