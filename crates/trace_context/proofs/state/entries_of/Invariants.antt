use Rattle.std.proofs.Common.{◌≡◌, map, take, flat_map}
use Rattle.trace_context.specs.Tracestate.{entries_in}
use Rattle.trace_context.proofs.state.entries_of.Given as goal

-- the entries of the values so far
abbrev pub invariant-loop-value : goal.invariant-loop-value
invariant-loop-value g l =
    map (λ e. e.now) l.entries.items
    ≡ flat_map entries_in (map (λ v. v.now) (take l.value-index l.values))
