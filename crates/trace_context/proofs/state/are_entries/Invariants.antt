use Rattle.std.proofs.Common.{◌≡◌, map, length}
use Rattle.trace_context.specs.Tracestate.{are_entries}
use Rattle.trace_context.proofs.state.are_entries.Given as goal

-- those that are done are entries of keys of their own
abbrev pub invariant-loop-rest : goal.invariant-loop-rest
invariant-loop-rest l =
    are_entries (map (λ e. e.now) l.rest) ≡ are_entries (map (λ e. e.now) l.entries)

abbrev pub decreases-loop-rest : goal.decreases-loop-rest
decreases-loop-rest l = length l.rest
