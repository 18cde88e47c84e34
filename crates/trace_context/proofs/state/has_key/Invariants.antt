use Rattle.std.proofs.Common.{◌≡◌, map, length}
use Rattle.trace_context.specs.Tracestate.{has_key}
use Rattle.trace_context.proofs.state.has_key.Given as goal

-- those that are done have other keys
abbrev pub invariant-loop-rest : goal.invariant-loop-rest
invariant-loop-rest l =
    has_key l.key (map (λ e. e.now) l.rest) ≡ has_key l.key (map (λ e. e.now) l.entries)

abbrev pub decreases-loop-rest : goal.decreases-loop-rest
decreases-loop-rest l = length l.rest
