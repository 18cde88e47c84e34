use Rattle.std.proofs.Common.{◌≡◌, ◌++◌, map, take, flat_map}
use Rattle.trace_context.specs.Tracestate.{entry_in}
use Rattle.trace_context.proofs.state.add_entries.Given as goal

-- the members so far are added
abbrev pub invariant-loop-member : goal.invariant-loop-member
invariant-loop-member g l =
    map (λ e. e.now) l.entries.items
    ≡ map (λ e. e.now) l.fn.entries.items
    ++ flat_map entry_in (map (λ m. m.now) (take l.member-index l.members))
