use Rattle.std.proofs.Common.{◌≡◌, ◌++◌, map, take, flat_map}
use Rattle.trace_context.specs.Tracestate.{entry_in}
use Rattle.traced_http.specs.Methods.{lent_methods}
use Rattle.traced_http.proofs.method.push_methods.Given as goal

-- the methods so far are added
abbrev pub invariant-loop-part : goal.invariant-loop-part
invariant-loop-part l =
    lent_methods l.methods.items
    ≡ lent_methods l.fn.methods.items
    ++ flat_map entry_in (map (λ p. p.now) (take l.part-index l.parts))
