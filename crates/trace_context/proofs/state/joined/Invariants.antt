use Rattle.std.proofs.Common.{◌≡◌, ◌++◌, ◌∷◌, map, take, flat_map}
use Rattle.trace_context.proofs.state.joined.Given as goal

-- the entries so far, each of the others after a comma
abbrev pub invariant-loop-entry : goal.invariant-loop-entry
invariant-loop-entry g l =
    l.text.items
    ≡ l.initial.text.items
    ++ flat_map (λ e. 44 ∷ e) (map (λ e. e.now) (take l.entry-index l.others))
