use Rattle.std.proofs.Common.{◌≡◌, List, [], ◌∷◌, length, map, refl, sym, ◌∙◌, append-nil, arith}
use Rattle.std.specs.Vec.Iter.{into_iter_items}
use Rattle.otlp_span.specs.Parts.{scope_view}
use Rattle.trace_script.proofs.scope.finished_scopes.Goals as goal

nothing-left : {X : Type 0} (l : List X) → length l ≡ 0 → l ≡ []
nothing-left [] h = refl
nothing-left (x ∷ xs) h = absurd (omega (arith, h))

pub returns : goal.returns
returns g c =
    let at = c.loop-draft in
    let empty : into_iter_items at.draft-iterator ≡ [] =
    nothing-left _ (sym at.invariant.1 ∙ c.in-None.ensures.steps.0) in
    let all = rw (empty, c.into_iter-draft-iterator.ensures.into_iter_gives.0) at at.invariant.0 in
    sym (append-nil (map scope_view at.scopes.items)) ∙ all
