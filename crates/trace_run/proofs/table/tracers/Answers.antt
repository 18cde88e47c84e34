use Rattle.std.proofs.Common.{◌≡◌, [], sym, ◌∙◌, append-nil}
use Rattle.std.specs.Vec.Iter.{into_iter_items}
use Rattle.trace_run.proofs.SpanSteps.{nothing-left}
use Rattle.trace_run.proofs.table.tracers.Goals as goal

pub returns : goal.returns
returns g c =
    let at = c.loop-scope in
    let empty : into_iter_items at.scope-iterator ≡ [] =
    nothing-left _ (sym at.invariant.1 ∙ c.in-None.ensures.steps.0) in
    let all = rw (empty, c.into_iter-scope-iterator.ensures.into_iter_gives.0) at at.invariant.0 in
    sym (append-nil at.tracers.items) ∙ all
