use Rattle.std.proofs.Common.{rules, ◌≡◌, inl, inr, subst, arith}
use Rattle.std.proofs.lemmas.Bool.{cases_lt}
use Rattle.std.specs.List.{slice_index}
use Rattle.trace_demo.specs.Memory.{IsNear}
use Rattle.trace_demo.proofs.soak.memory.is_flat.Goals as goal

-- the size at the index is near too
pub loop-at-preserved : goal.loop-at-preserved
loop-at-preserved c k below =
    let near : IsNear c.args.first.now c.args.slack (slice_index c.args.later.now c.loop-at.at) =
    search rules in
    elim (cases_lt k c.loop-at.at) [
      | inl less ↦ c.loop-at.invariant k less
      | inr most ↦
          let at : c.loop-at.at ≡ k = omega (arith, most, below) in
          subst (λ i. IsNear c.args.first.now c.args.slack (slice_index c.args.later.now i)) at near
    ]
