use Rattle.std.proofs.Common.{arith, refl, ap, sym, ◌∙◌, ◌≡◌}
use Rattle.model_deflate.specs.Crc.{divided_by, divided}
use Rattle.gzip.proofs.CrcLaws.{steps-add}
use Rattle.gzip.proofs.crc.steps.Goals as goal

pub loop-done-init : goal.loop-done-init
unfolding divided_by
loop-done-init c = record { within = omega arith; state = refl }

pub loop-done-preserved : goal.loop-done-preserved
unfolding divided_by
loop-done-preserved c = record {
  within = omega arith;
  state =
      c.step-state.ensures
      ∙ (ap divided c.loop-done.invariant.state ∙ sym (steps-add c.loop-done.done 1 c.args.byte));
}

pub returns : goal.returns
returns c =
    let e : c.loop-done.done ≡ 8 = omega arith in
    c.loop-done.invariant.state ∙ ap (λ n. divided_by n c.args.byte) e
