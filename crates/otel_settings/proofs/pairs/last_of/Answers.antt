use Rattle.std.proofs.Common.{◌<◌, length, arith, sym, ◌∙◌}
use Rattle.otel_settings.proofs.LastOf.{none_yet, more_same, more_other}
use Rattle.otel_settings.proofs.pairs.last_of.Goals as goal
use Rattle.otel_settings.proofs.pairs.last_of.Goals.{then-eq, else-eq}

pub loop-key-init : goal.loop-key-init
loop-key-init c = none_yet c.args.name.now

pub loop-key-preserved : goal.loop-key-preserved
loop-key-preserved c =
    let inside : c.loop-key.key-index < length c.args.pairs.now = omega arith in
    elim c.if-eq.branch [
      | then-eq w ↦ rw w.last-is (more_same _ _ _ _ inside (sym c.eq.ensures ∙ w.if-eq.true))
      | else-eq w ↦
          rw w.last-is
          (c.loop-key.invariant ∙ more_other _ _ _ _ inside (sym c.eq.ensures ∙ w.if-eq.false))
    ]
