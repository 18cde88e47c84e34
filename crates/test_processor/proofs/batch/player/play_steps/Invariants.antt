use Rattle.std.specs.Prelude.{◌^◌}
use Rattle.batch_processor.specs.Working.{IsPrepared}
use Rattle.test_processor.proofs.batch.player.play_steps.Given as goal

abbrev pub invariant-loop-step : goal.invariant-loop-step
invariant-loop-step g l = IsPrepared (λ _. 2 ^ 32) l.worker
