use Rattle.std.specs.Prelude.{◌^◌}
use Rattle.batch_processor.specs.Working.{IsPrepared}
use Rattle.test_processor.proofs.batch.player.work.Given as goal

abbrev pub invariant-loop-time : goal.invariant-loop-time
invariant-loop-time g l = IsPrepared (λ _. 2 ^ 32) l.worker
