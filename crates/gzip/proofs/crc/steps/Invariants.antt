use Rattle.std.proofs.Common.{◌≡◌, ◌≤◌, ◌-◌}
use Rattle.model_deflate.specs.Crc.{divided_by}
use Rattle.gzip.proofs.crc.steps.Given as goal

abbrev pub invariant-loop-done : goal.invariant-loop-done
invariant-loop-done l = record {
  within : l.done ≤ 8;
  state : l.state ≡ divided_by l.done l.fn.byte;
}

abbrev pub decreases-loop-done : goal.decreases-loop-done
decreases-loop-done l = 8 - l.done
