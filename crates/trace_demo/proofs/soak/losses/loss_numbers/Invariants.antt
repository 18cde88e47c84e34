use Rattle.std.proofs.Common.{◌≡◌, take}
use Rattle.trace_demo.specs.Losses.{numbers_of}
use Rattle.trace_demo.proofs.soak.losses.loss_numbers.Given as goal

-- the numbers of the losses so far
abbrev pub invariant-loop-loss : goal.invariant-loop-loss
invariant-loop-loss l = l.numbers.items ≡ numbers_of (take l.loss-index l.losses)
