use Rattle.std.proofs.Common.{◌≡◌, fold, drop}
use Rattle.traced_service.specs.Sums.{left_out_after, not_started_after}
use Rattle.traced_service.proofs.counts.refused_of.Given as goal

abbrev pub invariant-loop-thread : goal.invariant-loop-thread
invariant-loop-thread g l =
    (fold not_started_after l.not_started (drop l.thread-index l.threads)
    ≡ fold not_started_after 0 l.threads)
    × (fold left_out_after l.left_out (drop l.thread-index l.threads)
    ≡ fold left_out_after 0 l.threads)
