use Rattle.std.proofs.Common.{◌≤◌, vec_len}
use Rattle.relay_store.proofs.names.copy_newest.Given as goal

abbrev pub invariant-loop-back : goal.invariant-loop-back
invariant-loop-back l = vec_len l.copies ≤ l.back
