use Rattle.std.proofs.Common.{◌≡◌, ◌≤◌, ◌++◌, length}
use Rattle.std.specs.Prelude.{vec_capacity, vec_len}
use Rattle.batch_service.proofs.threads.fill.Given as goal

-- there is room for the passes that are left
abbrev pub invariant-loop-pass : goal.invariant-loop-pass
invariant-loop-pass g l =
    (l.yielded ++ l.pass-iterator.rest.items ≡ l.fn.passes.items) ×
    (vec_len l.lanes ≡ length l.yielded) ×
    (vec_len l.fn.passes ≤ vec_capacity l.lanes)
