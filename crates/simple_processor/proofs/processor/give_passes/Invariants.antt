use Rattle.std.proofs.Common.{◌≡◌, ◌≤◌, ◌++◌, length, vec_len}
use Rattle.std.specs.Prelude.{vec_capacity}
use Rattle.std.specs.List.{AllByRecursion}
use Rattle.model_processor.specs.Passes.{new_account}
use Rattle.simple_processor.proofs.processor.give_passes.Given as goal

abbrev pub invariant-loop-account : goal.invariant-loop-account
invariant-loop-account g l =
    (l.yielded ++ l.account-iterator.rest.items ≡ l.fn.accounts.items)
    × (vec_len l.passes ≡ length l.yielded) × (length l.fn.accounts.items ≤ vec_capacity l.passes)
    × AllByRecursion (λ a. a ≡ new_account) l.passes.items
