use Rattle.std.proofs.Common.{◌≡◌, ◌+◌, ◌++◌, length}
use Rattle.account_book.specs.Accounts.{Closes}
use Rattle.model_processor.specs.AnyAccounts.{pass_accounts}
use Rattle.batch_processor.proofs.lock.shared.Shared.close.Given as goal

abbrev pub invariant-loop-pass : goal.invariant-loop-pass
invariant-loop-pass g l =
    Closes (pass_accounts l.initial.self-inside.book) l.yielded (pass_accounts l.self-inside.book)
    × (length l.initial.self-inside.book ≡ length l.self-inside.book + length l.yielded)
    × (l.yielded ++ l.pass-iterator.rest.items ≡ l.fn.passes.items)
    × (l.self-inside.desk ≡ l.initial.self-inside.desk)
    × (l.self-inside.setup ≡ l.initial.self-inside.setup)
    × (l.self-inside.spent ≡ l.initial.self-inside.spent)
