use Rattle.std.proofs.Common.{◌≡◌, ◌+◌, ◌++◌, length}
use Rattle.account_book.specs.Accounts.{Closes}
use Rattle.simple_processor.specs.AnyAccounts.{pass_accounts}
use Rattle.simple_processor.proofs.shared.Shared.close.Given as goal

abbrev pub invariant-loop-pass : goal.invariant-loop-pass
invariant-loop-pass g l =
    Closes (pass_accounts l.initial.self-inside.book) l.yielded (pass_accounts l.self-inside.book)
    × (length l.initial.self-inside.book ≡ length l.self-inside.book + length l.yielded)
    × (l.yielded ++ l.pass-iterator.rest.items ≡ l.fn.passes.items)
    × (l.self-inside.export ≡ l.initial.self-inside.export)
    × (l.self-inside.passes ≡ l.initial.self-inside.passes)
    × (l.self-inside.began ≡ l.initial.self-inside.began)
    × (l.self-inside.max_body ≡ l.initial.self-inside.max_body)
