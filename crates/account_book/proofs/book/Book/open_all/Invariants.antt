use Rattle.std.proofs.Common.{◌≡◌, ◌≤◌, ◌++◌, vec_len}
use Rattle.std.specs.Prelude.{vec_capacity}
use Rattle.std.specs.List.{AllByRecursion}
use Rattle.account_book.proofs.book.Book.open_all.Given as goal

abbrev pub invariant-loop-account : goal.invariant-loop-account
invariant-loop-account g l =
    (l.self ≡ l.initial.self ++ l.opened.items) × (vec_len l.opened ≡ l._account)
    × (l.count ≤ vec_capacity l.opened)
    × AllByRecursion (λ v. v ≡ g.O.Opening.first) l.opened.items
