use Rattle.std.proofs.Common.{rules, arith, ◌≡◌, ◌≤◌, ◌++◌, ◌∷◌, [], ap, sym, subst, length}
use Rattle.std.proofs.Common.{vec_len}
use Rattle.std.specs.Prelude.{vec_capacity}
use Rattle.std.specs.List.{AllByRecursion}
use Rattle.std.proofs.lemmas.List.{length-append}
use Rattle.account_book.proofs.Facts.{each_append, yields_each, yields_step}
use Rattle.model_processor.specs.Passes.{PassAccount, new_account}
use Rattle.simple_processor.specs.AnyAccounts.{account_in, pass}
use Rattle.simple_processor.proofs.processor.give_passes.Goals as goal

pub loop-account-preserved : goal.loop-account-preserved
loop-account-preserved g c =
    let i = c.loop-account.invariant in let next = c.in-Some.ensures.steps.0 in
    let new : c.in-Some.account ≡ pass new_account =
    yields_each (λ h. h ≡ pass new_account) c.loop-account.yielded
    c.loop-account.account-iterator.rest.items c.next.new.self.rest.items c.args.accounts.items
    c.in-Some.account i.0 next c.requires in
    let longer = length-append c.loop-account.yielded (c.in-Some.account ∷ []) in
    let count : vec_len c.push_reserved.new.self
    ≡ length (c.loop-account.yielded ++ c.in-Some.account ∷ []) =
    let e = i.1 in let f = c.push_reserved.ensures.len in omega arith in
    let room : length c.args.accounts.items ≤ vec_capacity c.push_reserved.new.self =
    search rules in (
      yields_step c.loop-account.yielded c.loop-account.account-iterator.rest.items
          c.next.new.self.rest.items c.args.accounts.items c.in-Some.account i.0 next,
      count,
      room,
      subst (AllByRecursion (λ (a : PassAccount). a ≡ new_account))
          (sym c.push_reserved.ensures.items)
          (each_append (λ (a : PassAccount). a ≡ new_account) c.loop-account.passes.items _ i.3
          (ap account_in new, tt)),
    )
