use Rattle.std.proofs.Common.{◌≡◌, ap, refl, rules, subst}
use Rattle.std.specs.Prelude.{None, slice_get}
use Rattle.model_processor.specs.Kept.{IsShared}
use Rattle.model_desk.specs.Desks.{Desk}
use Rattle.model_processor.proofs.AccountState.{kept_pass}
use Rattle.batch_processor.specs.Views.{setup_view}
use Rattle.otlp_span.specs.Dropped.{entry_view}
use Rattle.model_processor.specs.Passes.{after_pop}
use Rattle.model_processor.specs.AnyAccounts.{account_in}
use Rattle.model_processor.proofs.Passes.{pop_agrees}
use Rattle.batch_processor.proofs.Holds.{none_popped, popped_first, popped_is}
use Rattle.batch_processor.proofs.lock.shared.Shared.pop_entry.Goals as goal

pub invariant_of-self-2 : goal.invariant_of-self-2
invariant_of-self-2 g c =
    let desk = c.self.inside.desk in
    let after = c.pop_entry_slip.new.self in
    let a = account_in c.args.account.now in
    let e = entry_view c.in_ok-entry.entry in
    kept_pass (setup_view c.self.inside.setup) c.self.inside.left c.self.inside.desk after
    c.self.inside.book c.record.new.self c.args.account.now c.record.new.account c.self.invariant
    c.record.ensures.book
    (ap (λ (d : Desk). d.config) c.pop_entry_slip.ensures.desk)
    (after_pop e) c.requires c.record.ensures.account
    (λ w new is r k. pop_agrees desk w _ new a (after_pop e a) r k after e
    (popped_first desk after e c.in_ok-entry.ensures.newest c.pop_entry_slip.ensures.desk)
    (popped_is desk after c.pop_entry_slip.ensures.desk) refl)

pub invariant_of-self : goal.invariant_of-self
invariant_of-self g c =
    let desk = c.self.inside.desk in let none : None ≡ slice_get desk.ledger 0 = search rules in
    subst (λ (d : Desk).
    IsShared (setup_view c.self.inside.setup) c.self.inside.left d c.self.inside.book)
    (none_popped desk c.pop_entry_slip.new.self none c.pop_entry_slip.ensures.desk) c.self.invariant
