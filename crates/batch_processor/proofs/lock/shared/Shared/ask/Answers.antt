use Rattle.std.proofs.Common.{ap, ◌∙◌, Bool, true, false, subst, sym}
use Rattle.model_desk.specs.Desks.{accepted_count, Desk}
use Rattle.model_processor.proofs.AccountState.{kept_pass}
use Rattle.batch_processor.specs.Views.{setup_view}
use Rattle.model_processor.specs.AnyAccounts.{account_in, after_flush, after_shutdown}
use Rattle.model_processor.proofs.Passes.{flush_agrees, shutdown_agrees}
use Rattle.batch_processor.specs.Holds.{Asks, Guarded}
use Rattle.batch_processor.proofs.Holds.{asks_of, in_hold}
use Rattle.batch_processor.proofs.lock.shared.Shared.ask.Goals as goal

pub invariant_of-self : goal.invariant_of-self
invariant_of-self g c =
    let desk = c.self.inside.desk in
    let a = account_in c.args.account.now in
    let seen = c.of-seen.result.value in
    let f = after_shutdown seen.next_ticket (accepted_count seen) in
    kept_pass (setup_view c.self.inside.setup) c.self.inside.left c.self.inside.desk
    c.shutdown-mark.new.self c.self.inside.book c.record.new.self c.args.account.now
    c.record.new.account c.self.invariant c.record.ensures.book
    (ap (λ (d : Desk). d.config) c.shutdown-mark.ensures.desk) f c.requires c.record.ensures.account
    (λ w new is r k. shutdown_agrees desk w _ new a
    (f a) r k c.shutdown-mark.new.self c.shutdown-mark.ensures.desk
    (ap (λ (d : Desk). after_shutdown d.next_ticket (accepted_count d) a) c.of-seen.ensures))

pub returns-then-closes-clause-asks : goal.returns-then-closes-clause-asks
returns-then-closes-clause-asks g c =
    let at = ap (λ (x : Guarded). x.desk) c.self.view_is in
    let hold =
    in_hold (setup_view c.self.inside.setup) c.self.inside.left c.self.inside.desk
    c.self.inside.book c.record.new.self c.args.account.now c.record.new.account c.args.self.now
    c.self.invariant c.record.ensures.book c.requires c.self.view_is in
    subst (λ (b : Bool).
    Asks b c.args.self.now c.after.result.value c.args.account.now c.record.new.account)
    (sym c.if-closes.true)
    (asks_of true c.args.self.now c.of-seen.result.value c.args.account.now c.record.new.account
    c.after.result.value hold
    (c.of-seen.ensures ∙ at)
    (c.after.ensures.value ∙ c.shutdown-mark.ensures.mark ∙ ap accepted_count at)
    c.record.ensures.account)

pub invariant_of-self-2 : goal.invariant_of-self-2
invariant_of-self-2 g c =
    let desk = c.self.inside.desk in
    let a = account_in c.args.account.now in
    let seen = c.of-seen.result.value in
    let f = after_flush seen.next_ticket (accepted_count seen) in
    kept_pass (setup_view c.self.inside.setup) c.self.inside.left c.self.inside.desk
    c.flush-mark.new.self c.self.inside.book c.record-2.new.self c.args.account.now
    c.record-2.new.account c.self.invariant c.record-2.ensures.book
    (ap (λ (d : Desk). d.config) c.flush-mark.ensures.desk) f c.requires c.record-2.ensures.account
    (λ w new is r k. flush_agrees desk w _ new a
    (f a) r k c.flush-mark.new.self c.flush-mark.ensures.desk
    (ap (λ (d : Desk). after_flush d.next_ticket (accepted_count d) a) c.of-seen.ensures))

pub returns-clause-asks : goal.returns-clause-asks
returns-clause-asks g c =
    let at = ap (λ (x : Guarded). x.desk) c.self.view_is in
    let hold =
    in_hold (setup_view c.self.inside.setup) c.self.inside.left c.self.inside.desk
    c.self.inside.book c.record-2.new.self c.args.account.now c.record-2.new.account
    c.args.self.now c.self.invariant c.record-2.ensures.book c.requires c.self.view_is in
    subst (λ (b : Bool).
    Asks b c.args.self.now c.after-2.result.value c.args.account.now c.record-2.new.account)
    (sym c.if-closes.false)
    (asks_of false c.args.self.now c.of-seen.result.value c.args.account.now
    c.record-2.new.account c.after-2.result.value hold
    (c.of-seen.ensures ∙ at)
    (c.after-2.ensures.value ∙ c.flush-mark.ensures.mark ∙ ap accepted_count at)
    c.record-2.ensures.account)
