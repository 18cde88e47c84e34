use Rattle.std.proofs.Common.{refl, rules, ◌∙◌}
use Rattle.model_processor.proofs.AccountState.{kept_pass}
use Rattle.batch_processor.specs.Views.{setup_view}
use Rattle.model_processor.specs.AnyAccounts.{account_in, after_flushed, after_told_left}
use Rattle.model_processor.proofs.Passes.{flushed_agrees, told_left_agrees}
use Rattle.batch_processor.proofs.Holds.{in_hold, told_flushed, told_left}
use Rattle.batch_processor.proofs.lock.shared.Shared.flushed.Goals as goal

pub invariant_of-self : goal.invariant_of-self
invariant_of-self g c =
    let desk = c.self.inside.desk in let a = account_in c.args.account.now in
    kept_pass (setup_view c.self.inside.setup) c.self.inside.left c.self.inside.desk desk
    c.self.inside.book c.record.new.self c.args.account.now c.record.new.account c.self.invariant
    c.record.ensures.book
    refl after_flushed c.requires.pass c.record.ensures.account
    (λ w new is r k. flushed_agrees desk w _ new a (after_flushed a) r k (search rules) refl)

pub invariant_of-self-then-self : goal.invariant_of-self-then-self
invariant_of-self-then-self g c =
    let desk = c.self.inside.desk in let a = account_in c.args.account.now in
    kept_pass (setup_view c.self.inside.setup) c.self.inside.left c.self.inside.desk desk
    c.self.inside.book c.record-then-self.new.self c.args.account.now c.record-then-self.new.account
    c.self.invariant c.record-then-self.ensures.book
    refl after_told_left c.requires.pass c.record-then-self.ensures.account
    (λ w new is r k.
    told_left_agrees desk w _ new a (after_told_left a) r k (is ∙ c.if-self.true) refl)

pub returns-then-flushed-clause-told : goal.returns-then-flushed-clause-told
returns-then-flushed-clause-told g c =
    let hold =
    in_hold (setup_view c.self.inside.setup) c.self.inside.left c.self.inside.desk
    c.self.inside.book c.record.new.self c.args.account.now c.record.new.account c.args.self.now
    c.self.invariant c.record.ensures.book c.requires.pass c.self.view_is in
    told_flushed c.args.self.now c.args.mark _ (account_in c.args.account.now) hold (search rules)

pub returns-then-self-clause-told : goal.returns-then-self-clause-told
returns-then-self-clause-told g c =
    let hold =
    in_hold (setup_view c.self.inside.setup) c.self.inside.left c.self.inside.desk
    c.self.inside.book c.record-then-self.new.self c.args.account.now c.record-then-self.new.account
    c.args.self.now c.self.invariant c.record-then-self.ensures.book c.requires.pass
    c.self.view_is in
    told_left c.args.self.now c.args.mark _ (account_in c.args.account.now) hold (search rules)
    (search rules)
