use Rattle.std.proofs.Common.{ap, refl}
use Rattle.std.specs.Prelude.{reverse}
use Rattle.model_desk.specs.Desks.{Desk}
use Rattle.model_processor.proofs.AccountState.{kept_pass}
use Rattle.batch_processor.specs.Views.{setup_view}
use Rattle.model_processor.specs.Passes.{after_drain}
use Rattle.model_processor.specs.AnyAccounts.{account_in}
use Rattle.model_processor.proofs.Passes.{drain_agrees}
use Rattle.batch_processor.proofs.Holds.{all_of}
use Rattle.batch_processor.proofs.lock.shared.Shared.drain_names.Goals as goal

pub invariant_of-self : goal.invariant_of-self
invariant_of-self g c =
    let desk = c.self.inside.desk in
    let after = c.drain_names-names.new.self in
    let a = account_in c.args.account.now in
    let ds = reverse c.drain_names-names.result.dropped in
    let ls = reverse c.drain_names-names.result.lost in
    kept_pass (setup_view c.self.inside.setup) c.self.inside.left c.self.inside.desk after
    c.self.inside.book c.record.new.self c.args.account.now c.record.new.account c.self.invariant
    c.record.ensures.book
    (ap (λ (d : Desk). d.config) c.drain_names-names.ensures.desk)
    (after_drain ds ls) c.requires c.record.ensures.account
    (λ w new is r k. drain_agrees desk w _ new a (after_drain ds ls a) r k after ds ls
    (all_of desk.ledger c.drain_names-names.result.dropped c.drain_names-names.ensures.dropped)
    (all_of desk.lost c.drain_names-names.result.lost c.drain_names-names.ensures.lost)
    c.drain_names-names.ensures.desk refl)
