use Rattle.std.proofs.Common.{refl, true}
use Rattle.model_processor.proofs.AccountState.{kept_worker}
use Rattle.batch_processor.specs.Views.{setup_view}
use Rattle.model_processor.specs.AnyAccounts.{after_left, worker_in}
use Rattle.model_processor.proofs.Workers.{left_agrees}
use Rattle.batch_processor.proofs.lock.shared.Shared.leave.Goals as goal

pub invariant_of-self : goal.invariant_of-self
invariant_of-self g c =
    let desk = c.self.inside.desk in
    kept_worker (setup_view c.self.inside.setup) c.self.inside.left c.self.inside.desk desk
    c.self.inside.book c.record.new.self c.args.account.now c.record.new.account c.self.invariant
    c.record.ensures.book
    refl after_left true (λ _. refl) c.requires c.record.ensures.account
    (λ passes k. left_agrees desk (worker_in c.args.account.now) passes k)
