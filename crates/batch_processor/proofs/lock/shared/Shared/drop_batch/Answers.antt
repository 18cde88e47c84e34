use Rattle.std.proofs.Common.{ap, refl}
use Rattle.account_book.proofs.Facts.{contains_replaced}
use Rattle.model_desk.specs.Desks.{Desk}
use Rattle.model_processor.proofs.AccountState.{kept_worker}
use Rattle.model_processor.proofs.Workers.{drop_agrees}
use Rattle.model_processor.specs.AnyAccounts.{after_drop, worker_in}
use Rattle.batch_processor.specs.Views.{setup_view}
use Rattle.batch_processor.proofs.Holds.{named_drop, named_is}
use Rattle.batch_processor.proofs.lock.shared.Shared.drop_batch.Goals as goal

pub invariant_of-self : goal.invariant_of-self
invariant_of-self g c =
    let desk = c.self.inside.desk in let after = c.drop_named.new.self in
    let there =
    contains_replaced c.self.inside.book c.args.account.now c.record.new.account c.record.new.self
    c.record.ensures.book in
    let came =
    named_drop (setup_view c.self.inside.setup) c.self.inside.left c.self.inside.desk
    c.self.inside.book c.args.account.now c.args.batch c.self.invariant there c.requires.worker
    c.requires.out after c.drop_named.ensures.desk in
    kept_worker (setup_view c.self.inside.setup) c.self.inside.left c.self.inside.desk after
    c.self.inside.book c.record.new.self c.args.account.now c.record.new.account c.self.invariant
    c.record.ensures.book
    (ap (λ (d : Desk). d.config) came) (after_drop c.args.batch.reason) c.self.inside.left
    (λ is. is) c.requires.worker c.record.ensures.account
    (λ passes k. drop_agrees desk
    (worker_in c.args.account.now) passes k _ c.requires.out.out after c.args.batch.reason refl
    came)

pub drop_named-requires : goal.drop_named-requires
drop_named-requires g c =
    let there =
    contains_replaced c.self.inside.book c.args.account.now c.record.new.account c.record.new.self
    c.record.ensures.book in
    named_is (setup_view c.self.inside.setup) c.self.inside.left c.self.inside.desk
    c.self.inside.book c.args.account.now c.args.batch c.self.invariant there c.requires.worker
    c.requires.out
