use Rattle.std.proofs.Common.{ap, refl}
use Rattle.std.specs.Prelude.{None}
use Rattle.account_book.proofs.Facts.{contains_replaced}
use Rattle.model_desk.specs.Desks.{Desk}
use Rattle.model_processor.proofs.AccountState.{kept_worker}
use Rattle.batch_processor.specs.Views.{setup_view}
use Rattle.model_processor.specs.AnyAccounts.{after_handed, worker_in}
use Rattle.model_processor.proofs.Workers.{handed_agrees}
use Rattle.batch_processor.proofs.Holds.{state_of}
use Rattle.batch_processor.proofs.lock.shared.Shared.handed.Goals as goal

pub invariant_of-self : goal.invariant_of-self
invariant_of-self g c =
    let desk = c.self.inside.desk in
    let after = c.handed.new.self in
    let body = c.args.body.now.items in
    kept_worker (setup_view c.self.inside.setup) c.self.inside.left c.self.inside.desk after
    c.self.inside.book c.record.new.self c.args.account.now c.record.new.account c.self.invariant
    c.record.ensures.book
    (ap (λ (d : Desk). d.config) c.handed.ensures.desk) (after_handed body) c.self.inside.left
    (λ is. is) c.requires.worker c.record.ensures.account
    (λ passes k. handed_agrees desk
    (worker_in c.args.account.now) passes k _ c.requires.out.out after body refl
    c.handed.ensures.desk)

pub handed-requires : goal.handed-requires
handed-requires g c =
    let there =
    contains_replaced c.self.inside.book c.args.account.now c.record.new.account c.record.new.self
    c.record.ensures.book in
    rw c.number.ensures
    (state_of (setup_view c.self.inside.setup) c.self.inside.left c.self.inside.desk
    c.self.inside.book c.args.account.now c.args.batch.now None c.self.invariant there
    c.requires.worker c.requires.out.out c.requires.out.room)
