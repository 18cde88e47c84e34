use Rattle.std.proofs.Common.{◌≡◌, ap, rules, subst}
use Rattle.model_processor.specs.Kept.{IsShared}
use Rattle.account_book.proofs.Facts.{contains_replaced}
use Rattle.model_desk.specs.Desks.{Desk}
use Rattle.model_processor.proofs.AccountState.{kept_worker, origin_there}
use Rattle.batch_processor.specs.Views.{setup_view}
use Rattle.model_processor.specs.AnyAccounts.{after_take, worker_in}
use Rattle.batch_processor.proofs.Holds.{batch_size, due_where, taken_batch, takes}
use Rattle.batch_desk.specs.Batch.{BatchView}
use Rattle.batch_processor.proofs.lock.shared.Shared.take.Goals as goal

pub invariant_of-self-2 : goal.invariant_of-self-2
invariant_of-self-2 g c =
    let desk = c.self.inside.desk in
    let after = c.take.new.self in
    let batch = c.in_ok-batch.batch in
    kept_worker (setup_view c.self.inside.setup) c.self.inside.left c.self.inside.desk after
    c.self.inside.book c.record.new.self c.args.account.now c.record.new.account c.self.invariant
    c.record.ensures.book
    (ap (λ (d : Desk). d.config) c.in_ok-batch.ensures.desk)
    (after_take batch.number batch.spans) c.self.inside.left
    (λ is. is) c.requires.worker c.record.ensures.account
    (λ passes k. takes desk after
    (worker_in c.args.account.now) passes k c.args.now batch c.requires.none_out
    c.in_ok-batch.ensures.batch c.in_ok-batch.ensures.desk)

pub invariant_of-self : goal.invariant_of-self
invariant_of-self g c =
    let desk = c.self.inside.desk in let same : desk ≡ c.take.new.self = search rules in
    subst (λ (d : Desk).
    IsShared (setup_view c.self.inside.setup) c.self.inside.left d c.self.inside.book)
    same c.self.invariant

pub returns-clause-account : goal.returns-clause-account
returns-clause-account g c =
    let desk = c.self.inside.desk in
    let origin = setup_view c.self.inside.setup in
    let h = c.args.account.now in
    let book = c.self.inside.book in
    let batch = c.in_ok-batch.batch in
    let there =
    contains_replaced book h c.record.new.account c.record.new.self c.record.ensures.book in
    let kept = c.self.invariant h there in
    let of = origin_there origin c.self.inside.left desk book h kept there c.requires.worker in
    record {
      some = c.record.ensures.account;
      batch =
          taken_batch origin desk h c.record.new.account batch c.requires.worker
          c.record.ensures.account of kept.config c.in_ok-batch.ensures.batch;
      size =
          rw of
          (batch_size desk c.args.now origin batch.spans
          (due_where desk c.args.now _ c.in_ok-batch.ensures.some) kept.config kept.sizes
          (ap (λ (b : BatchView). b.spans) c.in_ok-batch.ensures.batch));
      none = tt;
    }
