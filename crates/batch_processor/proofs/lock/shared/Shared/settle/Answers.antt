use Rattle.std.proofs.Common.{ap, refl, ◌∙◌}
use Rattle.account_book.proofs.Facts.{contains_replaced}
use Rattle.model_desk.specs.Desks.{Desk}
use Rattle.model_processor.proofs.AccountState.{kept_worker}
use Rattle.processor_account.specs.Views.{outcomes_view}
use Rattle.batch_processor.specs.Views.{setup_view}
use Rattle.model_desk.specs.Retries.{Fate}
use Rattle.model_processor.specs.AnyAccounts.{after_settle, on_worker, worker_in}
use Rattle.model_processor.proofs.Workers.{settle_agrees}
use Rattle.batch_processor.proofs.Holds.{can_settle, settled_by}
use Rattle.batch_processor.proofs.lock.shared.Shared.settle.Goals as goal

pub invariant_of-self : goal.invariant_of-self
invariant_of-self g c =
    let desk = c.self.inside.desk in
    let after = c.settle_named.new.self in
    let outcomes = outcomes_view c.of.result.value.items in
    let there =
    contains_replaced c.self.inside.book c.args.account.now c.record.new.account c.record.new.self
    c.record.ensures.book in
    let came =
    settled_by (setup_view c.self.inside.setup) c.self.inside.left c.self.inside.desk
    c.self.inside.book c.args.account.now c.args.batch c.self.invariant there c.requires.worker
    c.requires.out after c.settle_named.ensures.desk in
    kept_worker (setup_view c.self.inside.setup) c.self.inside.left c.self.inside.desk after
    c.self.inside.book c.record.new.self c.args.account.now c.record.new.account c.self.invariant
    c.record.ensures.book
    (ap (λ (d : Desk). d.config) came) (after_settle outcomes c.args.batch.fate) c.self.inside.left
    (λ is. is) c.requires.worker
    (c.record.ensures.account
    ∙ ap (λ (f : Fate). on_worker (after_settle outcomes f) c.args.account.now) c.fate.ensures)
    (λ passes k. settle_agrees desk
    (worker_in c.args.account.now) passes k _ c.requires.out.out after c.requires.out.body outcomes
    c.args.batch.fate refl came)

pub settle_named-requires : goal.settle_named-requires
settle_named-requires g c =
    let there =
    contains_replaced c.self.inside.book c.args.account.now c.record.new.account c.record.new.self
    c.record.ensures.book in
    can_settle (setup_view c.self.inside.setup) c.self.inside.left c.self.inside.desk
    c.self.inside.book c.args.account.now c.args.batch c.self.invariant there c.requires.worker
    c.requires.out
