use Rattle.std.proofs.Common.{◌≡◌, ap, ◌∙◌, sym, subst}
use Rattle.model_processor.specs.Batches.{EndByWork, Origin, WorksUntilItLeaves, abandon}
use Rattle.model_processor.specs.AnyAccounts.{origin_in, worker_in}
use Rattle.model_processor.specs.Worker.{WorkerAccount}
use Rattle.model_processor.specs.Kept.{IsAccountOf, shown_out}
use Rattle.model_processor.proofs.Closing.{accounted}
use Rattle.batch_processor.proofs.processor.BatchProcessor.close_out.Goals as goal

pub returns-clause-works : goal.returns-clause-works
returns-clause-works g c =
    let said : origin_in c.self.inside.holder ≡ c.args.self =
    ap origin_in c.self.invariant ∙ c.self.view_is in
    let same : c.args.worker.origin ≡ c.args.self =
    sym (ap origin_in c.abandon.ensures.account) ∙ c.close-desk.ensures.origin ∙ said in
    subst (λ (o : Origin). WorksUntilItLeaves o c.args.worker.account) same
    c.abandon.ensures.works

pub returns-clause-accounts : goal.returns-clause-accounts
returns-clause-accounts g c =
    let desk = c.close-desk.result in
    let passes = c.args.passes.items in
    let final = abandon c.args.worker.account in
    let is : worker_in c.abandon.result ≡ final =
    ap worker_in c.abandon.ensures.account in
    let said : origin_in c.self.inside.holder ≡ c.args.self =
    ap origin_in c.self.invariant ∙ c.self.view_is in
    let same : c.args.worker.origin ≡ c.args.self =
    sym (ap origin_in c.abandon.ensures.account) ∙ c.close-desk.ensures.origin ∙ said in
    accounted c.args.self desk passes final
    (subst (λ (o : Origin). IsAccountOf o desk passes final) said
    (subst (λ (w : WorkerAccount). IsAccountOf (origin_in c.self.inside.holder) desk passes w) is
    c.close-desk.ensures.accounts))
    (subst (λ (o : Origin). EndByWork o final) same c.abandon.ensures.by_work)

pub returns-clause-none_out : goal.returns-clause-none_out
returns-clause-none_out g c =
    let is : worker_in c.abandon.result ≡ abandon c.args.worker.account =
    ap worker_in c.abandon.ensures.account in
    c.close-desk.ensures.accounts.agrees.batches.out
    ∙ ap (λ (w : WorkerAccount). shown_out w.out) is
