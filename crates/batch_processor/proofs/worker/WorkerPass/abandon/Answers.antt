use Rattle.std.proofs.Common.{subst}
use Rattle.model_processor.specs.WorkerClauses.{EndByWork, WorksUntilItLeaves, abandon}
use Rattle.batch_processor.specs.Working.{Work}
use Rattle.batch_processor.proofs.Turns.{pass_end, pass_until_left}
use Rattle.batch_processor.proofs.worker.WorkerPass.abandon.Goals as goal

pub returns-clause-by_work : goal.returns-clause-by_work
returns-clause-by_work g c =
    subst (λ (w : Work). EndByWork w.origin (abandon w.account)) c.self.view_is
    (pass_end c.self.inside.left c.self.inside.sender c.self.inside.in_hand c.self.invariant)

pub returns-in_default-clause-by_work : goal.returns-in_default-clause-by_work
returns-in_default-clause-by_work g c =
    subst (λ (w : Work). EndByWork w.origin (abandon w.account)) c.self.view_is
    (pass_end c.self.inside.left c.self.inside.sender c.self.inside.in_hand c.self.invariant)

pub returns-clause-works : goal.returns-clause-works
returns-clause-works g c =
    subst (λ (w : Work). WorksUntilItLeaves w.origin w.account) c.self.view_is
    (pass_until_left c.self.inside.left c.self.inside.sender c.self.inside.in_hand c.self.invariant)

pub returns-in_default-clause-works : goal.returns-in_default-clause-works
returns-in_default-clause-works g c =
    subst (λ (w : Work). WorksUntilItLeaves w.origin w.account) c.self.view_is
    (pass_until_left c.self.inside.left c.self.inside.sender c.self.inside.in_hand c.self.invariant)
