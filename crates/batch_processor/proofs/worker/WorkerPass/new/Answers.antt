use Rattle.std.proofs.Common.{◌≡◌, false, [], List, ap, sym, subst, refl}
use Rattle.std.specs.Prelude.{None}
use Rattle.model_desk.specs.Retries.{Outcome}
use Rattle.model_processor.specs.Worker.{WorkerAccount, new_worker}
use Rattle.model_processor.specs.AnyAccounts.{worker_in}
use Rattle.processor_account.specs.Views.{outcomes_view}
use Rattle.batch_processor.specs.Views.{setup_view}
use Rattle.batch_processor.specs.Working.{IsPassWith}
use Rattle.batch_processor.proofs.Turns.{pass_works, state_of}
use Rattle.batch_processor.proofs.worker.WorkerPass.new.Goals as goal

pub invariant_of-result : goal.invariant_of-result
invariant_of-result g c =
    let origin = setup_view c.args.setup in
    let os = outcomes_view c.in_ok-outcomes.outcomes.items in
    let none : os ≡ [] = ap outcomes_view c.in_ok-outcomes.ensures.items in
    subst (λ (w : WorkerAccount). IsPassWith false (state_of origin w os) None)
    (sym (ap worker_in c.requires.account))
    (subst (λ (xs : List Outcome). IsPassWith false (state_of origin new_worker xs) None) (sym none)
    (pass_works false (state_of origin new_worker []) None refl
    (record {
      here = refl;
      retry = c.requires.retry;
      by_work = tt;
      tied = (refl, refl);
    })))
