-- What a worker's account says of a queue that is drained.
use Rattle.std.proofs.Common.{◌≡◌, Bool, true, false, List}
use Rattle.std.specs.Prelude.{None}
use Rattle.model_desk.specs.Retries.{Outcome}
use Rattle.model_processor.specs.AnyAccounts.{AnyAccount, after_drained, on_worker, worker}
use Rattle.model_processor.specs.AnyAccounts.{worker_in}
use Rattle.model_processor.specs.WorkerClauses.{Origin}
use Rattle.batch_processor.specs.Working.{StepsAside, WorkerState}
use Rattle.batch_processor.proofs.Turns.{drained_step, same_state, state_of, told_state}

-- A step without a batch is still one where the worker's account then records that all is drained,
-- or nothing.
pub drained_told : (origin : Origin) (a a' : AnyAccount) (os : List Outcome)
    (first old : WorkerState) (b : Bool)
    → a ≡ worker origin (worker_in a) → state_of origin (worker_in a) os ≡ old
    → StepsAside first None old None
    → (b ≡ true → a' ≡ on_worker after_drained a) → (b ≡ false → a' ≡ a)
    → StepsAside first None (state_of origin (worker_in a') os) None
drained_told origin a a' os first old b is view step yes' no' =
    drained_step first old (state_of origin (worker_in a') os) b step
    (λ t. told_state origin a os old is view a' after_drained (yes' t))
    (λ f. same_state origin a os old is view a' (no' f))
