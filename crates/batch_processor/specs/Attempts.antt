-- What a call of `work` does, and what a worker's pass is in contracts. (Trace SDK, Batching
-- processor, Span Exporter; OpenTelemetry Protocol Exporter, Retry)
use Rattle.std.specs.Prelude.{◌≡◌, ℕ, ◌+◌, ◌≤◌, true, List, [], ◌∷◌, ◌++◌, length, Option, Some}
use Rattle.std.specs.Prelude.{None}
use Rattle.std.specs.List.{AllByRecursion, flat_map}
use Rattle.model_desk.specs.Retries.{Outcome}
use Rattle.model_desk.specs.Waits.{RetryConfig}
use Rattle.span_exporter.specs.Handed.{Handed, Gains}
use Rattle.model_processor.specs.Worker.{BatchEnd, settled, dropped, EndedBatch, OutBatch}
use Rattle.model_processor.specs.Worker.{WorkerAccount}
use Rattle.model_processor.specs.WorkerClauses.{IsByWork, Origin}

-- ---- attempts

-- the attempts of a batch, of this body, from this one on, with their outcomes
abbrev pub attempts_from : ℕ → ℕ → List ℕ → List Outcome → List Handed
attempts_from number attempt body [] = []
attempts_from number attempt body (outcome ∷ outcomes) =
    record { number = number; attempt = attempt; body = body; outcome = outcome }
    ∷ attempts_from number (attempt + 1) body outcomes

abbrev pub attempts_by : ℕ → BatchEnd → List Handed
attempts_by number (settled body outcomes fate) = attempts_from number 1 body outcomes
attempts_by number (dropped reason) = []

abbrev pub attempts_with : ℕ → Option (List ℕ) → List Outcome → List Handed
attempts_with number None outcomes = []
attempts_with number (Some body) outcomes = attempts_from number 1 body outcomes

abbrev pub attempts_out : Option OutBatch → List Handed
attempts_out None = []
attempts_out (Some batch) = attempts_with batch.number batch.body batch.outcomes

-- All attempts that a worker made, in order: those of one batch after the other, numbered from 1
-- on, each with the body with which its batch was handed.
abbrev pub attempts_of : WorkerAccount → List Handed
attempts_of worker =
    flat_map (λ (b : EndedBatch). attempts_by b.number b.ending) worker.ended
    ++ attempts_out worker.out

-- ---- a worker's pass

-- A worker's pass, as its contracts see it: what the processor began with, what the worker knows,
-- with the outcomes of the attempts of the batch that is out, and the body that this batch has.
pub record Work : Type 0 where
  pub origin : Origin
  pub account : WorkerAccount
  pub encoded : Option (List ℕ)

-- ---- what work does

abbrev pub outcomes_out : Option OutBatch → List Outcome
outcomes_out None = []
outcomes_out (Some batch) = batch.outcomes

-- The exporter has room for what is left of the attempts of an encoded batch.
abbrev pub HasRoom : RetryConfig → (ℕ → ℕ) → Option (List ℕ) → List Outcome → Type 0
HasRoom retry room None outcomes = Unit {0}
HasRoom retry room (Some body) outcomes = retry.attempts ≤ room (length body) + length outcomes

abbrev pub IsPrepared : (ℕ → ℕ) → Work → Type 0
IsPrepared room work =
    HasRoom work.origin.retry room work.encoded (outcomes_out work.account.out)

-- An exporter that records has gained just the attempts that the worker's account gained. Batches
-- ended by work alone, and none that had ended is changed. The worker hasn't left meanwhile, and
-- where it had before, nothing is done.
pub record GoesOn (told told' : Option (List Handed)) (old new : Work) : Type 0 where
  pub origin : new.origin ≡ old.origin
  pub more : List Handed
  pub gains : Gains more told told'
  pub attempts : attempts_of new.account ≡ attempts_of old.account ++ more
  pub batches : List EndedBatch
  pub ended : new.account.ended ≡ old.account.ended ++ batches
  pub by_work : AllByRecursion (IsByWork old.origin) batches
  pub left : new.account.left ≡ old.account.left
  pub stays : old.account.left ≡ true → new ≡ old
