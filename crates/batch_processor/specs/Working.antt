-- What the worker's pass of a batch processor has between two turns, and what a turn does. (Trace
-- SDK, Batching processor, Span Exporter; OpenTelemetry Protocol Exporter, Retry)
use Rattle.std.specs.Prelude.{◌≡◌, ℕ, ◌≤◌, Bool, true, false, List, [], ◌∷◌, ◌++◌, length}
use Rattle.std.specs.Prelude.{Option, Some, None}
use Rattle.std.specs.List.{AllByRecursion}
use Rattle.model_desk.specs.Retries.{Outcome}
use Rattle.model_desk.specs.Waits.{RetryConfig, IsRetryConfig}
use Rattle.span_exporter.specs.Handed.{Handed}
use Rattle.batch_desk.specs.Batch.{BatchView}
use Rattle.batch_sending.specs.Sendings.{Sending, Stage, to_send, to_judge, to_retry, attempts_at}
use Rattle.batch_sending.specs.Sendings.{IsCountedAt, is_pending_at}
use Rattle.model_processor.specs.Worker.{OutBatch, WorkerAccount}
use Rattle.model_processor.specs.WorkerClauses.{EachLeadsOn, EndByWork, IsBodyOf, IsByWork, Origin}
use Rattle.model_processor.specs.AnyAccounts.{after_handed}
pub use Rattle.batch_processor.specs.Attempts.{attempts_from, attempts_by, attempts_with}
pub use Rattle.batch_processor.specs.Attempts.{attempts_out, attempts_of, Work, outcomes_out}
pub use Rattle.batch_processor.specs.Attempts.{HasRoom, IsPrepared, GoesOn}

-- ---- between two turns

pub record Hand : Type 0 where
  pub batch : BatchView
  pub sending : Option Sending

-- the body that was encoded, and that with which the batch was handed
abbrev pub encoded_in : Option Sending → Option (List ℕ)
encoded_in None = None
encoded_in (Some sending) = Some sending.body

abbrev pub handed_at : List ℕ → Stage → Option (List ℕ)
handed_at body to_send = None
handed_at body (to_judge attempt outcome) = Some body
handed_at body (to_retry attempts moment) = Some body

abbrev pub handed_in : Option Sending → Option (List ℕ)
handed_in None = None
handed_in (Some sending) = handed_at sending.body sending.stage

-- whether an outcome is to be judged
abbrev pub is_pending_in : Option Sending → Bool
is_pending_in None = false
is_pending_in (Some sending) = is_pending_at sending.stage

abbrev pub in_hand : {X : Type 0} → X → (Option Sending → X) → Option Hand → X
in_hand none f None = none
in_hand none f (Some hand) = f hand.sending

abbrev pub with_outcomes : List Outcome → Option OutBatch → Option OutBatch
with_outcomes outcomes None = None
with_outcomes outcomes (Some batch) = Some (record batch { outcomes = outcomes })

abbrev pub work_of : Origin → WorkerAccount → List Outcome → Option Hand → Work
work_of origin account outcomes hand = record {
  origin = origin;
  account = record account { out = with_outcomes outcomes account.out };
  encoded = in_hand None encoded_in hand;
}

-- Each of these outcomes led to another attempt, but for the last one where it is to be judged.
abbrev pub LeadTo : RetryConfig → Stage → List Outcome → Type 0
LeadTo retry to_send outcomes = Unit {0}
LeadTo retry (to_judge attempt outcome) outcomes =
    (earlier : List Outcome) × (outcomes ≡ earlier ++ outcome ∷ []) × EachLeadsOn retry 1 earlier
LeadTo retry (to_retry attempts moment) outcomes = EachLeadsOn retry 1 outcomes

-- The batch is on its way, with the body of its spans, which is no longer than it may be, after
-- these outcomes of its attempts.
pub record IsOnItsWay (origin : Origin) (batch : BatchView) (outcomes : List Outcome)
    (sending : Sending) : Type 0 where
  pub number : sending.number ≡ batch.number
  pub retry : sending.retry ≡ origin.retry
  pub means : IsBodyOf batch.spans sending.body
  pub fits : length sending.body ≤ origin.max_body
  pub made : length outcomes ≡ attempts_at sending.stage
  pub counted : IsCountedAt origin.retry sending.stage
  pub led : LeadTo origin.retry sending.stage outcomes

abbrev pub IsAsFar : Origin → BatchView → List Outcome → Option Sending → Type 0
IsAsFar origin batch outcomes None = outcomes ≡ []
IsAsFar origin batch outcomes (Some sending) = IsOnItsWay origin batch outcomes sending

-- The batch in hand is the one that the worker's account has out.
pub record IsInHand (origin : Origin) (account : WorkerAccount) (outcomes : List Outcome)
    (hand : Hand) : Type 0 where
  pub out : account.out ≡ Some (record {
    number = hand.batch.number;
    spans = hand.batch.spans;
    body = handed_in hand.sending;
    outcomes = [];
  })
  pub room : hand.batch.room ≡ origin.desk.batch
  pub some : 1 ≤ length hand.batch.spans
  pub few : length hand.batch.spans ≤ origin.desk.batch
  pub far : IsAsFar origin hand.batch outcomes hand.sending

abbrev pub IsTied : Origin → WorkerAccount → List Outcome → Option Hand → Type 0
IsTied origin account outcomes None = (account.out ≡ None) × (outcomes ≡ [])
IsTied origin account outcomes (Some hand) = IsInHand origin account outcomes hand

-- What is so between two turns, of a worker that hasn't left: each batch that ended did so by work.
pub record IsWorking (origin : Origin) (account : WorkerAccount) (outcomes : List Outcome)
    (hand : Option Hand) : Type 0 where
  pub here : account.left ≡ false
  pub retry : IsRetryConfig origin.retry
  pub by_work : AllByRecursion (IsByWork origin) account.ended
  pub tied : IsTied origin account outcomes hand

-- ---- what a step does

-- All that a worker's pass has but the batch in hand: what the processor began with, what the
-- worker knows, and the outcomes of the attempts of the batch that is out.
pub record WorkerState : Type 0 where
  pub origin : Origin
  pub account : WorkerAccount
  pub outcomes : List Outcome

abbrev pub work_in : WorkerState → Option Hand → Work
work_in state hand = work_of state.origin state.account state.outcomes hand

abbrev pub IsWorkingWith : WorkerState → Option Hand → Type 0
IsWorkingWith state hand = IsWorking state.origin state.account state.outcomes hand

-- A worker that has left has no batch in hand.
pub record HasLeft (state : WorkerState) (hand : Option Hand) : Type 0 where
  pub none : hand ≡ None
  pub outcomes : state.outcomes ≡ []
  pub batches : EndByWork state.origin state.account

-- What is so of a worker's pass, which keeps whether the worker has left.
pub record IsPassWith (left : Bool) (state : WorkerState) (hand : Option Hand) : Type 0 where
  pub left_is : state.account.left ≡ left
  pub works : left ≡ false → IsWorkingWith state hand
  pub has_left : left ≡ true → HasLeft state hand

abbrev pub hand_at : BatchView → Option Sending → Option Hand
hand_at batch sending = Some (record { batch = batch; sending = sending })

-- A step may be taken: it is as between two turns, and the exporter has room.
pub record IsReady (room : ℕ → ℕ) (state : WorkerState) (hand : Option Hand) : Type 0 where
  pub works : IsWorkingWith state hand
  pub prepared : IsPrepared room (work_in state hand)

-- A step went from the first hand to the second one: another one may be taken, and work went on.
pub record TakesStep (told told' : Option (List Handed)) (room : ℕ → ℕ)
    (old : WorkerState) (hand : Option Hand) (new : WorkerState) (hand' : Option Hand)
    : Type 0 where
  pub ready : IsReady room new hand'
  pub goes_on : GoesOn told told' (work_in old hand) (work_in new hand')

-- The same of a step that leaves the exporter alone, whatever room it has and whatever it records.
abbrev pub StepsAside : WorkerState → Option Hand → WorkerState → Option Hand → Type 0
StepsAside old hand new hand' = (told : Option (List Handed)) (room : ℕ → ℕ)
    → IsPrepared room (work_in old hand) → TakesStep told told room old hand new hand'

-- The batch is handed with its body from its first attempt on.
abbrev pub begun_at : List ℕ → Stage → WorkerAccount → WorkerAccount
begun_at body to_send account = after_handed body account
begun_at body (to_judge attempt outcome) account = account
begun_at body (to_retry attempts moment) account = account

abbrev pub begun : Sending → WorkerState → WorkerState
begun sending state = record state {
  account = begun_at sending.body sending.stage state.account;
}
