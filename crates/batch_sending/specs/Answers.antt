-- What the attempts of a batch and their outcomes do. (Trace SDK, Export; OTLP Specification,
-- OTLP/HTTP Response, OTLP/HTTP Throttling)
use Rattle.std.specs.Prelude.{◌≡◌, ℕ, ◌+◌, ◌<◌, ◌≤◌, false, List, Option, Some}
use Rattle.model_desk.specs.Retries as retries
use Rattle.model_desk.specs.Retries.{fate_of}
use Rattle.model_desk.specs.Waits.{next_after}
use Rattle.retry_core.specs.Retries.{fate_view, next_view, outcome_view}
use Rattle.retry_core.specs.declared.fate.Fate.{Fate}
use Rattle.retry_core.specs.declared.next.Next.{Next}
use Rattle.retry_core.specs.declared.outcome.Outcome.{Outcome}
use Rattle.span_exporter.specs.Handed.{Handed, Gains, handing}
use Rattle.batch_sending.specs.Sendings.{Sending, Stage, to_send, to_judge, to_retry, attempts_at}
use Rattle.batch_sending.specs.Sendings.{is_pending_at}
use Rattle.batch_sending.specs.declared.answers.Attempted.{Attempted}
use Rattle.batch_sending.specs.declared.answers.Attempted.TheVariants as attempted
use Rattle.batch_sending.specs.declared.answers.Judged.{Judged}
use Rattle.batch_sending.specs.declared.answers.Judged.TheVariants as judged

-- ---- an attempt

-- It may be sent at this moment: for the first time at any, and again from the one that the last
-- outcome gave. (OTLP Specification, OTLP/HTTP Throttling)
abbrev pub MayBeSentAt : ℕ → Stage → Type 0
MayBeSentAt now to_send = Unit {0}
MayBeSentAt now (to_judge attempt outcome) = ⊥
MayBeSentAt now (to_retry attempts moment) = moment ≤ now

-- The next attempt was made, and its outcome is to be judged.
pub record IsSent (now attempt : ℕ) (outcome : Outcome) (old new : Sending)
    (told told' : Option (List Handed)) : Type 0 where
  pub may : MayBeSentAt now old.stage
  pub next : attempt ≡ attempts_at old.stage + 1
  pub gains : Gains (handing old.number attempt old.body (outcome_view outcome)) told told'
  pub sending : new ≡ record old { stage = to_judge attempt (outcome_view outcome) }

-- It is to be sent again, and its moment has not come.
pub record IsEarly (now : ℕ) (old new : Sending) (told told' : Option (List Handed)) : Type 0 where
  pub attempts : ℕ
  pub moment : ℕ
  pub stage : old.stage ≡ to_retry attempts moment
  pub early : now < moment
  pub sending : new ≡ old
  pub nothing_is_sent : told' ≡ told

-- Its last attempt is not judged.
pub record IsUnjudged (old new : Sending) (told told' : Option (List Handed)) : Type 0 where
  pub attempt : ℕ
  pub outcome : retries.Outcome
  pub stage : old.stage ≡ to_judge attempt outcome
  pub sending : new ≡ old
  pub nothing_is_sent : told' ≡ told

-- What an attempt at this moment does, by its answer. (Trace SDK, Export)
abbrev pub Attempts : ℕ → Sending → Attempted → Sending → Option (List Handed)
    → Option (List Handed) → Type 0
Attempts now old (attempted.Sent attempt outcome) new told told' =
    IsSent now attempt outcome old new told told'
Attempts now old attempted.Early new told told' = IsEarly now old new told told'
Attempts now old attempted.Unjudged new told told' = IsUnjudged old new told told'

-- ---- its outcome

pub record IsKept (old new : Sending) : Type 0 where
  pub none : is_pending_at old.stage ≡ false
  pub same : new ≡ old

-- Another attempt follows, from this moment on.
pub record IsAgain (now word : ℕ) (old new : Sending) (moment : ℕ) : Type 0 where
  pub attempt : ℕ
  pub outcome : retries.Outcome
  pub stage : old.stage ≡ to_judge attempt outcome
  pub decided : next_after old.retry attempt outcome now word ≡ retries.again moment
  pub sending : new ≡ record old { stage = to_retry attempt moment }

-- None follows: the batch ends so.
pub record IsOver (now word : ℕ) (old : Sending) (next : Next) (fate : Fate) : Type 0 where
  pub attempt : ℕ
  pub outcome : retries.Outcome
  pub stage : old.stage ≡ to_judge attempt outcome
  pub decided : next_after old.retry attempt outcome now word ≡ next_view next
  pub ends : fate_of (next_view next) ≡ Some (fate_view fate)

-- What judging at this moment, with this random word, does, by its answer. (OTLP Specification,
-- OTLP/HTTP Response)
abbrev pub Judges : {A : Type 0} → ℕ → ℕ → Sending → Judged A → Type 0
Judges now word old (judged.Nothing sending) = IsKept old sending
Judges now word old (judged.Again sending moment) = IsAgain now word old sending moment
Judges now word old (judged.Over next fate) = IsOver now word old next fate
