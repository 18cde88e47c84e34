-- The batch that is out in a run, and what is done to it.
use Rattle.std.specs.Prelude.{◌≡◌, ℕ, ◌<◌, ◌≤◌, ◌⊎◌, Bool, true, false, List, length, Option, Some}
use Rattle.std.specs.Prelude.{None}
use Rattle.model_export.specs.Export.{LacksBody, groups, body_length}
use Rattle.model_desk.specs.Queue as queue
use Rattle.model_desk.specs.Desks.{Desk, Does, DropsSpans, SettlesSpans, TakesSpans}
use Rattle.model_desk.specs.Waits.{RetryConfig}
use Rattle.model_processor.specs.Batches.{IsBodyOf}
use Rattle.otlp_span.specs.Dropped.{reason_view}
use Rattle.otlp_span.specs.declared.reason.Reason.{Reason}
use Rattle.retry_core.specs.Retries.{fate_view}
use Rattle.retry_core.specs.declared.fate.Fate.{Fate}
use Rattle.retry_core.specs.declared.next.Next.{Next}
use Rattle.retry_core.specs.declared.next.Next.TheVariants.{Again}
use Rattle.batch_desk.specs.Batch.{BatchView}
use Rattle.batch_desk.specs.Desk.{IsOut}
use Rattle.span_exporter.specs.Handed.{Handed}
use Rattle.batch_sending.specs.Sendings.{Stage, to_send, to_judge, to_retry, Sending, HasRoom}
use Rattle.batch_sending.specs.Sendings.{attempts_at, is_sent_at}
use Rattle.batch_sending.specs.Answers.{Attempts, IsAgain, IsOver}
use Rattle.batch_sending.specs.declared.answers.Attempted.{Attempted}
use Rattle.batch_sending.specs.declared.answers.Attempted.TheVariants as attempted
use Rattle.trace_run.specs.declared.answer.Answer.{Answer}
use Rattle.trace_run.specs.declared.answer.Answer.TheVariants as answers
use Rattle.model_run.specs.Answers as model
use Rattle.model_run.specs.Headline as headline

-- a batch that is out: it is to be encoded, or it is on its way to the exporter
pub record Out : Type 0 where
  pub batch : BatchView
  pub sending : Option Sending

abbrev pub progress_at : Stage → model.Progress
progress_at to_send = model.to_send
progress_at (to_judge attempt outcome) = model.to_judge outcome
progress_at (to_retry attempts moment) = model.to_retry moment

abbrev pub progress_of : Option Sending → model.Progress
progress_of None = model.to_encode
progress_of (Some sending) = progress_at sending.stage

abbrev pub progress_in : Option Out → model.Progress
progress_in None = model.not_out
progress_in (Some o) = progress_of o.sending

-- how many attempts it had
abbrev pub attempts_of : Option Sending → ℕ
attempts_of None = 0
attempts_of (Some sending) = attempts_at sending.stage

-- it is with the exporter
abbrev pub is_sent : Option Sending → Bool
is_sent None = false
is_sent (Some sending) = is_sent_at sending.stage

abbrev pub shown_as : Out → headline.PendingBatch
shown_as o = record {
  number = o.batch.number;
  spans = o.batch.spans;
  progress = progress_of o.sending;
  attempts = attempts_of o.sending;
}

abbrev pub shown : Option Out → Option headline.PendingBatch
shown None = None
shown (Some o) = Some (shown_as o)

-- ---- what holds between the steps

-- the desk knows of the batch that is out, and of no other
abbrev pub IsTied : Desk → Option Out → Type 0
IsTied d None = d.out ≡ None
IsTied d (Some o) = IsOut (is_sent o.sending) d o.batch

-- What is on its way is the body of this batch, under its number. It is sent as often as these
-- settings say, and where it was sent, it had an attempt.
pub record IsSendingOf (settings : RetryConfig) (batch : BatchView) (sending : Sending)
    : Type 0 where
  pub number : sending.number ≡ batch.number
  pub retry : sending.retry ≡ settings
  pub body : IsBodyOf batch.spans sending.body
  pub some : is_sent_at sending.stage ≡ true → 1 ≤ attempts_at sending.stage

abbrev pub IsPreparedAt : RetryConfig → BatchView → Option Sending → Type 0
IsPreparedAt retry batch None = Unit {0}
IsPreparedAt retry batch (Some sending) = IsSendingOf retry batch sending

-- batches are numbered from 1 on
abbrev pub IsPrepared : RetryConfig → Option Out → Type 0
IsPrepared retry None = Unit {0}
IsPrepared retry (Some o) = 0 < o.batch.number × IsPreparedAt retry o.batch o.sending

-- the exporter has room for what is left of its attempts
abbrev pub IsReadyAt : (ℕ → ℕ) → Option Sending → Type 0
IsReadyAt room None = Unit {0}
IsReadyAt room (Some sending) = HasRoom room sending

abbrev pub IsReady : (ℕ → ℕ) → Option Out → Type 0
IsReady room None = Unit {0}
IsReady room (Some o) = IsReadyAt room o.sending

-- ---- turns

-- what no turn of a batch changes
pub record Keeps (old new : Desk) : Type 0 where
  pub config : new.config ≡ old.config
  pub next_ticket : new.next_ticket ≡ old.next_ticket
  pub closed : new.closed ≡ old.closed

-- the batch that is out, if one is, isn't so far that this step is for it, and nothing is done
pub record IsIdle (asks : model.Progress → Bool) (out : Option Out) (answer : Answer)
    (old new : Desk) (later : Option Out) : Type 0 where
  pub other : asks (progress_in out) ≡ false
  pub answered : answer ≡ answers.Nothing
  pub left : later ≡ out
  pub desk : new ≡ old

abbrev pub is_to_encode : model.Progress → Bool
is_to_encode model.to_encode = true
is_to_encode _ = false

abbrev pub is_to_send : model.Progress → Bool
is_to_send model.not_out = false
is_to_send model.to_encode = false
is_to_send _ = true

abbrev pub is_to_judge : model.Progress → Bool
is_to_judge (model.to_judge outcome) = true
is_to_judge _ = false

-- ---- takes

-- A batch is taken at this moment.
pub record TakesBatch (now : ℕ) (answer : Answer) (old new : Desk) (later : Option Out)
    : Type 0 where
  pub batch : BatchView
  pub answered : answer ≡ answers.Taken batch.number (length batch.spans)
  pub left : later ≡ Some (record { batch = batch; sending = None })
  pub takes : TakesSpans now batch.spans old new
  pub in_hand : IsOut false new batch
  pub numbered : batch.number ≡ new.batches
  pub positive : 0 < batch.number
  pub keeps : Keeps old new

-- None is.
pub record TakesNone (answer : Answer) (old : Desk) (out : Option Out) (new : Desk)
    (later : Option Out) : Type 0 where
  pub answered : answer ≡ answers.NotTaken
  pub left : later ≡ out
  pub desk : new ≡ old

abbrev pub Takes : ℕ → Answer → Desk → Option Out → Desk → Option Out → Type 0
Takes now answer old out new later =
    TakesBatch now answer old new later ⊎ TakesNone answer old out new later

-- ---- encodings

-- The batch has this body, which is to be sent.
pub record HasBody (settings : RetryConfig) (max_body : ℕ) (out : Option Out) (answer : Answer)
    (old new : Desk) (later : Option Out) : Type 0 where
  pub batch : BatchView
  pub body : List ℕ
  pub was : out ≡ Some (record { batch = batch; sending = None })
  pub means : IsBodyOf batch.spans body
  pub fits : length body ≤ max_body
  pub measured : length body ≡ body_length (groups batch.spans)
  pub answered : answer ≡ answers.Encoded batch.number (length body)
  pub left : later ≡ Some (record {
    batch = batch;
    sending = Some (record {
      number = batch.number;
      body = body;
      retry = settings;
      stage = to_send;
    });
  })
  pub desk : new ≡ old

-- It has none, and is dropped: the ledger names its spans.
pub record DropsBatch (max_body : ℕ) (out : Option Out) (answer : Answer) (old new : Desk)
    (later : Option Out) : Type 0 where
  pub batch : BatchView
  pub reason : Reason
  pub was : out ≡ Some (record { batch = batch; sending = None })
  pub answered : answer ≡ answers.Dropped batch.number reason
  pub lacks : LacksBody max_body batch.spans (reason_view reason)
  pub drops : DropsSpans (reason_view reason) batch.spans old new
  pub left : later ≡ None
  pub gone : new.out ≡ None
  pub keeps : Keeps old new

-- The batch that is out is encoded, if it is to be.
abbrev pub Encodes : RetryConfig → ℕ → Option Out → Answer → Desk → Desk → Option Out → Type 0
Encodes retry max_body out answer old new later =
    HasBody retry max_body out answer old new later
    ⊎ (DropsBatch max_body out answer old new later
    ⊎ IsIdle is_to_encode out answer old new later)

-- ---- attempts

-- The first attempt hands the batch to the exporter, and a later one leaves the desk alone.
pub record HandsBatch (batch : BatchView) (old new : Desk) : Type 0 where
  pub does : Does queue.handed old new
  pub with_exporter : IsOut true new batch
  pub keeps : Keeps old new

abbrev pub HandsAt : Bool → BatchView → Desk → Desk → Type 0
HandsAt false batch old new = HandsBatch batch old new
HandsAt true batch old new = new ≡ old

abbrev pub attempt_said : ℕ → Attempted → Answer
attempt_said number (attempted.Sent attempt outcome) = answers.Sent number attempt outcome
attempt_said number attempted.Early = answers.Early
attempt_said number attempted.Unjudged = answers.Nothing

-- What is on its way is sent at this moment, if it may be.
pub record SendsBatch (now : ℕ) (out : Option Out) (answer : Answer) (old new : Desk)
    (later : Option Out) (told told' : Option (List Handed)) : Type 0 where
  pub batch : BatchView
  pub sending : Sending
  pub was : out ≡ Some (record { batch = batch; sending = Some sending })
  pub came : Attempted
  pub next : Sending
  pub attempts : Attempts now sending came next told told'
  pub answered : answer ≡ attempt_said batch.number came
  pub left : later ≡ Some (record { batch = batch; sending = Some next })
  pub hands : HandsAt (is_sent_at sending.stage) batch old new

pub record SendsNone (out : Option Out) (answer : Answer) (old new : Desk) (later : Option Out)
    (told told' : Option (List Handed)) : Type 0 where
  pub idle : IsIdle is_to_send out answer old new later
  pub nothing_is_sent : told' ≡ told

-- The batch that is out is sent, if it is to be.
abbrev pub Sends : ℕ → Option Out → Answer → Desk → Desk → Option Out → Option (List Handed)
    → Option (List Handed) → Type 0
Sends now out answer old new later told told' =
    SendsBatch now out answer old new later told told'
    ⊎ SendsNone out answer old new later told told'

-- ---- replies

-- The outcome settles the batch.
pub record Settles (now word : ℕ) (out : Option Out) (answer : Answer) (old new : Desk)
    (later : Option Out) : Type 0 where
  pub batch : BatchView
  pub sending : Sending
  pub was : out ≡ Some (record { batch = batch; sending = Some sending })
  pub next : Next
  pub fate : Fate
  pub over : IsOver now word sending next fate
  pub answered : answer ≡ answers.Replied batch.number next
  pub does : SettlesSpans (fate_view fate) batch.spans old new
  pub left : later ≡ None
  pub gone : new.out ≡ None
  pub keeps : Keeps old new

-- It is to be sent again.
pub record PutsOff (now word : ℕ) (out : Option Out) (answer : Answer) (old new : Desk)
    (later : Option Out) : Type 0 where
  pub batch : BatchView
  pub sending : Sending
  pub was : out ≡ Some (record { batch = batch; sending = Some sending })
  pub moment : ℕ
  pub next : Sending
  pub again : IsAgain now word sending next moment
  pub answered : answer ≡ answers.Replied batch.number (Again moment)
  pub left : later ≡ Some (record { batch = batch; sending = Some next })
  pub desk : new ≡ old

-- The outcome of the last attempt is judged, if the batch that is out was sent.
abbrev pub Replies : ℕ → ℕ → Option Out → Answer → Desk → Desk → Option Out → Type 0
Replies now word out answer old new later =
    Settles now word out answer old new later
    ⊎ (PutsOff now word out answer old new later ⊎ IsIdle is_to_judge out answer old new later)
