-- What an answer says of the queue and of a batch, case by case.
use Rattle.std.proofs.Common.{◌≡◌, refl, ap, ℕ, Bool, false, Option, Some, None, option_map}
use Rattle.std.specs.Prelude.{◌==◌, if◌then◌else◌, List, []}
use Rattle.model_span.specs.Dropped.{Reason, queue_full, encode_memory, too_large, abandoned}
use Rattle.model_span.specs.Dropped.{Entry}
use Rattle.model_span.specs.Spans.{SpanData}
use Rattle.model_desk.specs.Retries.{Outcome, Next, fate_of}
use Rattle.model_desk.specs.Queue.{DeskEvent}
use Rattle.model_desk.specs.Queue as desk
use Rattle.model_run.specs.Steps.{Step}
use Rattle.model_run.specs.History.{Setup}
use Rattle.model_run.specs.Runs.{Ended, queued, handed, late, not_sampled, already_ended, Answer}
use Rattle.model_run.specs.Runs.{started, no_randomness, no_span, out_of_memory, done, ended, taken}
use Rattle.model_run.specs.Runs.{not_taken, encoded, sent, early, replied, nothing, Answered}
use Rattle.model_run.specs.Runs.{take_moment, span_of_end, event_by}
use Rattle.model_run.specs.Answers.{Progress, progress_by, attempts_by}
use Rattle.model_run.specs.Headline.{Attempt, attempt_by}
use Rattle.model_run.specs.Laws.{says_taken, ends_batch, moment_by, lost_by}

-- how many spans a taken batch has
abbrev pub size_by : Answer → Option ℕ
size_by (taken number size) = Some size
size_by _ = None

-- The answer says nothing of a batch.
pub record IsSilent (a : Answer) : Type 0 where
  pub no_progress : progress_by a ≡ None
  pub no_size : size_by a ≡ None
  pub no_number : attempts_by a ≡ None
  pub no_attempt : attempt_by a ≡ None
  pub no_moment : moment_by a ≡ None
  pub no_take : says_taken a ≡ false
  pub no_end : ends_batch a ≡ false
  pub no_loss : (spans : List SpanData) → lost_by a spans ≡ []

-- all that an answer says of a batch
record Said : Type 0 where
  progress : Option Progress
  size : Option ℕ
  number : Option ℕ
  attempt : Option Attempt
  moment : Option ℕ
  takes : Bool
  ends : Bool
  loss : List SpanData → List Entry

abbrev said_by : Answer → Said
said_by a = record {
  progress = progress_by a;
  size = size_by a;
  number = attempts_by a;
  attempt = attempt_by a;
  moment = moment_by a;
  takes = says_taken a;
  ends = ends_batch a;
  loss = lost_by a;
}

silent : (a : Answer) → said_by a ≡ said_by nothing → IsSilent a
silent a e = record {
  no_progress = ap (λ x. x.progress) e;
  no_size = ap (λ x. x.size) e;
  no_number = ap (λ x. x.number) e;
  no_attempt = ap (λ x. x.attempt) e;
  no_moment = ap (λ x. x.moment) e;
  no_take = ap (λ x. x.takes) e;
  no_end = ap (λ x. x.ends) e;
  no_loss = λ spans. ap (λ x. x.loss spans) e;
}

-- what has to be shown of each answer and of what a step with it does at the queue
pub record EventCases (step : Step) (P : Answer → Option DeskEvent → Type 0) : Type 0 where
  pub of_queued : (ticket : ℕ) (o : Option SpanData)
      → P (ended (queued ticket)) (option_map desk.queued o)
  pub of_full : (ticket : ℕ) (o : Option SpanData)
      → P (ended (Ended.dropped ticket queue_full)) (option_map desk.full o)
  pub of_late : P (ended late) (Some desk.late)
  pub of_flush : P Answer.flush (Some desk.flush)
  pub of_shutdown : P Answer.shutdown (Some desk.shutdown)
  pub of_taken : (number size : ℕ)
      → P (taken number size) (Some (desk.taken (take_moment step) size))
  pub of_encoded : (number size : ℕ) → P (encoded number size) None
  pub of_dropped : (number : ℕ) (reason : Reason)
      → P (Answer.dropped number reason) (Some (desk.dropped reason))
  pub of_sent : (number attempt : ℕ) (outcome : Outcome)
      → P (sent number attempt outcome) (if attempt == 1 then Some desk.handed else None)
  pub of_replied : (number : ℕ) (next : Next)
      → P (replied number next) (option_map desk.settled (fate_of next))
  -- the answers that do nothing at the queue and say nothing of a batch
  pub of_other : (a : Answer) → IsSilent a → P a None

module _ (setup : Setup) (before : List Answered) (step : Step)
    (P : Answer → Option DeskEvent → Type 0) (c : EventCases step P) where
  -- What is shown of each case of an answer, with what it does at the queue, holds of every answer.
  pub by-event : (a : Answer) → P a (event_by setup before a step)
  by-event (ended (queued n)) = c.of_queued n (span_of_end setup before step n)
  by-event (ended (Ended.dropped n queue_full)) = c.of_full n (span_of_end setup before step n)
  by-event (ended late) = c.of_late
  by-event Answer.flush = c.of_flush
  by-event Answer.shutdown = c.of_shutdown
  by-event (taken number size) = c.of_taken number size
  by-event (encoded number size) = c.of_encoded number size
  by-event (Answer.dropped number reason) = c.of_dropped number reason
  by-event (sent number attempt outcome) = c.of_sent number attempt outcome
  by-event (replied number next) = c.of_replied number next
  by-event (ended (handed n)) = c.of_other (ended (handed n)) (silent _ refl)
  by-event (ended (Ended.dropped n encode_memory)) =
      c.of_other (ended (Ended.dropped n encode_memory)) (silent _ refl)
  by-event (ended (Ended.dropped n too_large)) =
      c.of_other (ended (Ended.dropped n too_large)) (silent _ refl)
  by-event (ended (Ended.dropped n abandoned)) =
      c.of_other (ended (Ended.dropped n abandoned)) (silent _ refl)
  by-event (ended (Ended.dropped n (Reason.refused status))) =
      c.of_other (ended (Ended.dropped n (Reason.refused status))) (silent _ refl)
  by-event (ended (Ended.dropped n Reason.bad_reply)) =
      c.of_other (ended (Ended.dropped n Reason.bad_reply)) (silent _ refl)
  by-event (ended (Ended.dropped n Reason.given_up)) =
      c.of_other (ended (Ended.dropped n Reason.given_up)) (silent _ refl)
  by-event (ended (Ended.dropped n Reason.left_handed)) =
      c.of_other (ended (Ended.dropped n Reason.left_handed)) (silent _ refl)
  by-event (ended not_sampled) = c.of_other (ended not_sampled) (silent _ refl)
  by-event (ended already_ended) = c.of_other (ended already_ended) (silent _ refl)
  by-event (started ids) = c.of_other (started ids) (silent _ refl)
  by-event no_randomness = c.of_other no_randomness (silent _ refl)
  by-event no_span = c.of_other no_span (silent _ refl)
  by-event out_of_memory = c.of_other out_of_memory (silent _ refl)
  by-event done = c.of_other done (silent _ refl)
  by-event not_taken = c.of_other not_taken (silent _ refl)
  by-event early = c.of_other early (silent _ refl)
  by-event nothing = c.of_other nothing (silent _ refl)

-- what has to be shown of each answer
pub record AnswerCases (P : Answer → Type 0) : Type 0 where
  pub of_taken : (number size : ℕ) → P (taken number size)
  pub of_encoded : (number size : ℕ) → P (encoded number size)
  pub of_dropped : (number : ℕ) (reason : Reason) → P (Answer.dropped number reason)
  pub of_sent : (number attempt : ℕ) (outcome : Outcome) → P (sent number attempt outcome)
  pub of_replied : (number : ℕ) (next : Next) → P (replied number next)
  -- the answers that say nothing of a batch
  pub of_other : (a : Answer) → IsSilent a → P a

answer-cases : (step : Step) (P : Answer → Type 0) → AnswerCases P → EventCases step (λ a o. P a)
answer-cases step P c = record {
  of_queued = λ n o. c.of_other (ended (queued n)) (silent _ refl);
  of_full = λ n o. c.of_other (ended (Ended.dropped n queue_full)) (silent _ refl);
  of_late = c.of_other (ended late) (silent _ refl);
  of_flush = c.of_other Answer.flush (silent _ refl);
  of_shutdown = c.of_other Answer.shutdown (silent _ refl);
  of_taken = c.of_taken;
  of_encoded = c.of_encoded;
  of_dropped = c.of_dropped;
  of_sent = c.of_sent;
  of_replied = c.of_replied;
  of_other = c.of_other;
}

-- What is shown of each case of an answer holds of every answer.
pub by-answer : (P : Answer → Type 0) → AnswerCases P → Setup → (a : Answer) → P a
by-answer P c setup a = by-event setup [] Step.flush (λ a o. P a) (answer-cases Step.flush P c) a
