-- A run: the steps of a program, each with its answer; the spans that they end, and what they do at
-- the queue of its batch processor. (Trace API; Trace SDK, Batching processor)
use Rattle.std.specs.Prelude.{ℕ, ◌==◌, Bool, true, false, not, if◌then◌else◌, List, [], ◌∷◌, ◌++◌}
use Rattle.std.specs.Prelude.{filter_map, take_while, Option, Some, None, option_map, slice_get}
use Rattle.std.specs.List.{cons_option}
use Rattle.std.specs.Option.{option_and_then}
use Rattle.model_span.specs.Dropped.{Reason, queue_full, encode_memory, too_large, abandoned}
use Rattle.model_span.specs.Dropped.{refused, bad_reply, given_up, left_handed}
use Rattle.model_span.specs.Spans.{Call, SpanData, with_ticket}
use Rattle.model_span.specs.Starts.{Ids, StartedSpan}
use Rattle.model_desk.specs.Retries.{Outcome, Next, fate_of}
use Rattle.model_desk.specs.Queue.{DeskEvent}
use Rattle.model_desk.specs.Queue as desk
use Rattle.model_run.specs.Steps.{Step, is_shutdown, take}
use Rattle.model_run.specs.History.{Setup, StartResult, SpanStep, span_step, start_results}
use Rattle.model_run.specs.History.{calls_on, exported_of, ended_spans}

-- What becomes of a span at its end: with its ticket, it waits, or it is with the exporter, or it
-- is dropped for a reason. (Trace SDK, OnEnd; tickets: profile)
pub data Ended : Type 0 where
  queued handed : ℕ → Ended
  dropped : ℕ → Reason → Ended
  -- it ended after the shutdown; it isn't sampled; it had ended before
  late not_sampled already_ended : Ended

-- What a step answers.
pub data Answer : Type 0 where
  -- a start: the span has these identifiers, or none could be drawn
  started : Ids → Answer
  no_randomness : Answer
  -- there is no such span, or, to a start, no such scope or parent
  no_span : Answer
  -- a start or a call: memory was refused
  out_of_memory : Answer
  -- a call that is no end; one that is
  done : Answer
  ended : Ended → Answer
  flush shutdown : Answer
  -- a batch of this number is taken, with this number of spans, or none is taken
  taken : ℕ → ℕ → Answer
  not_taken : Answer
  -- the body of the batch of this number has this number of bytes
  encoded : ℕ → ℕ → Answer
  -- the batch of this number can't be encoded, and is dropped for this reason
  dropped : ℕ → Reason → Answer
  -- this is the batch of this number, this attempt of it, from 1 on, and what came of it; or its
  -- next attempt isn't due
  sent : ℕ → ℕ → Outcome → Answer
  early : Answer
  -- the batch of this number, and what follows for it
  replied : ℕ → Next → Answer
  -- the step is for no batch that is out
  nothing : Answer

-- A step that was done. A list of these is a history, the first one first.
pub record Answered : Type 0 where
  pub step : Step
  pub answer : Answer

-- ---- the spans that end

abbrev pub is_refused : Answer → Bool
is_refused out_of_memory = true
is_refused _ = false

-- the steps that count for the spans
abbrev pub span_steps : List Answered → List SpanStep
span_steps history = filter_map (λ x. span_step (is_refused x.answer) x.step) history

-- what the starts so far came to
abbrev pub starts_so_far : Setup → List Answered → List StartResult
starts_so_far setup before = start_results setup (span_steps before)

-- the span with this number, where its start gave one
abbrev pub span_at : Setup → List Answered → ℕ → Option StartedSpan
span_at setup before n = option_and_then (λ o. o.span) (slice_get (starts_so_far setup before) n)

-- the calls on it that count
abbrev pub calls_so_far : List Answered → ℕ → List Call
calls_so_far before n = calls_on n (span_steps before)

-- the history before the first shutdown
abbrev pub before_shutdown : List Answered → List Answered
before_shutdown history = take_while (λ x. not (is_shutdown x.step)) history

-- The sampled spans whose first end comes before the first shutdown, in the order of these ends,
-- each with what its calls made of it and with its place among them as its ticket. (Trace API, End;
-- Trace SDK, Sampling, Shutdown; tickets: profile)
unfoldable pub ended_by : Setup → List Answered → List SpanData
ended_by setup history = ended_spans setup (span_steps (before_shutdown history))

-- ---- at the queue

-- The span that a step ends after these, with this ticket: what the calls on it made of it, of
-- which this one is the last. (Trace API, End)
abbrev pub span_of_end : Setup → List Answered → Step → ℕ → Option SpanData
span_of_end setup before (Step.call n c) ticket =
    option_map (with_ticket ticket)
    (exported_of (calls_so_far before n ++ c ∷ []) (slice_get (starts_so_far setup before) n))
span_of_end setup before _ ticket = None

-- the moment of a take
abbrev pub take_moment : Step → ℕ
take_moment (take now) = now
take_moment _ = 0

-- What a step does at the queue after these, by its answer.
abbrev pub event_by : Setup → List Answered → Answer → Step → Option DeskEvent
event_by setup before (ended (queued ticket)) step =
    option_map desk.queued (span_of_end setup before step ticket)
event_by setup before (ended (Ended.dropped ticket queue_full)) step =
    option_map desk.full (span_of_end setup before step ticket)
event_by setup before (ended late) step = Some desk.late
event_by setup before flush step = Some desk.flush
event_by setup before shutdown step = Some desk.shutdown
event_by setup before (taken number size) step = Some (desk.taken (take_moment step) size)
-- Its first attempt hands the batch to the exporter.
event_by setup before (sent number attempt outcome) step =
    if attempt == 1 then Some desk.handed else None
event_by setup before (Answer.dropped number reason) step = Some (desk.dropped reason)
event_by setup before (replied number next) step = option_map desk.settled (fate_of next)
-- No span is handed by its end, and none is dropped there for another reason.
event_by setup before (ended (handed ticket)) step = None
event_by setup before (ended (Ended.dropped ticket encode_memory)) step = None
event_by setup before (ended (Ended.dropped ticket too_large)) step = None
event_by setup before (ended (Ended.dropped ticket abandoned)) step = None
event_by setup before (ended (Ended.dropped ticket (refused status))) step = None
event_by setup before (ended (Ended.dropped ticket bad_reply)) step = None
event_by setup before (ended (Ended.dropped ticket given_up)) step = None
event_by setup before (ended (Ended.dropped ticket left_handed)) step = None
-- The others do nothing there.
event_by setup before (ended not_sampled) step = None
event_by setup before (ended already_ended) step = None
event_by setup before (started ids) step = None
event_by setup before no_randomness step = None
event_by setup before no_span step = None
event_by setup before out_of_memory step = None
event_by setup before done step = None
event_by setup before not_taken step = None
event_by setup before (encoded number size) step = None
event_by setup before early step = None
event_by setup before nothing step = None

-- what these steps do there, in order, after others
abbrev pub events_after : Setup → List Answered → List Answered → List DeskEvent
events_after setup before [] = []
events_after setup before (x ∷ later) =
    cons_option (event_by setup before x.answer x.step)
    (events_after setup (before ++ x ∷ []) later)

-- what is done at the queue
unfoldable pub desk_events : Setup → List Answered → List DeskEvent
desk_events setup history = events_after setup [] history
