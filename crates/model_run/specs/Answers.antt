-- The answer to each step of a run. (Trace API; Trace SDK, Batching processor; OTLP Specification,
-- OTLP/HTTP)
use Rattle.std.specs.Prelude.{◌≡◌, ℕ, ◌+◌, ◌==◌, nat_lt, nat_le, min, Bool, true, false, not, ◌&&◌}
use Rattle.std.specs.Prelude.{◌||◌, if◌then◌else◌, List, [], ◌∷◌, ◌++◌, length, filter_map, Option}
use Rattle.std.specs.Prelude.{Some, None, is_some, is_none, slice_get}
use Rattle.std.specs.List.{list_any}
use Rattle.model_span.specs.Attributes.{is_empty, last_or}
use Rattle.model_span.specs.Dropped.{queue_full, encode_memory, too_large}
use Rattle.model_span.specs.Sampling.{is_sampled, is_recording}
use Rattle.model_span.specs.Spans.{Call, unset, ok, set_status, end, is_end}
use Rattle.model_span.specs.Starts.{StartedSpan}
use Rattle.model_export.specs.Export.{groups, body_length}
use Rattle.model_desk.specs.Retries.{Outcome, Next, again, give_up}
use Rattle.model_desk.specs.Queue.{last_spans}
use Rattle.model_desk.specs.Desks.{DeskConfig, Desk, desk_of, is_due}
use Rattle.model_desk.specs.Waits.{RetryConfig, next_after}
use Rattle.model_run.specs.Steps.{Parent, Step, is_shutdown}
use Rattle.model_run.specs.History.{Setup, parent_among, start_result}
use Rattle.model_run.specs.Runs.{Ended, queued, late, not_sampled, already_ended, Answer, started}
use Rattle.model_run.specs.Runs.{no_randomness, no_span, out_of_memory, done, ended, taken}
use Rattle.model_run.specs.Runs.{not_taken, encoded, sent, early, replied, nothing, Answered}
use Rattle.model_run.specs.Runs.{starts_so_far, span_at, calls_so_far, ended_by, desk_events}

-- What a run has before its first step, at moment 0.
pub record RunConfig : Type 0 where
  pub setup : Setup
  pub desk : DeskConfig
  pub retry : RetryConfig
  -- the greatest body that is sent, in bytes
  pub max_body : ℕ

-- ---- spans

-- there are the scope and the parent that a start names
abbrev pub is_there : Setup → List Answered → ℕ → Parent → Bool
is_there setup before scope parent =
    is_some (slice_get setup.scopes scope)
    && is_some (parent_among (starts_so_far setup before) parent)

-- Starting it takes memory: it is recorded, or has a trace state to copy.
abbrev pub takes_memory : StartedSpan → Bool
takes_memory s = is_recording s.decision || not (is_empty s.start.context.state)

-- (Trace API, Span Creation)
abbrev pub start_answer : Bool → Bool → Option StartedSpan → Answer
start_answer there refused None = if there then no_randomness else no_span
start_answer there refused (Some s) =
    if refused && takes_memory s then out_of_memory
    else started (record { trace = s.start.context.trace; span = s.start.context.span })

-- The first end of a sampled span gives it the next ticket, unless there was a shutdown, and it is
-- dropped where as many wait as the queue holds. (Trace API, End; Trace SDK, OnEnd, Shutdown)
abbrev pub end_answer : RunConfig → List Answered → Desk → ℕ → StartedSpan → Ended
end_answer run before desk n s =
    let ticket = length (ended_by run.setup before) in
    if list_any is_end (calls_so_far before n) then already_ended
    else if not (is_sampled s.decision) then not_sampled
    else if list_any (λ x. is_shutdown x.step) before then late
    else if length desk.waiting == run.desk.queue then Ended.dropped ticket queue_full
    else queued ticket

-- Calls on it count. (Trace API, IsRecording)
abbrev pub is_live : StartedSpan → List Call → Bool
is_live s calls = is_recording s.decision && not (list_any is_end calls)

-- A call has a text, which is copied: all but an end and a status without a description do.
-- (profile)
abbrev pub has_text : Call → Bool
has_text (set_status unset) = false
has_text (set_status ok) = false
has_text (end at) = false
has_text _ = true

-- It takes memory: it counts, and has a text to copy. (profile)
abbrev pub call_takes_memory : StartedSpan → List Call → Call → Bool
call_takes_memory s calls c = is_live s calls && has_text c

-- Memory is refused only to a call that takes some. One that is ignored takes none, and no end
-- does. (Trace API, Span operations)
abbrev pub call_answer : RunConfig → List Answered → Desk → Bool → ℕ → Call → Option StartedSpan
    → Answer
call_answer run before desk refused n c None = no_span
call_answer run before desk refused n c (Some s) =
    if is_end c then ended (end_answer run before desk n s)
    else if refused && call_takes_memory s (calls_so_far before n) c then out_of_memory else done

-- ---- batches

-- (Trace SDK, Batching processor; at most one batch is out: profile)
abbrev pub take_answer : Desk → ℕ → Answer
take_answer desk now =
    if is_due desk now && is_none desk.out
    then taken (desk.batches + 1) (min desk.config.batch (length desk.waiting)) else not_taken

-- Where the last batch is: it is out no more, or it is to be encoded, or to be sent, or it was
-- sent and what came of that is to be judged, or it is to be sent again, from this moment on.
pub data Progress : Type 0 where
  not_out to_encode to_send : Progress
  to_judge : Outcome → Progress
  to_retry : ℕ → Progress

abbrev pub progress_by : Answer → Option Progress
progress_by (taken number size) = Some to_encode
progress_by (encoded number size) = Some to_send
progress_by (sent number attempt outcome) = Some (to_judge outcome)
progress_by (replied number (again moment)) = Some (to_retry moment)
-- These end it.
progress_by (Answer.dropped number reason) = Some not_out
progress_by (replied number Next.done) = Some not_out
progress_by (replied number (Next.partial rejected)) = Some not_out
progress_by (replied number (give_up cause)) = Some not_out
-- The others say nothing of a batch.
progress_by (started ids) = None
progress_by no_randomness = None
progress_by no_span = None
progress_by out_of_memory = None
progress_by done = None
progress_by (ended came) = None
progress_by Answer.flush = None
progress_by Answer.shutdown = None
progress_by not_taken = None
progress_by early = None
progress_by nothing = None

-- what was last said of a batch
unfoldable pub progress : List Answered → Progress
progress history = last_or not_out (filter_map (λ x. progress_by x.answer) history)

abbrev pub attempts_by : Answer → Option ℕ
attempts_by (taken number size) = Some 0
attempts_by (sent number attempt outcome) = Some attempt
attempts_by _ = None

-- how many attempts the last batch had
unfoldable pub last_attempt : List Answered → ℕ
last_attempt history = last_or 0 (filter_map (λ x. attempts_by x.answer) history)

-- the length of the request that exports the spans of the last batch (OTLP Specification)
abbrev pub last_length : Setup → List Answered → ℕ
last_length setup before = body_length (groups (last_spans (desk_events setup before)))

-- The batch has a body, unless memory is refused or the body would be larger than it may be: then
-- it is dropped. (profile)
abbrev pub encode_answer : RunConfig → List Answered → Desk → Bool → Progress → Answer
encode_answer run before desk refused to_encode =
    if refused then Answer.dropped desk.batches encode_memory
    else if nat_le (last_length run.setup before) run.max_body
    then encoded desk.batches (last_length run.setup before)
    else Answer.dropped desk.batches too_large
encode_answer run before desk refused _ = nothing

-- The attempts of a batch are numbered from 1 on. None comes before the moment from which the
-- batch is to be sent again. (OTLP Specification, Retryable Response Codes)
abbrev pub attempt_answer : List Answered → Desk → Outcome → ℕ → Progress → Answer
attempt_answer before desk outcome now to_send = sent desk.batches 1 outcome
attempt_answer before desk outcome now (to_retry moment) =
    if nat_lt now moment then early else sent desk.batches (last_attempt before + 1) outcome
attempt_answer before desk outcome now _ = nothing

-- (OTLP Specification, OTLP/HTTP Response)
abbrev pub reply_answer : RunConfig → List Answered → Desk → ℕ → ℕ → Progress → Answer
reply_answer run before desk now word (to_judge outcome) =
    replied desk.batches (next_after run.retry (last_attempt before) outcome now word)
reply_answer run before desk now word _ = nothing

-- ---- all steps

-- what a step can't know beforehand: whether memory is refused to it, and the outcome that the
-- exporter would show
pub record Given : Type 0 where
  pub refused : Bool
  pub outcome : Outcome

-- what the desk shows after these steps, which was made at moment 0
unfoldable pub desk_after : RunConfig → List Answered → Desk
desk_after run history = desk_of run.desk 0 (desk_events run.setup history)

-- the answer to a step after these
abbrev pub answer_to : RunConfig → List Answered → Given → Step → Answer
answer_to run before given (Step.start scope parent kind at name) =
    start_answer (is_there run.setup before scope parent) given.refused
    (start_result run.setup (starts_so_far run.setup before) false scope parent kind at name).span
answer_to run before given (Step.call n c) =
    call_answer run before (desk_after run before) given.refused n c (span_at run.setup before n)
answer_to run before given Step.flush = Answer.flush
answer_to run before given Step.shutdown = Answer.shutdown
answer_to run before given (Step.take now) = take_answer (desk_after run before) now
answer_to run before given Step.encode =
    encode_answer run before (desk_after run before) given.refused (progress before)
answer_to run before given (Step.attempt now) =
    attempt_answer before (desk_after run before) given.outcome now (progress before)
answer_to run before given (Step.reply now word) =
    reply_answer run before (desk_after run before) now word (progress before)

-- it is right, whatever is given
pub record IsAnswer (run : RunConfig) (before : List Answered) (x : Answered) : Type 0 where
  pub given : Given
  pub is : x.answer ≡ answer_to run before given x.step

abbrev pub AreAnswersAfter : RunConfig → List Answered → List Answered → Type 0
AreAnswersAfter run before [] = Unit {0}
AreAnswersAfter run before (x ∷ history) =
    IsAnswer run before x × AreAnswersAfter run (before ++ x ∷ []) history

-- Each answer is right after the steps before it.
unfoldable pub AreAnswers : RunConfig → List Answered → Type 0
AreAnswers run history = AreAnswersAfter run [] history
