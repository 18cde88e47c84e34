-- What is proved of every run whose answers are right. (Trace API, End; Trace SDK, Batching
-- processor; tickets and batches: profile)
use Rattle.std.specs.Prelude.{◌≡◌, ℕ, ◌+◌, ◌-◌, ◌^◌, ◌<◌, ◌≤◌, ◌==◌, nat_lt, min, Bool, true, false}
use Rattle.std.specs.Prelude.{not, ◌&&◌, List, [], ◌∷◌, ◌++◌, length, map, flat_map, filter_map}
use Rattle.std.specs.Prelude.{reverse, slice_get, Option, Some, None, is_none}
use Rattle.std.specs.List.{list_any, AllByRecursion}
use Rattle.std.specs.Option.{option_map_or}
use Rattle.model_span.specs.Attributes.{last_or}
use Rattle.model_span.specs.Dropped.{Reason, queue_full, encode_memory, too_large, Entry, entry_of}
use Rattle.model_span.specs.Sampling.{is_sampled}
use Rattle.model_span.specs.Spans.{SpanData, is_end}
use Rattle.model_desk.specs.Retries.{Outcome, Next, again, give_up, fate_of}
use Rattle.model_desk.specs.Queue.{waiting_spans, batch_spans, last_spans, handed_spans, drops}
use Rattle.model_desk.specs.Queue.{lost_as, losses}
use Rattle.model_desk.specs.Desks.{is_due, AreAllowed}
use Rattle.model_run.specs.Queues.{times, AreApart}
use Rattle.model_desk.specs.Waits.{IsRetryConfig, next_after}
use Rattle.model_run.specs.Steps.{Step, is_shutdown}
use Rattle.model_run.specs.History.{Setup, ended_spans, granted_steps}
use Rattle.model_run.specs.Runs.{Ended, Answer, started, no_randomness, no_span, out_of_memory}
use Rattle.model_run.specs.Runs.{ended, taken, not_taken, encoded, sent, early, replied, nothing}
use Rattle.model_run.specs.Runs.{Answered, is_refused, span_at, calls_so_far, ended_by, desk_events}
use Rattle.model_run.specs.Runs as runs
use Rattle.model_run.specs.Answers.{RunConfig, last_length, desk_after, AreAnswers}
use Rattle.model_run.specs.Headline.{EachOnce, Attempt, attempts, attempts_of, batch_numbers}

-- the property holds whatever is done and whatever is answered
abbrev pub OfHistories : (Setup → List Answered → Type 0) → Type 0
OfHistories holds = (setup : Setup) (history : List Answered) → holds setup history

-- the property holds of each run where each answer is right
abbrev pub OfRuns : (RunConfig → List Answered → Type 0) → Type 0
OfRuns holds =
    (run : RunConfig) (history : List Answered) → AreAnswers run history → holds run history

-- the property holds of each step of a history, after the steps before it
abbrev pub AtEachStep : (List Answered → Answered → Type 0) → List Answered → Type 0
AtEachStep holds history =
    (before later : List Answered) (x : Answered) → before ++ x ∷ later ≡ history
    → holds before x

-- ---- ends

-- The step is the first end of a sampled span. (Trace API, End; Trace SDK, Sampling)
abbrev pub is_first_end : RunConfig → List Answered → Step → Bool
is_first_end run before (Step.call n c) =
    is_end c && not (list_any is_end (calls_so_far before n))
    && option_map_or (λ s. is_sampled s.decision) (span_at run.setup before n) false
is_first_end run before _ = false

-- there was a shutdown
abbrev pub was_shut : List Answered → Bool
was_shut before = list_any (λ x. is_shutdown x.step) before

-- as many spans wait as the queue holds
abbrev pub is_full : RunConfig → List Answered → Bool
is_full run before = length (desk_after run before).waiting == run.desk.queue

abbrev pub says_late : Answer → Bool
says_late (ended runs.late) = true
says_late _ = false

abbrev pub says_full : Answer → Bool
says_full (ended (Ended.dropped ticket queue_full)) = true
says_full _ = false

abbrev pub says_queued : Answer → Bool
says_queued (ended (runs.queued ticket)) = true
says_queued _ = false

-- A span is late exactly where its first end comes after a shutdown. (Trace SDK, Shutdown)
abbrev pub LateAfterShutdown : RunConfig → List Answered → Type 0
LateAfterShutdown run = AtEachStep (λ before x.
    says_late x.answer ≡ (is_first_end run before x.step && was_shut before))

-- A span is dropped at its end exactly where the queue is full and there was no shutdown. (Trace
-- SDK, Batching processor: maxQueueSize)
abbrev pub DroppedWhereFull : RunConfig → List Answered → Type 0
DroppedWhereFull run = AtEachStep (λ before x.
    says_full x.answer ≡
    (is_first_end run before x.step && not (was_shut before) && is_full run before))

-- A span is queued at its end exactly where there is room and there was no shutdown.
abbrev pub QueuedWhereRoom : RunConfig → List Answered → Type 0
QueuedWhereRoom run = AtEachStep (λ before x.
    says_queued x.answer ≡
    (is_first_end run before x.step && not (was_shut before) && not (is_full run before)))

-- ---- batches

-- The step takes, a batch is due at its moment, and none is out.
abbrev pub may_take : RunConfig → List Answered → Step → Bool
may_take run before (Step.take now) =
    is_due (desk_after run before) now && is_none (desk_after run before).out
may_take run before _ = false

abbrev pub says_taken : Answer → Bool
says_taken (taken number size) = true
says_taken _ = false

-- A take gives a batch exactly where one is due and none is out. (Trace SDK, Batching processor; at
-- most one batch is out: profile)
abbrev pub TakenWhereDue : RunConfig → List Answered → Type 0
TakenWhereDue run = AtEachStep (λ before x. says_taken x.answer ≡ may_take run before x.step)

-- A batch has the next number, and as many of the spans that wait as a batch may have. (Trace SDK,
-- Batching processor: maxExportBatchSize)
abbrev pub TakesTheFirst : RunConfig → List Answered → Type 0
TakesTheFirst run = AtEachStep (λ before x.
    (number size : ℕ) → x.answer ≡ taken number size
    → let desk = desk_after run before in
    (number ≡ desk.batches + 1) × (size ≡ min run.desk.batch (length desk.waiting)))

-- After a shutdown each take with none out gives what waits. (Trace SDK, Shutdown)
abbrev pub TakenAfterShutdown : RunConfig → List Answered → Type 0
TakenAfterShutdown run = AtEachStep (λ before x.
    (now : ℕ) → was_shut before ≡ true → x.step ≡ Step.take now
    → let desk = desk_after run before in
    says_taken x.answer ≡ (nat_lt 0 (length desk.waiting) && is_none desk.out))

-- The answer ends a batch: nothing more follows for it.
abbrev pub ends_batch : Answer → Bool
ends_batch (replied number Next.done) = true
ends_batch (replied number (Next.partial rejected)) = true
ends_batch (replied number (give_up cause)) = true
ends_batch (Answer.dropped number reason) = true
ends_batch (replied number (again moment)) = false
ends_batch (taken number size) = false
ends_batch (encoded number size) = false
ends_batch (sent number attempt outcome) = false
ends_batch (started ids) = false
ends_batch no_randomness = false
ends_batch no_span = false
ends_batch out_of_memory = false
ends_batch runs.done = false
ends_batch (ended came) = false
ends_batch Answer.flush = false
ends_batch Answer.shutdown = false
ends_batch not_taken = false
ends_batch early = false
ends_batch nothing = false

-- At most one batch is out: before a next one is taken, the last one was settled or dropped.
-- (profile)
abbrev pub OneBatchIsOut : List Answered → Type 0
OneBatchIsOut history =
    (before between later : List Answered) (x y : Answered)
    → before ++ x ∷ between ++ y ∷ later ≡ history
    → says_taken x.answer ≡ true → says_taken y.answer ≡ true
    → list_any (λ z. ends_batch z.answer) between ≡ true

-- ---- encoding

-- A batch has a body only where that isn't larger than it may be. Its length is that of the request
-- that exports its spans. (OTLP Specification; profile)
abbrev pub EncodedWhereItFits : RunConfig → List Answered → Type 0
EncodedWhereItFits run = AtEachStep (λ before x.
    (number size : ℕ) → x.answer ≡ encoded number size
    → (number ≡ (desk_after run before).batches) × (size ≡ last_length run.setup before)
    × (size ≤ run.max_body))

-- Why a batch has no body: memory was refused, or it would be larger than it may be.
abbrev pub KeepsFromEncoding : RunConfig → List Answered → Reason → Type 0
KeepsFromEncoding run before encode_memory = Unit {0}
KeepsFromEncoding run before too_large = run.max_body < last_length run.setup before
KeepsFromEncoding run before _ = ⊥

-- A batch is dropped only in place of its encoding, and for such a reason. (profile)
abbrev pub DroppedUnencoded : RunConfig → List Answered → Type 0
DroppedUnencoded run = AtEachStep (λ before x.
    (number : ℕ) (reason : Reason) → x.answer ≡ Answer.dropped number reason
    → (x.step ≡ Step.encode) × (number ≡ (desk_after run before).batches)
    × KeepsFromEncoding run before reason)

-- Its spans are then named as dropped for this reason, in their order, and no others are. (profile)
abbrev pub DroppedBatchIsNamed : Setup → List Answered → Type 0
DroppedBatchIsNamed setup = AtEachStep (λ before x.
    (number : ℕ) (reason : Reason) → x.answer ≡ Answer.dropped number reason
    → let events = desk_events setup before in
    drops (desk_events setup (before ++ x ∷ []))
    ≡ drops events ++ map (entry_of reason) (last_spans events))

-- ---- attempts

-- Each attempt has the number after those that its batch had. (profile)
abbrev pub AttemptsAreNumbered : List Answered → Type 0
AttemptsAreNumbered = AtEachStep (λ before x.
    (number attempt : ℕ) (outcome : Outcome) → x.answer ≡ sent number attempt outcome
    → attempt ≡ length (attempts_of number before) + 1)

-- A batch has at most as many attempts as are configured. (OTLP Specification, Retryable Response
-- Codes; the number: profile)
abbrev pub AttemptsAreFew : RunConfig → List Answered → Type 0
AttemptsAreFew run = AtEachStep (λ before x.
    (number attempt : ℕ) (outcome : Outcome) → x.answer ≡ sent number attempt outcome
    → attempt ≤ run.retry.attempts)

-- No batch has more than five attempts. (profile)
abbrev pub AttemptsAreFiveAtMost : List Answered → Type 0
AttemptsAreFiveAtMost = AtEachStep (λ before x.
    (number attempt : ℕ) (outcome : Outcome) → x.answer ≡ sent number attempt outcome
    → attempt ≤ 5)

-- the property holds of runs with valid retry settings
abbrev pub OfSettings : (RunConfig → List Answered → Type 0) → RunConfig → List Answered → Type 0
OfSettings holds run history = IsRetryConfig run.retry → holds run history

abbrev pub moment_by : Answer → Option ℕ
moment_by (taken number size) = Some 0
moment_by (replied number (again moment)) = Some moment
moment_by _ = None

-- the moment from which on the last batch may be sent: at any, until a reply says one
unfoldable pub retry_moment : List Answered → ℕ
retry_moment before = last_or 0 (filter_map (λ x. moment_by x.answer) before)

-- No attempt comes before that moment. (OTLP Specification, OTLP/HTTP Throttling)
abbrev pub NoAttemptIsEarly : List Answered → Type 0
NoAttemptIsEarly = AtEachStep (λ before x.
    (now number attempt : ℕ) (outcome : Outcome) → x.step ≡ Step.attempt now
    → x.answer ≡ sent number attempt outcome → retry_moment before ≤ now)

-- What follows from a reply is what follows from the outcome of the last attempt, which was one of
-- the same batch. (OTLP Specification, OTLP/HTTP Response)
abbrev pub RepliesAreDecided : RunConfig → List Answered → Type 0
RepliesAreDecided run = AtEachStep (λ before x.
    (now word number : ℕ) (next : Next) → x.step ≡ Step.reply now word
    → x.answer ≡ replied number next
    → (earlier : List Attempt) × (last : Attempt) × (attempts before ≡ earlier ++ last ∷ [])
    × (number ≡ last.number)
    × (next ≡ next_after run.retry last.attempt last.outcome now word))

-- ---- no span is unaccounted for

-- A span that has ended keeps its ticket and its value, whatever is done and answered. (Trace API,
-- End)
abbrev pub EndedSpansStay : Setup → List Answered → Type 0
EndedSpansStay setup history =
    (more : List Answered) → (new : List SpanData)
    × (ended_by setup (history ++ more) ≡ ended_by setup history ++ new)

-- there are tickets for all spans that end (profile)
abbrev pub HasTickets : Setup → List Answered → Type 0
HasTickets setup history = length (ended_by setup history) < 2 ^ 64 - 1

-- No more spans end than there are steps.
abbrev pub EndedAreFew : Setup → List Answered → Type 0
EndedAreFew setup history = length (ended_by setup history) ≤ length history

-- what is done at the queue is allowed there
abbrev pub IsAllowed : RunConfig → List Answered → Type 0
IsAllowed run history = AreAllowed run.desk 0 (desk_events run.setup history)

-- What is done at the queue is allowed where there are tickets for all spans that end. (Trace SDK,
-- Batching processor)
abbrev pub EventsAreAllowed : RunConfig → List Answered → Type 0
EventsAreAllowed run history =
    HasTickets run.setup history → IsAllowed run history

-- Each span that ended before the shutdown is handed, still queued, or dropped, once. (profile)
abbrev pub NoneUnaccountedFor : RunConfig → List Answered → Type 0
NoneUnaccountedFor run history = IsAllowed run history → EachOnce run.setup history

-- The spans that were handed to the exporter are those of the distinct batches of these attempts.
-- (profile)
abbrev pub HandedAreTheBatches : Setup → List Answered → List Attempt → Type 0
HandedAreTheBatches setup history told =
    let events = desk_events setup history in
    handed_spans events ≡ flat_map (batch_spans events) (batch_numbers told)

-- A span that was handed to the exporter is not named as dropped, and neither is done twice.
-- (profile)
abbrev pub HandedAreNotDropped : Setup → List Answered → Type 0
HandedAreNotDropped setup history =
    (ticket : ℕ) → let events = desk_events setup history in
    times ticket (map (λ s. s.ticket) (handed_spans events))
    + times ticket (map (λ e. e.ticket) (drops events)) ≤ 1

-- The ledger names the spans that were dropped, the newest first. (profile)
abbrev pub LedgerNamesTheDropped : RunConfig → List Answered → Type 0
LedgerNamesTheDropped run history =
    (desk_after run history).ledger ≡ reverse (drops (desk_events run.setup history))

-- ---- what is lost

-- the names of the spans of the batch that is out, where they are lost by this answer
abbrev pub lost_by : Answer → List SpanData → List Entry
lost_by (replied number next) spans = lost_as (fate_of next) spans
lost_by _ spans = []

-- Where a reply settles the batch that is out, and its fate is that it was refused or given up, or
-- that its reply could not be read, its spans are lost for that reason, in their order. At no other
-- step, and by no other fate, a span is lost. (profile)
abbrev pub BatchesAreLost : Setup → List Answered → Type 0
BatchesAreLost setup = AtEachStep (λ before x.
    let events = desk_events setup before in
    losses (desk_events setup (before ++ x ∷ []))
    ≡ losses events ++ lost_by x.answer (last_spans events))

-- A span that is lost was handed to the exporter, and is lost once. (profile)
abbrev pub LostWereHanded : Setup → List Answered → Type 0
LostWereHanded setup history =
    (ticket : ℕ) → let events = desk_events setup history in
    let lost = times ticket (map (λ e. e.ticket) (losses events)) in
    (lost ≤ times ticket (map (λ s. s.ticket) (handed_spans events))) × (lost ≤ 1)

-- The second ledger names the spans that were lost, the newest first. (profile)
abbrev pub LedgerNamesTheLost : RunConfig → List Answered → Type 0
LedgerNamesTheLost run history =
    (desk_after run history).lost ≡ reverse (losses (desk_events run.setup history))

-- ---- values

-- The span has the value and the ticket with which it ended.
abbrev pub IsEndedSpan : Setup → List Answered → SpanData → Type 0
IsEndedSpan setup history s = slice_get (ended_by setup history) s.ticket ≡ Some s

-- The entry is that of the span that ended with its ticket.
abbrev pub NamesEndedSpan : Setup → List Answered → Entry → Type 0
NamesEndedSpan setup history e =
    (s : SpanData) × (slice_get (ended_by setup history) e.ticket ≡ Some s)
    × (e ≡ entry_of e.reason s)

-- The spans that wait, those of each batch and those that were dropped are spans that ended, each
-- with its value and ticket. (Trace API, End)
abbrev pub WaitingAreEnded : Setup → List Answered → Type 0
WaitingAreEnded setup history =
    AllByRecursion (IsEndedSpan setup history) (waiting_spans (desk_events setup history))

abbrev pub BatchesAreEnded : Setup → List Answered → Type 0
BatchesAreEnded setup history =
    (number : ℕ) → AllByRecursion (IsEndedSpan setup history)
    (batch_spans (desk_events setup history) number)

abbrev pub DropsNameEnded : Setup → List Answered → Type 0
DropsNameEnded setup history =
    AllByRecursion (NamesEndedSpan setup history) (drops (desk_events setup history))

abbrev pub LossesNameEnded : Setup → List Answered → Type 0
LossesNameEnded setup history =
    AllByRecursion (NamesEndedSpan setup history) (losses (desk_events setup history))

-- All of it: a span is in the second ledger exactly where its batch was handed and lost, once, with
-- that reason, its ticket and its identifiers. No dropped span has a reason of lost spans, and each
-- lost span has one. (profile)
pub record LossesAreNamed (run : RunConfig) (history : List Answered) : Type 0 where
  pub batches : BatchesAreLost run.setup history
  pub handed : LostWereHanded run.setup history
  pub values : LossesNameEnded run.setup history
  pub ledger : LedgerNamesTheLost run history
  pub apart : AreApart (desk_events run.setup history)

-- Where no memory was refused, the spans that end are those that the steps end. (Trace API, End)
abbrev pub EndedByTheSteps : Setup → List Answered → Type 0
EndedByTheSteps setup history =
    list_any (λ x. is_refused x.answer) history ≡ false
    → ended_by setup history ≡ ended_spans setup (granted_steps (map (λ x. x.step) history))
