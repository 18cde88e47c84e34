-- What becomes of ended spans, by what was done at the queue of a batch processor and what it
-- answered: which of them wait, are in a batch, are handed to the exporter, are dropped or are
-- lost. (Trace SDK, Batching processor; tickets, numbers of batches and the two ledgers: profile)
use Rattle.std.specs.Prelude.{ℕ, ◌-◌, ◌^◌, ◌==◌, Bool, true, false, ◌||◌, if◌then◌else◌, List, []}
use Rattle.std.specs.Prelude.{◌∷◌, ◌++◌, length, map, take, drop, filter_map, sum, count_by, Option}
use Rattle.std.specs.Prelude.{Some, None, unwrap_or, slice_get}
use Rattle.std.specs.List.{list_any}
use Rattle.model_span.specs.Attributes.{last_or}
use Rattle.model_span.specs.Spans.{SpanData}
use Rattle.model_span.specs.Dropped.{Reason, queue_full, bad_reply, given_up, left_handed, Entry}
use Rattle.model_span.specs.Dropped.{entry_of}
use Rattle.model_span.specs.Dropped as reasons
use Rattle.model_desk.specs.Retries.{Fate}

-- What was done, and what was answered. A list of these is a history, the first one first.
pub data DeskEvent : Type 0 where
  -- a sampled span ended, with its ticket in it: it waits, or it was dropped since the queue was
  -- full (Trace SDK, OnEnd)
  queued full : SpanData → DeskEvent
  -- a sampled span ended where none is admitted any more
  late : DeskEvent
  -- (Trace SDK, ForceFlush, Shutdown)
  flush shutdown : DeskEvent
  -- a batch was taken: its moment, and how many spans the batch has
  taken : ℕ → ℕ → DeskEvent
  -- the batch that is out was handed to the exporter; was dropped before that; was settled after it
  handed : DeskEvent
  dropped : Reason → DeskEvent
  settled : Fate → DeskEvent
  -- the newest entry of the ledger of dropped spans was taken out, if there was one; the same of
  -- the ledger of lost spans
  popped popped_lost : DeskEvent

-- what each event adds, after those before it
abbrev pub gather : {A : Type 0} → (List DeskEvent → DeskEvent → List A) → List DeskEvent
    → List DeskEvent → List A
gather f before [] = []
gather f before (x ∷ events) = f before x ++ gather f (before ++ x ∷ []) events

-- ---- tickets, and the spans that were accepted

abbrev pub ticket_of : DeskEvent → Option ℕ
ticket_of (queued span) = Some span.ticket
ticket_of (full span) = Some span.ticket
ticket_of _ = None

-- the tickets that were given, in order
abbrev pub tickets : List DeskEvent → List ℕ
tickets events = filter_map ticket_of events

abbrev pub queued_span : DeskEvent → Option SpanData
queued_span (queued span) = Some span
queued_span _ = None

-- the spans that were queued, in order
abbrev pub accepted_spans : List DeskEvent → List SpanData
accepted_spans events = filter_map queued_span events

-- ---- batches

abbrev pub size_of_take : DeskEvent → Option ℕ
size_of_take (taken now size) = Some size
size_of_take _ = None

-- how many spans each batch has, in order
abbrev pub batch_sizes : List DeskEvent → List ℕ
batch_sizes events = filter_map size_of_take events

-- how many spans were taken
abbrev pub taken_count : List DeskEvent → ℕ
taken_count events = sum (batch_sizes events)

-- the spans that wait: those accepted after the taken ones
abbrev pub waiting_spans : List DeskEvent → List SpanData
waiting_spans events = drop (taken_count events) (accepted_spans events)

-- a list, from its front on, cut into slices of these lengths
abbrev pub slices : {A : Type 0} → List ℕ → List A → List (List A)
slices [] xs = []
slices (n ∷ ns) xs = take n xs ∷ slices ns (drop n xs)

-- the spans of the batch with this number, from 1 on: of those accepted, the slice after the
-- batches before; none for a number that no batch has, as 0
abbrev pub batch_spans : List DeskEvent → ℕ → List SpanData
batch_spans events number =
    unwrap_or (slice_get ([] ∷ slices (batch_sizes events) (accepted_spans events)) number) []

-- the number of the last batch, or 0
abbrev pub last_batch : List DeskEvent → ℕ
last_batch events = length (batch_sizes events)

-- its spans
abbrev pub last_spans : List DeskEvent → List SpanData
last_spans events = batch_spans events (last_batch events)

-- how many they are
abbrev pub last_size : List DeskEvent → ℕ
last_size events = last_or 0 (batch_sizes events)

-- Where the last batch is: it is not out, or it is and not handed to the exporter, or it is and
-- handed.
pub data Stage : Type 0 where
  not_out in_hand with_exporter : Stage

abbrev pub stage_by : DeskEvent → Option Stage
stage_by (taken now size) = Some in_hand
stage_by handed = Some with_exporter
stage_by (dropped reason) = Some not_out
stage_by (settled fate) = Some not_out
stage_by _ = None

-- what was last said of a batch
abbrev pub stage : List DeskEvent → Stage
stage events = last_or not_out (filter_map stage_by events)

-- the moment of a take
abbrev pub moment_of_take : DeskEvent → Option ℕ
moment_of_take (taken now size) = Some now
moment_of_take _ = None

-- the moment of the last take, or that at which the queue was made
abbrev pub last_moment : ℕ → List DeskEvent → ℕ
last_moment made events = last_or made (filter_map moment_of_take events)

-- ---- what was handed, and what came of it

abbrev pub spans_handed_by : List DeskEvent → DeskEvent → List SpanData
spans_handed_by before handed = last_spans before
spans_handed_by before _ = []

-- the spans of the batches that were handed to the exporter, in order
abbrev pub handed_spans : List DeskEvent → List SpanData
handed_spans events = gather spans_handed_by [] events

abbrev pub in_hand_as : Stage → List SpanData → List SpanData
in_hand_as in_hand spans = spans
in_hand_as _ spans = []

-- the spans of the batch that is out and not handed
abbrev pub in_hand_spans : List DeskEvent → List SpanData
in_hand_spans events = in_hand_as (stage events) (last_spans events)

abbrev pub fate_by : DeskEvent → Option Fate
fate_by (settled fate) = Some fate
fate_by _ = None

-- how the batches were settled, in order
abbrev pub fates : List DeskEvent → List Fate
fates events = filter_map fate_by events

-- ---- what was dropped

abbrev pub entries_by : List DeskEvent → DeskEvent → List Entry
entries_by before (full span) = entry_of queue_full span ∷ []
entries_by before (dropped reason) = map (entry_of reason) (last_spans before)
entries_by before _ = []

-- The dropped spans, in order: those that ended where the queue was full, and the spans of a
-- dropped batch as they were queued.
abbrev pub drops : List DeskEvent → List Entry
drops events = gather entries_by [] events

-- ---- what was lost

-- why the spans of a batch with this fate are lost, if they are; a partial success doesn't say
-- which spans were refused
abbrev pub loss_reason : Fate → Option Reason
loss_reason Fate.delivered = None
loss_reason (Fate.partial rejected) = None
loss_reason (Fate.refused status) = Some (reasons.refused status)
loss_reason Fate.bad_reply = Some bad_reply
loss_reason Fate.given_up = Some given_up
loss_reason Fate.abandoned = Some left_handed

abbrev pub named_as : Option Reason → List SpanData → List Entry
named_as None spans = []
named_as (Some reason) spans = map (entry_of reason) spans

-- the names of the spans of a batch with this fate, where they are lost, else none
abbrev pub lost_names : Fate → List SpanData → List Entry
lost_names fate spans = named_as (loss_reason fate) spans

-- the same of a batch that may have no fate yet, where none is lost
abbrev pub lost_as : Option Fate → List SpanData → List Entry
lost_as None spans = []
lost_as (Some fate) spans = lost_names fate spans

abbrev pub losses_by : List DeskEvent → DeskEvent → List Entry
losses_by before (settled fate) = lost_names fate (last_spans before)
losses_by before _ = []

-- the lost spans, in order: those of the handed batches whose fate loses them
abbrev pub losses : List DeskEvent → List Entry
losses events = gather losses_by [] events

-- ---- the ledgers

-- what is done to a stack
pub data StackStep (A : Type 0) : Type 0 where
  push : A → StackStep A
  pop : StackStep A

-- what is on it after some steps, the newest first
abbrev pub stack_on : {A : Type 0} → List A → List (StackStep A) → List A
stack_on below [] = below
stack_on below (push x ∷ steps) = stack_on (x ∷ below) steps
stack_on below (pop ∷ steps) = stack_on (drop 1 below) steps

-- A stack of names: `pops` says which events take the newest name off, and `adds` which names each
-- other event adds.
module _ (pops : DeskEvent → Bool) (adds : List DeskEvent → DeskEvent → List Entry) where
  abbrev pub stack_steps : List DeskEvent → DeskEvent → List (StackStep Entry)
  stack_steps before x = if pops x then pop ∷ [] else map push (adds before x)

  abbrev pub stack_of : List DeskEvent → List Entry
  stack_of events = stack_on [] (gather stack_steps [] events)

  abbrev pub popped_by : List DeskEvent → DeskEvent → List Entry
  popped_by before x = if pops x then take 1 (stack_of before) else []

  -- the names that were popped, in order: each time the newest one
  abbrev pub popped_of : List DeskEvent → List Entry
  popped_of events = gather popped_by [] events

abbrev pub is_popped : DeskEvent → Bool
is_popped popped = true
is_popped _ = false

abbrev pub is_popped_lost : DeskEvent → Bool
is_popped_lost popped_lost = true
is_popped_lost _ = false

-- the ledger: the dropped spans that weren't popped, the newest first
abbrev pub ledger_entries : List DeskEvent → List Entry
ledger_entries events = stack_of is_popped entries_by events

-- what was popped from it, in order
abbrev pub popped_entries : List DeskEvent → List Entry
popped_entries events = popped_of is_popped entries_by events

-- the second ledger: the lost spans that weren't popped, the newest first
abbrev pub lost_entries : List DeskEvent → List Entry
lost_entries events = stack_of is_popped_lost losses_by events

-- what was popped from it, in order
abbrev pub popped_lost_entries : List DeskEvent → List Entry
popped_lost_entries events = popped_of is_popped_lost losses_by events

abbrev pub is_late : DeskEvent → Bool
is_late late = true
is_late _ = false

-- how many sampled spans ended where none was admitted any more
abbrev pub late_count : List DeskEvent → ℕ
late_count events = count_by is_late events

-- ---- flush and shutdown

abbrev pub asks : DeskEvent → Bool
asks flush = true
asks shutdown = true
asks _ = false

abbrev pub marks_by : List DeskEvent → DeskEvent → List ℕ
marks_by before x = if asks x then length (accepted_spans before) ∷ [] else []

-- how many spans had been accepted at the last flush or shutdown, or 0
abbrev pub asked_count : List DeskEvent → ℕ
asked_count events = last_or 0 (gather marks_by [] events)

abbrev pub is_shutdown : DeskEvent → Bool
is_shutdown shutdown = true
is_shutdown _ = false

-- Whether no span is admitted any more: there was a shutdown, or the next ticket would be the
-- greatest number of 64 bits. (Trace SDK, Shutdown; tickets: profile)
abbrev pub is_closed : List DeskEvent → Bool
is_closed events = list_any is_shutdown events || (length (tickets events) == 2 ^ 64 - 1)
