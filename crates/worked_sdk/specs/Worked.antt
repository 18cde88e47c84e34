-- The runs of the examples: what they have, their steps, and what is answered to these.
use Rattle.std.specs.Prelude.{ℕ, ◌+◌, ◌==◌, List, [], ◌∷◌, ◌++◌, ℤ, length, map, take, drop}
use Rattle.std.specs.Prelude.{replicate, slice_index, Bool, true, false, if◌then◌else◌, Option}
use Rattle.std.specs.Prelude.{Some, None, codes}
use Rattle.std.specs.List.{list_any}
use Rattle.std.specs.Str.{chars}
use lib.Utf8.{encode}
use Prim.Native.String.{String}
use Rattle.model_message.specs.Canon.{canon, septets_of}
use Rattle.model_span.specs.Attributes.{Attribute, int}
use Rattle.model_span.specs.Dropped.{Reason, Entry}
use Rattle.model_span.specs.Identifiers.{Words, first_valid}
use Rattle.model_span.specs.Sampling.{SamplerMeaning, always_on}
use Rattle.model_span.specs.Spans as spans
use Rattle.model_span.specs.Spans.{default_limits, internal, unset, Context, Call, Resource, Scope}
use Rattle.model_span.specs.Spans.{SpanData, first_or, span}
use Rattle.model_span.specs.Starts.{Ids, started_span, ids_of, ids_words}
use Rattle.model_export.specs.Export.{groups, body_length}
use Rattle.model_desk.specs.Retries.{Outcome, no_reply, Next}
use Rattle.model_desk.specs.Queue.{DeskEvent, batch_spans}
use Rattle.model_desk.specs.Desks.{DeskConfig, Desk, desk_of}
use Rattle.model_run.specs.Queues.{places}
use Rattle.model_desk.specs.Waits.{RetryConfig}
use Rattle.model_run.specs.Steps.{Parent, root, Step}
use Rattle.model_run.specs.History.{Setup, start_results_after}
use Rattle.model_run.specs.Runs.{Answer, sent, Answered, ended_by, desk_events}
use Rattle.model_run.specs.Runs as runs
use Rattle.model_run.specs.Headline.{Attempt, PendingBatch, pending_after}
use Rattle.model_run.specs.Answers.{RunConfig, Progress, progress, last_attempt, desk_after}
use Rattle.model_run.specs.Answers.{answer_to}

-- ---- identifiers

-- the eight bytes of a small word
abbrev pub id : ℕ → List ℕ
id word = replicate 7 0 ++ word ∷ []

-- a span in the trace of the words 1 and 2
abbrev pub ids : ℕ → Ids
ids word = record { trace = id 1 ++ id 2; span = id word }

-- a context in that trace, with these flags
abbrev pub context : Bool → ℕ → String → Context
context remote flags state = record {
  trace = id 1 ++ id 2;
  span = id 9;
  flags = flags;
  remote = remote;
  state = codes state;
}

-- ---- what a run has

-- the words 1, 2, 3 and so on
abbrev pub counting : Words
counting k = k + 1

abbrev pub no_resource : Resource
no_resource = record { attributes = []; schema = [] }

abbrev pub scope_s : Scope
scope_s = record { name = codes "s"; version = []; attributes = []; schema = [] }

-- scope s alone
abbrev pub setup_with : SamplerMeaning → Words → Setup
setup_with sampler words = record {
  words = words;
  provider = record { sampler = sampler; resource = no_resource; limits = default_limits };
  scopes = scope_s ∷ [];
}

-- this queue, batches of two spans, a delay of 5000 ms
abbrev pub desk_of_size : ℕ → DeskConfig
desk_of_size queue = record { queue = queue; batch = 2; delay_ms = 5000 }

-- five attempts, waits from 1000 to 30000 ms
abbrev pub five_attempts : RetryConfig
five_attempts = record { attempts = 5; initial_ms = 1000; max_ms = 30000; least_ms = 0 }

-- the greatest body, where none other is set
abbrev pub four_mebibytes : ℕ
four_mebibytes = 4194304

-- all spans are sampled
abbrev pub queue_of : ℕ → RunConfig
queue_of queue = record {
  setup = setup_with always_on counting;
  desk = desk_of_size queue;
  retry = five_attempts;
  max_body = four_mebibytes;
}

-- the same, with a queue of four and this greatest body
abbrev pub bodies_of : ℕ → RunConfig
bodies_of greatest = record (queue_of 4) { max_body = greatest }

-- a queue of this many spans, and one attempt
abbrev pub once_of : ℕ → RunConfig
once_of queue = record {
  setup = setup_with always_on counting;
  desk = desk_of_size queue;
  retry = record five_attempts { attempts = 1 };
  max_body = four_mebibytes;
}

-- a queue of one, and batches of one
abbrev pub single : RunConfig
single = record {
  setup = setup_with always_on counting;
  desk = record { queue = 1; batch = 1; delay_ms = 5000 };
  retry = five_attempts;
  max_body = four_mebibytes;
}

-- a queue of four, with this sampler and these words, after which are zeros
abbrev pub run_with : SamplerMeaning → List ℕ → RunConfig
run_with sampler words = record {
  setup = setup_with sampler (slice_index words);
  desk = desk_of_size 4;
  retry = five_attempts;
  max_body = four_mebibytes;
}

-- ---- steps

-- a span named a, of kind internal, from 1 on
abbrev pub starts : ℕ → Parent → Step
starts scope parent = Step.start scope parent internal 1 (codes "a")

-- the first one, which draws its trace
abbrev pub first : Step
first = starts 0 root

-- its child
abbrev pub child : Step
child = starts 0 (Parent.numbered 0)

-- the first span, and this many children of it
abbrev pub family : ℕ → List Step
family children = first ∷ replicate children child

abbrev pub calls : ℕ → Call → Step
calls n c = Step.call n c

abbrev pub ends : ℕ → Step
ends n = Step.call n (Call.end 2)

-- what is done with a batch that was taken
abbrev pub sends : List Step
sends = Step.encode ∷ Step.attempt 0 ∷ Step.reply 0 0 ∷ []

-- ---- what is answered to them

abbrev pub is_sent : Answer → Bool
is_sent (sent number attempt outcome) = true
is_sent _ = false

-- The history of steps after others. Memory is refused at these places, from 0 on, and the
-- exporter has these outcomes, and then delivers.
unfoldable pub history_after : RunConfig → List ℕ → List Answered → List Outcome → List Step
    → List Answered
unfolding desk_after desk_of desk_events ended_by progress last_attempt start_results_after
    started_span ids_of ids_words first_valid span chars encode groups body_length canon
    septets_of
history_after run scarce before outcomes [] = before
history_after run scarce before outcomes (step ∷ later) =
    let refused = list_any (λ place. place == length before) scarce in
    let outcome = first_or Outcome.delivered outcomes in
    let answer = answer_to run before (record { refused = refused; outcome = outcome }) step in
    history_after run scarce (before ++ record { step = step; answer = answer } ∷ [])
    (if is_sent answer then drop 1 outcomes else outcomes) later

-- where memory is ample and each batch is delivered
unfoldable pub history : RunConfig → List Step → List Answered
unfolding history_after
history run done = history_after run [] [] [] done

abbrev pub answers_of : List Answered → List Answer
answers_of all = map (λ x. x.answer) all

-- the answers, but for the first ones
unfoldable pub answers_from : ℕ → RunConfig → List Step → List Answer
unfolding history
answers_from n run done = drop n (answers_of (history run done))

-- the same, where memory is refused at these places
unfoldable pub answers_without : List ℕ → ℕ → RunConfig → List Step → List Answer
unfolding history_after
answers_without scarce n run done = drop n (answers_of (history_after run scarce [] [] done))

-- the same, where the exporter has these outcomes first
unfoldable pub answers_by : List Outcome → ℕ → RunConfig → List Step → List Answer
unfolding history_after
answers_by outcomes n run done = drop n (answers_of (history_after run [] [] outcomes done))

-- the names of the spans that are dropped, the newest first, where memory is refused at these
-- places
unfoldable pub named_by : List ℕ → RunConfig → List Step → List Entry
unfolding history_after
named_by scarce run done = (desk_after run (history_after run scarce [] [] done)).ledger

-- the names of the spans that are lost, the newest first, with these outcomes
unfoldable pub lost_by : List Outcome → RunConfig → List Step → List Entry
unfolding history_after
lost_by outcomes run done = (desk_after run (history_after run [] [] outcomes done)).lost

-- the spans that a run ends, where memory is refused at these places
unfoldable pub ended_without : List ℕ → RunConfig → List Step → List SpanData
unfolding history_after
ended_without scarce run done = ended_by run.setup (history_after run scarce [] [] done)

-- ---- answers

abbrev pub started : ℕ → Answer
started word = Answer.started (ids word)

abbrev pub queued : ℕ → Answer
queued ticket = Answer.ended (runs.queued ticket)

abbrev pub full : ℕ → Answer
full ticket = Answer.ended (runs.Ended.dropped ticket Reason.queue_full)

abbrev pub late : Answer
late = Answer.ended runs.late

abbrev pub not_sampled : Answer
not_sampled = Answer.ended runs.not_sampled

abbrev pub already_ended : Answer
already_ended = Answer.ended runs.already_ended

-- the batch of this number is encoded, in this many bytes, and delivered
abbrev pub delivers : ℕ → ℕ → List Answer
delivers number size =
    Answer.encoded number size ∷ sent number 1 Outcome.delivered
    ∷ Answer.replied number Next.done ∷ []

-- ---- spans

-- the span of this word under this name, with this parent and these attributes
abbrev pub ended_span : ℕ → ℕ → Option spans.Parent → String → List Attribute → SpanData
ended_span ticket word parent name attributes = record {
  resource = no_resource;
  scope = scope_s;
  span = record {
    context = record {
      trace = id 1 ++ id 2;
      span = id word;
      flags = 1;
      remote = false;
      state = [];
    };
    parent = parent;
    name = codes name;
    kind = internal;
    start = 1;
    end = 2;
    attributes = record { items = attributes; dropped = 0 };
    events = record { items = []; dropped = 0 };
    links = record { items = []; dropped = 0 };
    status = unset;
  };
  ticket = ticket;
}

-- the first span, and a child of it
abbrev pub first_span : ℕ → SpanData
first_span ticket = ended_span ticket 3 None "a" []

abbrev pub child_span : ℕ → ℕ → SpanData
child_span ticket word =
    ended_span ticket word (Some (record { id = id 3; remote = false })) "a" []

-- the name of a dropped span of this word
abbrev pub dropped_entry : Reason → ℕ → ℕ → Entry
dropped_entry reason ticket word =
    record { trace = id 1 ++ id 2; span = id word; ticket = ticket; reason = reason }

abbrev pub set : String → ℤ → Call
set key number = Call.set_attribute (record { key = codes key; value = int number })

abbrev pub pair : String → ℤ → Attribute
pair key number = record { key = codes key; value = int number }

-- ---- a whole run

abbrev pub told : Step → Answer → Answered
told step answer = record { step = step; answer = answer }

-- Six spans at a queue of two. Two are sent, one finds the queue full, one is in a batch that is
-- out, one waits, and one is late.
abbrev pub worked : List Answered
worked =
    told first (started 3) ∷ told child (started 4) ∷ told child (started 5)
    ∷ told child (started 6) ∷ told child (started 7) ∷ told child (started 8)
    ∷ told (ends 0) (queued 0) ∷ told (ends 1) (queued 1) ∷ told (ends 2) (full 2)
    ∷ told (Step.take 0) (Answer.taken 1 2) ∷ told Step.encode (Answer.encoded 1 141)
    ∷ told (Step.attempt 0) (sent 1 1 Outcome.delivered)
    ∷ told (Step.reply 0 0) (Answer.replied 1 Next.done)
    ∷ told (ends 3) (queued 3) ∷ told Step.flush Answer.flush
    ∷ told (Step.take 7) (Answer.taken 2 1) ∷ told (ends 4) (queued 4)
    ∷ told Step.shutdown Answer.shutdown ∷ told (ends 5) late ∷ []

abbrev pub worked_steps : List Step
worked_steps = map (λ x. x.step) worked

-- what it makes of its spans
unfoldable pub worked_spans : List SpanData
unfolding ended_by start_results_after started_span ids_of ids_words first_valid span chars encode
worked_spans = ended_by (queue_of 2).setup worked

-- what it does at the queue
unfoldable pub worked_events : List DeskEvent
unfolding desk_events worked_spans
worked_events = desk_events (queue_of 2).setup worked

-- what the queue then shows
unfoldable pub worked_desk : Desk
unfolding desk_after desk_of worked_events
worked_desk = desk_after (queue_of 2) worked

unfoldable pub worked_out : Option PendingBatch
unfolding worked_events progress last_attempt
worked_out = pending_after (queue_of 2).setup worked

-- the tickets in all places
unfoldable pub worked_places : List ℕ
unfolding worked_events
worked_places = places worked_events

-- the spans of the batch with this number
unfoldable pub worked_batch : ℕ → List SpanData
unfolding worked_events
worked_batch number = batch_spans worked_events number

-- how far the batch has come after the first n steps
unfoldable pub progress_after : ℕ → Progress
unfolding progress
progress_after n = progress (take n worked)

-- an attempt of this batch that got no reply
abbrev pub tried : ℕ → ℕ → Attempt
tried number attempt = record { number = number; attempt = attempt; outcome = no_reply }

-- ---- wrong reports of it

-- its step at this place has another answer
abbrev pub with_answer : ℕ → Answer → List Answered
with_answer place answer =
    take place worked
    ++ map (λ (x : Answered). record x { answer = answer }) (take 1 (drop place worked))
    ++ drop (place + 1) worked

-- at the places 8, 13 and 18 the spans with these tickets end, and the last one is late
abbrev pub end_of_2 : ℕ
end_of_2 = 8

abbrev pub end_of_3 : ℕ
end_of_3 = 13

abbrev pub end_of_late : ℕ
end_of_late = 18

-- at these places are the second take, and the first encoding and attempt
abbrev pub second_take : ℕ
second_take = 15

abbrev pub first_encode : ℕ
first_encode = 10

abbrev pub first_attempt : ℕ
first_attempt = 11
