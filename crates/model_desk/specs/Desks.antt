-- What a batch processor's queue and its ledger show, and what may be done at them. (Trace SDK,
-- Batching processor; batches and ledger: profile)
use Rattle.std.specs.Prelude.{◌≡◌, ℕ, pos, ◌+◌, ◌-◌, ◌*◌, ◌^◌, ◌<◌, min, nat_lt, nat_le, Bool, true}
use Rattle.std.specs.Prelude.{false, not, ◌&&◌, ◌||◌, if◌then◌else◌, List, [], ◌∷◌, ◌++◌, length}
use Rattle.std.specs.Prelude.{reverse, count_by, Option, Some, None, is_some}
use Rattle.model_span.specs.Spans.{SpanData}
use Rattle.model_span.specs.Dropped.{Reason, Entry, can_drop_batch, count_of_reason}
use Rattle.model_desk.specs.Retries.{Fate}
use Rattle.model_desk.specs.Queue.{DeskEvent, queued, full, late, flush, shutdown, taken, handed}
use Rattle.model_desk.specs.Queue.{dropped, settled, popped, popped_lost, tickets, taken_count}
use Rattle.model_desk.specs.Queue.{waiting_spans, last_batch, last_spans, last_size, Stage, not_out}
use Rattle.model_desk.specs.Queue.{in_hand, with_exporter, stage, last_moment, handed_spans, fates}
use Rattle.model_desk.specs.Queue.{drops, ledger_entries, lost_names, loss_reason, losses}
use Rattle.model_desk.specs.Queue.{lost_entries, late_count, asked_count, is_closed}

-- How many spans may wait, how many a batch may have, and the delay in milliseconds. (Trace SDK,
-- Batching processor: maxQueueSize, maxExportBatchSize, scheduledDelayMillis)
pub record DeskConfig : Type 0 where
  pub queue : ℕ
  pub batch : ℕ
  pub delay_ms : ℕ

-- A batch that is out: its number, how many spans it has, and whether it was handed to the
-- exporter. (profile)
pub record OutBatch : Type 0 where
  pub number : ℕ
  pub size : ℕ
  pub is_handed : Bool

-- how many spans were dropped for each reason (profile)
pub record DropCounts : Type 0 where
  pub queue_full : ℕ
  pub encode_memory : ℕ
  pub too_large : ℕ
  pub abandoned : ℕ

-- how many batches had each kind of fate (profile)
pub record FateCounts : Type 0 where
  pub delivered : ℕ
  pub partial : ℕ
  pub refused : ℕ
  pub bad_reply : ℕ
  pub given_up : ℕ
  pub abandoned : ℕ

-- what is kept of a queue and of what was done at it
pub record Desk : Type 0 where
  pub config : DeskConfig
  -- the spans that wait, in order
  pub waiting : List SpanData
  -- the batch that is out, if one is
  pub out : Option OutBatch
  -- the dropped spans that weren't popped, the newest first
  pub ledger : List Entry
  -- the lost spans that weren't popped, the newest first
  pub lost : List Entry
  -- the ticket of the next span: as many were given
  pub next_ticket : ℕ
  -- how many spans were taken, and in how many batches
  pub taken : ℕ
  pub batches : ℕ
  -- how many spans had been accepted at the last flush or shutdown
  pub asked : ℕ
  -- whether no span is admitted any more
  pub closed : Bool
  -- the moment, in nanoseconds since 1970, of the last take, or that at which the desk was made
  pub last_moment : ℕ
  -- how many spans were handed to the exporter
  pub handed : ℕ
  -- how many of them were lost, popped ones included
  pub lost_count : ℕ
  -- how many spans ended where none was admitted; this count stops at the greatest number of 64
  -- bits
  pub late : ℕ
  pub dropped : DropCounts
  pub fates : FateCounts

-- ---- counts

-- nothing was dropped
abbrev pub no_drops : DropCounts
no_drops = record { queue_full = 0; encode_memory = 0; too_large = 0; abandoned = 0 }

-- no batch has a fate
abbrev pub no_fates : FateCounts
no_fates = record {
  delivered = 0;
  partial = 0;
  refused = 0;
  bad_reply = 0;
  given_up = 0;
  abandoned = 0;
}

abbrev pub drop_counts : List Entry → DropCounts
drop_counts entries = record {
  queue_full = count_of_reason Reason.queue_full entries;
  encode_memory = count_of_reason Reason.encode_memory entries;
  too_large = count_of_reason Reason.too_large entries;
  abandoned = count_of_reason Reason.abandoned entries;
}

-- the counts with this many more spans of a reason; spans that are lost are counted elsewhere
abbrev pub with_drops : Reason → ℕ → DropCounts → DropCounts
with_drops Reason.queue_full n counts = record counts { queue_full = counts.queue_full + n }
with_drops Reason.encode_memory n counts =
    record counts { encode_memory = counts.encode_memory + n }
with_drops Reason.too_large n counts = record counts { too_large = counts.too_large + n }
with_drops Reason.abandoned n counts = record counts { abandoned = counts.abandoned + n }
with_drops (Reason.refused status) n counts = counts
with_drops Reason.bad_reply n counts = counts
with_drops Reason.given_up n counts = counts
with_drops Reason.left_handed n counts = counts

-- how many spans of batches were dropped
abbrev pub worker_drops : DropCounts → ℕ
worker_drops counts = counts.encode_memory + counts.too_large + counts.abandoned

-- whether two fates are of one kind
abbrev pub is_fate : Fate → Fate → Bool
is_fate Fate.delivered Fate.delivered = true
is_fate (Fate.partial m) (Fate.partial n) = true
is_fate (Fate.refused m) (Fate.refused n) = true
is_fate Fate.bad_reply Fate.bad_reply = true
is_fate Fate.given_up Fate.given_up = true
is_fate Fate.abandoned Fate.abandoned = true
is_fate _ _ = false

abbrev pub fate_counts : List Fate → FateCounts
fate_counts all = record {
  delivered = count_by (is_fate Fate.delivered) all;
  partial = count_by (is_fate (Fate.partial (pos 0))) all;
  refused = count_by (is_fate (Fate.refused 0)) all;
  bad_reply = count_by (is_fate Fate.bad_reply) all;
  given_up = count_by (is_fate Fate.given_up) all;
  abandoned = count_by (is_fate Fate.abandoned) all;
}

-- the counts with one more batch of this fate's kind
abbrev pub with_fate : Fate → FateCounts → FateCounts
with_fate Fate.delivered counts = record counts { delivered = counts.delivered + 1 }
with_fate (Fate.partial rejected) counts = record counts { partial = counts.partial + 1 }
with_fate (Fate.refused status) counts = record counts { refused = counts.refused + 1 }
with_fate Fate.bad_reply counts = record counts { bad_reply = counts.bad_reply + 1 }
with_fate Fate.given_up counts = record counts { given_up = counts.given_up + 1 }
with_fate Fate.abandoned counts = record counts { abandoned = counts.abandoned + 1 }

-- a count that stops at the greatest number of 64 bits (profile)
abbrev pub capped : ℕ → ℕ
capped n = min n (2 ^ 64 - 1)

-- ---- what it shows

abbrev pub out_as : Stage → ℕ → ℕ → Option OutBatch
out_as not_out number size = None
out_as in_hand number size =
    Some (record { number = number; size = size; is_handed = false })
out_as with_exporter number size =
    Some (record { number = number; size = size; is_handed = true })

-- What a desk of this configuration, made at a moment, shows after some events. (Trace SDK,
-- Batching processor; profile)
unfoldable pub desk_of : DeskConfig → ℕ → List DeskEvent → Desk
desk_of config made events = record {
  config = config;
  waiting = waiting_spans events;
  out = out_as (stage events) (last_batch events) (last_size events);
  ledger = ledger_entries events;
  lost = lost_entries events;
  next_ticket = length (tickets events);
  taken = taken_count events;
  batches = last_batch events;
  asked = asked_count events;
  closed = is_closed events;
  last_moment = last_moment made events;
  handed = length (handed_spans events);
  lost_count = length (losses events);
  late = capped (late_count events);
  dropped = drop_counts (drops events);
  fates = fate_counts (fates events);
}

-- a desk at which nothing was done yet
abbrev pub new_desk : DeskConfig → ℕ → Desk
new_desk config made = record {
  config = config;
  waiting = [];
  out = None;
  ledger = [];
  lost = [];
  next_ticket = 0;
  taken = 0;
  batches = 0;
  asked = 0;
  closed = false;
  last_moment = made;
  handed = 0;
  lost_count = 0;
  late = 0;
  dropped = no_drops;
  fates = no_fates;
}

-- ---- due and flushed

-- Spans wait, and: there are enough for a batch, or a flush asked for some of them, or none is
-- admitted any more, or the delay has passed since the last take. Moments are in nanoseconds since
-- 1970. (Trace SDK, Batching processor, ForceFlush, Shutdown)
abbrev pub is_due : Desk → ℕ → Bool
is_due desk now =
    nat_lt 0 (length desk.waiting)
    && (nat_le desk.config.batch (length desk.waiting) || nat_lt desk.taken desk.asked
    || desk.closed || nat_le (desk.last_moment + desk.config.delay_ms * 10 ^ 6) now)

-- Where `count` spans were taken: whether the batch that is out, if one is, has one of the first
-- `mark` accepted spans. It has the spans that were taken last.
abbrev pub is_out_before : ℕ → Option OutBatch → ℕ → Bool
is_out_before count None mark = false
is_out_before count (Some batch) mark = nat_lt (count - batch.size) mark

-- The first `mark` accepted spans were taken, and no batch with one of them is out. (Trace SDK,
-- ForceFlush)
abbrev pub is_flushed : Desk → ℕ → Bool
is_flushed desk mark = nat_le mark desk.taken && not (is_out_before desk.taken desk.out mark)

-- how many spans were accepted
abbrev pub accepted_count : Desk → ℕ
accepted_count desk = desk.taken + length desk.waiting

-- ---- the batch that is out

abbrev pub out_size : Option OutBatch → ℕ
out_size None = 0
out_size (Some batch) = batch.size

-- how many spans of it are not handed to the exporter
abbrev pub in_hand_size : Option OutBatch → ℕ
in_hand_size None = 0
in_hand_size (Some batch) = if batch.is_handed then 0 else batch.size

-- the same batch, handed to the exporter
abbrev pub handed_out : Option OutBatch → Option OutBatch
handed_out None = None
handed_out (Some batch) = Some (record batch { is_handed = true })

-- Whether the spans of a batch with this fate are lost.
abbrev pub is_loss : Fate → Bool
is_loss fate = is_some (loss_reason fate)

-- the desk after the batch that is out is settled, whose spans these are; where none is lost it
-- makes no difference which they are
abbrev pub after_settled : Fate → List SpanData → Desk → Desk
after_settled fate spans desk = record desk {
  out = None;
  lost = reverse (lost_names fate spans) ++ desk.lost;
  lost_count = desk.lost_count + length (lost_names fate spans);
  fates = with_fate fate desk.fates;
}

-- ---- what may be done

-- a batch is out, and not handed to the exporter
abbrev pub is_in_hand : Option OutBatch → Bool
is_in_hand None = false
is_in_hand (Some batch) = not batch.is_handed

-- a batch is out, and handed
abbrev pub is_with_exporter : Option OutBatch → Bool
is_with_exporter None = false
is_with_exporter (Some batch) = batch.is_handed

-- What may be done at a desk, and what is answered. (Trace SDK, Batching processor; tickets and
-- batches: profile)
abbrev pub Allowed : Desk → DeskEvent → Type 0
Allowed desk (queued span) =
    (desk.closed ≡ false) × (length desk.waiting < desk.config.queue)
    × (span.ticket ≡ desk.next_ticket)
Allowed desk (full span) =
    (desk.closed ≡ false) × (length desk.waiting ≡ desk.config.queue)
    × (span.ticket ≡ desk.next_ticket)
Allowed desk late = desk.closed ≡ true
Allowed desk flush = Unit {0}
Allowed desk shutdown = Unit {0}
Allowed desk (taken now size) =
    (is_due desk now ≡ true) × (desk.out ≡ None)
    × (size ≡ min desk.config.batch (length desk.waiting))
Allowed desk handed = is_in_hand desk.out ≡ true
Allowed desk (dropped reason) =
    (is_in_hand desk.out ≡ true) × (can_drop_batch reason ≡ true)
Allowed desk (settled fate) = is_with_exporter desk.out ≡ true
Allowed desk popped = Unit {0}
Allowed desk popped_lost = Unit {0}

abbrev pub AreAllowedAfter : DeskConfig → ℕ → List DeskEvent → List DeskEvent → Type 0
AreAllowedAfter config made before [] = Unit {0}
AreAllowedAfter config made before (x ∷ events) =
    Allowed (desk_of config made before) x × AreAllowedAfter config made (before ++ x ∷ []) events

-- each event is allowed after those before it
unfoldable pub AreAllowed : DeskConfig → ℕ → List DeskEvent → Type 0
AreAllowed config made events = AreAllowedAfter config made [] events

-- ---- one more event

-- The desk, made at this moment, shows what these events made of it, and each was allowed.
pub record IsDesk (made : ℕ) (events : List DeskEvent) (desk : Desk) : Type 0 where
  pub allowed : AreAllowed desk.config made events
  pub is : desk ≡ desk_of desk.config made events

-- Whatever events the desk was the result of, it is now that of these with this one after them.
abbrev pub Does : DeskEvent → Desk → Desk → Type 0
Does event old new =
    (made : ℕ) (events : List DeskEvent) → IsDesk made events old
    → IsDesk made (events ++ event ∷ []) new

-- The same of a batch that is dropped, where these are its spans.
abbrev pub DropsSpans : Reason → List SpanData → Desk → Desk → Type 0
DropsSpans reason spans old new =
    (made : ℕ) (events : List DeskEvent) → IsDesk made events old → spans ≡ last_spans events
    → IsDesk made (events ++ dropped reason ∷ []) new

-- The same of a batch that is settled, where these are its spans if they are lost.
abbrev pub SettlesSpans : Fate → List SpanData → Desk → Desk → Type 0
SettlesSpans fate spans old new =
    (made : ℕ) (events : List DeskEvent) → IsDesk made events old
    → (is_loss fate ≡ true → spans ≡ last_spans events)
    → IsDesk made (events ++ settled fate ∷ []) new

-- The same of a batch that is taken, and these are its spans.
abbrev pub TakesSpans : ℕ → List SpanData → Desk → Desk → Type 0
TakesSpans now spans old new =
    (made : ℕ) (events : List DeskEvent) → IsDesk made events old
    → let later = events ++ taken now (length spans) ∷ [] in
    IsDesk made later new × (spans ≡ last_spans later)
