-- What is proved of all that may be done at a batch processor's queue. (Trace SDK, Batching
-- processor; tickets, batches and the ledger: profile)
use Rattle.std.specs.Prelude.{◌≡◌, ℕ, ◌+◌, ◌-◌, ◌<◌, ◌≤◌, ◌==◌, nat_lt, nat_le, min, if◌then◌else◌}
use Rattle.std.specs.Prelude.{Bool, true, false, List, [], ◌∷◌, ◌++◌, length, map, take, drop}
use Rattle.std.specs.Prelude.{reverse, count_by, flat_map}
use Rattle.std.specs.List.{list_any, range_with_len, AllByRecursion}
use Rattle.model_span.specs.Spans.{SpanData}
use Rattle.model_span.specs.Dropped.{Entry, is_lost}
use Rattle.model_desk.specs.Queue.{DeskEvent, flush, taken, Stage, not_out, in_hand, with_exporter}
use Rattle.model_desk.specs.Queue.{stage, is_shutdown, tickets, accepted_spans, taken_count}
use Rattle.model_desk.specs.Queue.{waiting_spans, batch_spans, last_batch, last_spans, handed_spans}
use Rattle.model_desk.specs.Queue.{in_hand_spans, drops, ledger_entries, popped_entries, is_popped}
use Rattle.model_desk.specs.Queue.{losses, lost_entries, popped_lost_entries, is_popped_lost}
use Rattle.model_desk.specs.Desks.{DeskConfig, worker_drops, in_hand_size, accepted_count}
use Rattle.model_desk.specs.Desks.{is_flushed, desk_of, AreAllowed}

-- whatever the configuration, the moment at which the desk was made, and the events, each allowed
abbrev pub Always : (DeskConfig → ℕ → List DeskEvent → Type 0) → Type 0
Always holds =
    (config : DeskConfig) (made : ℕ) (events : List DeskEvent) → AreAllowed config made events
    → holds config made events

-- ---- tickets

-- Tickets are given from 0 on, each once and in order.
abbrev pub TicketsAreGivenInOrder : Type 0
TicketsAreGivenInOrder =
    Always (λ config made events.
    tickets events ≡ range_with_len 0 (length (tickets events)))

-- the tickets of spans that wait, that are in a batch in hand, that were handed to the exporter,
-- and that were dropped
abbrev pub places : List DeskEvent → List ℕ
places events =
    map (λ s. s.ticket) (waiting_spans events) ++ map (λ s. s.ticket) (in_hand_spans events)
    ++ map (λ s. s.ticket) (handed_spans events) ++ map (λ e. e.ticket) (drops events)

-- how often the ticket is among these
abbrev pub times : ℕ → List ℕ → ℕ
times ticket among = count_by (λ t. t == ticket) among

-- Each ticket that was given is in one of these places, once, and no other ticket is.
abbrev pub EachTicketOnce : Type 0
EachTicketOnce =
    Always (λ config made events. (ticket : ℕ)
    → times ticket (places events) ≡ (if nat_lt ticket (length (tickets events)) then 1 else 0))

-- ---- counts

-- Each span that ended before the queue was closed was accepted, or dropped since it was full.
abbrev pub TicketsAddUp : Type 0
TicketsAddUp =
    Always (λ config made events. let desk = desk_of config made events in
    desk.next_ticket ≡ length (accepted_spans events) + desk.dropped.queue_full)

-- The accepted spans were taken, or wait.
abbrev pub AcceptedAddUp : Type 0
AcceptedAddUp =
    Always (λ config made events. let desk = desk_of config made events in
    length (accepted_spans events) ≡ accepted_count desk)

-- The taken spans were handed to the exporter, or dropped from a batch, or are in hand.
abbrev pub TakenAddUp : Type 0
TakenAddUp =
    Always (λ config made events. let desk = desk_of config made events in
    desk.taken ≡ desk.handed + worker_drops desk.dropped + in_hand_size desk.out)

-- No more wait than the configuration says.
abbrev pub QueueIsBounded : Type 0
QueueIsBounded =
    Always (λ config made events. length (waiting_spans events) ≤ config.queue)

-- ---- batches

-- A batch that is taken has the first of those that wait, as many as a batch may have.
abbrev pub BatchesAreTheFirst : Type 0
BatchesAreTheFirst =
    (config : DeskConfig) (made : ℕ) (events : List DeskEvent) (now size : ℕ)
    → let later = events ++ taken now size ∷ [] in
    AreAllowed config made later
    → (last_batch later ≡ last_batch events + 1)
    × (last_spans later ≡ take (min config.batch (length (waiting_spans events)))
    (waiting_spans events))

-- A batch keeps its spans, whatever follows.
abbrev pub BatchesStay : Type 0
BatchesStay =
    (config : DeskConfig) (made : ℕ) (events more : List DeskEvent) (number : ℕ)
    → AreAllowed config made (events ++ more) → 0 < number → number ≤ last_batch events
    → batch_spans (events ++ more) number ≡ batch_spans events number

-- The batches, one after the other, have the spans that were taken.
abbrev pub BatchesAreTheTaken : Type 0
BatchesAreTheTaken =
    Always (λ config made events.
    flat_map (batch_spans events) (range_with_len 1 (last_batch events)) ≡
    take (taken_count events) (accepted_spans events))

-- The last batch has the spans that were taken last.
abbrev pub LastBatchIsTakenLast : Type 0
LastBatchIsTakenLast =
    Always (λ config made events.
    last_spans events ≡
    drop (taken_count events - length (last_spans events))
    (take (taken_count events) (accepted_spans events)))

-- ---- flush and shutdown

abbrev pub is_out : Stage → Bool
is_out not_out = false
is_out in_hand = true
is_out with_exporter = true

-- the batches that are not out any more: all, or all but the last
abbrev pub settled_batches : List DeskEvent → ℕ
settled_batches events =
    if is_out (stage events) then last_batch events - 1 else last_batch events

-- their spans
abbrev pub settled_spans : List DeskEvent → List SpanData
settled_spans events =
    flat_map (batch_spans events) (range_with_len 1 (settled_batches events))

-- The settled spans are the first that were accepted.
abbrev pub SettledAreTheFirst : Type 0
SettledAreTheFirst =
    Always (λ config made events.
    settled_spans events ≡ take (length (settled_spans events)) (accepted_spans events))

-- The first `mark` accepted spans are flushed just where they are among these.
abbrev pub FlushedAreSettled : Type 0
FlushedAreSettled =
    Always (λ config made events. (mark : ℕ)
    → is_flushed (desk_of config made events) mark ≡ nat_le mark (length (settled_spans events)))

-- After a shutdown a flush changes nothing.
abbrev pub ShutdownAsksForAll : Type 0
ShutdownAsksForAll =
    Always (λ config made events. list_any is_shutdown events ≡ true
    → desk_of config made (events ++ flush ∷ []) ≡ desk_of config made events)

-- ---- the ledgers

-- Where nothing was popped, a ledger has all that was put into it, the newest first.
abbrev pub NamesAll : (DeskEvent → Bool) → (List DeskEvent → List Entry)
    → (List DeskEvent → List Entry) → Type 0
NamesAll pops ledger all =
    (events : List DeskEvent) → list_any pops events ≡ false
    → ledger events ≡ reverse (all events)

-- The entries in a ledger and the popped ones, together, are those that were put into it, each as
-- often.
abbrev pub AddUp : (List DeskEvent → List Entry) → (List DeskEvent → List Entry)
    → (List DeskEvent → List Entry) → Type 0
AddUp ledger gone all =
    (events : List DeskEvent) (is_it : Entry → Bool)
    → count_by is_it (ledger events) + count_by is_it (gone events) ≡
    count_by is_it (all events)

-- The ledger names what was dropped.
abbrev pub LedgerNamesTheDrops : Type 0
LedgerNamesTheDrops = NamesAll is_popped ledger_entries drops

abbrev pub LedgerAndPoppedAreTheDrops : Type 0
LedgerAndPoppedAreTheDrops = AddUp ledger_entries popped_entries drops

-- The second ledger names what was lost.
abbrev pub LedgerNamesTheLosses : Type 0
LedgerNamesTheLosses = NamesAll is_popped_lost lost_entries losses

abbrev pub LedgerAndPoppedAreTheLosses : Type 0
LedgerAndPoppedAreTheLosses = AddUp lost_entries popped_lost_entries losses

-- Each lost span was handed to the exporter, and is lost once.
abbrev pub LossesWereHanded : Type 0
LossesWereHanded =
    Always (λ config made events. (ticket : ℕ)
    → times ticket (map (λ e. e.ticket) (losses events)) ≤
    times ticket (map (λ s. s.ticket) (handed_spans events)))

-- No dropped span has a reason of lost spans, and each lost span has one.
pub record AreApart (events : List DeskEvent) : Type 0 where
  pub dropped : AllByRecursion (λ (e : Entry). is_lost e.reason ≡ false) (drops events)
  pub lost : AllByRecursion (λ (e : Entry). is_lost e.reason ≡ true) (losses events)

abbrev pub ReasonsAreApart : Type 0
ReasonsAreApart = Always (λ config made events. AreApart events)
