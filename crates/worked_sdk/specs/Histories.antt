-- What was done at the queues of the examples, and what is asked of it.
use Rattle.std.specs.Prelude.{ℕ, ◌+◌, List, [], ◌∷◌, ◌++◌, map, replicate, Bool, false, Option}
use Rattle.std.specs.Prelude.{None, Some}
use Rattle.model_span.specs.Spans.{internal, unset, SpanData}
use Rattle.model_span.specs.Dropped.{Reason, Entry}
use Rattle.model_desk.specs.Retries.{Fate}
use Rattle.model_desk.specs.Queue.{DeskEvent, queued, full, flush, taken, handed, settled}
use Rattle.model_desk.specs.Queue.{waiting_spans, batch_spans, ledger_entries, popped_entries}
use Rattle.model_desk.specs.Desks.{DeskConfig, OutBatch, Desk, desk_of, is_due, is_flushed}
use Rattle.model_desk.specs.Desks.{AreAllowed}

-- ---- spans

-- the identifiers of the span with this ticket: each of their bytes is one more
abbrev pub trace_of : ℕ → List ℕ
trace_of ticket = replicate 16 (ticket + 1)

abbrev pub id_of : ℕ → List ℕ
id_of ticket = replicate 8 (ticket + 1)

abbrev pub span_at : ℕ → SpanData
span_at ticket = record {
  resource = record { attributes = []; schema = [] };
  scope = record { name = []; version = []; attributes = []; schema = [] };
  span = record {
    context = record {
      trace = trace_of ticket;
      span = id_of ticket;
      flags = 1;
      remote = false;
      state = [];
    };
    parent = None;
    name = [];
    kind = internal;
    start = 1;
    end = 2;
    attributes = record { items = []; dropped = 0 };
    events = record { items = []; dropped = 0 };
    links = record { items = []; dropped = 0 };
    status = unset;
  };
  ticket = ticket;
}

-- the entry of the span with this ticket
abbrev pub named : Reason → ℕ → Entry
named reason ticket =
    record { trace = trace_of ticket; span = id_of ticket; ticket = ticket; reason = reason }

-- ---- histories

abbrev pub ends : List ℕ → List DeskEvent
ends tickets = map (λ ticket. queued (span_at ticket)) tickets

-- this one ends where the queue is full
abbrev pub ends_full : ℕ → List DeskEvent
ends_full ticket = full (span_at ticket) ∷ []

-- the batch that is out is handed and delivered
abbrev pub delivers : List DeskEvent
delivers = handed ∷ settled Fate.delivered ∷ []

-- a queue of 4 spans, batches of 2, a delay of 5000 ms
abbrev pub four : DeskConfig
four = record { queue = 4; batch = 2; delay_ms = 5000 }

-- a queue of 5 spans, else the same
abbrev pub five : DeskConfig
five = record { queue = 5; batch = 2; delay_ms = 5000 }

-- five spans end at a queue of 4
abbrev pub five_ends : List DeskEvent
five_ends = ends (0 ∷ 1 ∷ 2 ∷ 3 ∷ []) ++ ends_full 4

-- and all but the one that was dropped are sent
abbrev pub all_sent : List DeskEvent
all_sent = five_ends ++ (taken 10 2 ∷ delivers) ++ (taken 20 2 ∷ delivers)

-- three spans end at a queue of 5, a flush asks for them, and a batch is sent
abbrev pub flushed_once : List DeskEvent
flushed_once = ends (0 ∷ 1 ∷ 2 ∷ []) ++ flush ∷ taken 10 2 ∷ delivers

-- the rest is taken, and six more end while it is out
abbrev pub nine_ends : List DeskEvent
nine_ends = flushed_once ++ taken 20 1 ∷ ends (3 ∷ 4 ∷ 5 ∷ 6 ∷ 7 ∷ []) ++ ends_full 8

-- they are sent, two by two
abbrev pub nine_sent : List DeskEvent
nine_sent = nine_ends ++ delivers ++ (taken 30 2 ∷ delivers) ++ (taken 40 2 ∷ delivers)

-- two spans, in one batch, which was handed to the exporter
abbrev pub two_handed : List DeskEvent
two_handed = ends (0 ∷ 1 ∷ []) ++ taken 10 2 ∷ handed ∷ []

-- ---- what is asked

abbrev pub waiting_tickets : List DeskEvent → List ℕ
waiting_tickets events = map (λ s. s.ticket) (waiting_spans events)

abbrev pub batch_tickets : List DeskEvent → ℕ → List ℕ
batch_tickets events number = map (λ s. s.ticket) (batch_spans events number)

abbrev pub ledger_tickets : List DeskEvent → List ℕ
ledger_tickets events = map (λ e. e.ticket) (ledger_entries events)

abbrev pub popped_tickets : List DeskEvent → List ℕ
popped_tickets events = map (λ e. e.ticket) (popped_entries events)

-- of a desk made at 0
unfoldable pub is_due_after : DeskConfig → List DeskEvent → ℕ → Bool
unfolding desk_of
is_due_after config events now = is_due (desk_of config 0 events) now

unfoldable pub is_flushed_after : DeskConfig → List DeskEvent → ℕ → Bool
unfolding desk_of
is_flushed_after config events mark = is_flushed (desk_of config 0 events) mark

unfoldable pub shown : DeskConfig → List DeskEvent → Desk
unfolding desk_of
shown config events = desk_of config 0 events

unfoldable pub AllAllowed : DeskConfig → List DeskEvent → Type 0
unfolding desk_of AreAllowed
AllAllowed config events = AreAllowed config 0 events

-- the batch with this number and this many spans, in hand
abbrev pub in_hand_batch : ℕ → ℕ → Option OutBatch
in_hand_batch number size = Some (record { number = number; size = size; is_handed = false })
