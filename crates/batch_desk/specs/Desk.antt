-- What the calls of a desk answer, and what they leave of it.
use Rattle.std.specs.Prelude.{◌≡◌, ℕ, ◌+◌, ◌-◌, ◌^◌, ◌==◌, Bool, true, false, if◌then◌else◌, List}
use Rattle.std.specs.Prelude.{[], ◌∷◌, ◌++◌, length, take, drop, map, reverse, min, Option, None}
use Rattle.std.specs.Prelude.{Some, option_map, replicate}
use Rattle.model_span.specs.Spans.{SpanData, with_ticket}
use Rattle.model_span.specs.Dropped.{Entry, Reason, queue_full, entry_of}
use Rattle.model_desk.specs.Retries.{Fate}
use Rattle.model_desk.specs.Queue.{DeskEvent, queued, full, late, popped, popped_lost}
use Rattle.model_desk.specs.Desks.{DeskConfig, Desk, with_drops, with_fate, capped, is_loss}
use Rattle.model_desk.specs.Desks.{IsDesk, out_size}
use Rattle.batch_desk.specs.Batch.{BatchView, NamedView}
use Rattle.batch_desk.specs.declared.admitted.Admitted.{Admitted}
use Rattle.batch_desk.specs.declared.admitted.Admitted.TheVariants as admitted

-- the standard's numbers (Trace SDK, Batching processor)
abbrev pub default_config : DeskConfig
default_config = record { queue = 2048; batch = 512; delay_ms = 5000 }

-- ---- spans that end

-- how the next span is admitted
abbrev pub admission : Desk → Admitted
admission desk =
    if desk.closed then admitted.Late
    else if length desk.waiting == desk.config.queue then admitted.Full desk.next_ticket
    else admitted.Queued desk.next_ticket

-- whether it waits from then on
abbrev pub is_queued : Admitted → Bool
is_queued (admitted.Queued ticket) = true
is_queued _ = false

-- the event of a span, by how it was admitted
abbrev pub admission_event : Admitted → SpanData → DeskEvent
admission_event (admitted.Queued ticket) span = queued (with_ticket ticket span)
admission_event (admitted.Full ticket) span = full (with_ticket ticket span)
admission_event admitted.Late span = late

-- One more ticket is given; where the next one would be the greatest number of 64 bits, the desk
-- closes. (profile)
abbrev pub with_next_ticket : Desk → Desk
with_next_ticket desk = record desk {
  next_ticket = desk.next_ticket + 1;
  closed = desk.next_ticket + 1 == 2 ^ 64 - 1;
}

-- the desk after a span that was admitted so
abbrev pub after_admission : Admitted → SpanData → Desk → Desk
after_admission (admitted.Queued ticket) span desk = record (with_next_ticket desk) {
  waiting = desk.waiting ++ with_ticket ticket span ∷ [];
}
after_admission (admitted.Full ticket) span desk = record (with_next_ticket desk) {
  ledger = entry_of queue_full (with_ticket ticket span) ∷ desk.ledger;
  dropped = with_drops queue_full 1 desk.dropped;
}
after_admission admitted.Late span desk = record desk { late = capped (desk.late + 1) }

-- ---- batches

-- the batch that is taken next
abbrev pub next_batch : Desk → BatchView
next_batch desk = record {
  number = desk.batches + 1;
  spans = take desk.config.batch desk.waiting;
  room = desk.config.batch;
}

-- the number of the batch that is out, if one is, and whether it was handed
abbrev pub out_state : Desk → Option (ℕ × Bool)
out_state desk = option_map (λ b. (b.number, b.is_handed)) desk.out

-- this batch is out, and was handed to an exporter or not
pub record IsOut (is_handed : Bool) (desk : Desk) (batch : BatchView) : Type 0 where
  pub out : desk.out
      ≡ Some (record { number = batch.number; size = length batch.spans; is_handed = is_handed })
  pub room : batch.room ≡ desk.config.batch

-- this batch, whose spans are named, is out, and was not handed to an exporter
pub record IsNamedOut (desk : Desk) (batch : NamedView) : Type 0 where
  pub out : desk.out
      ≡ Some (record { number = batch.number; size = length batch.entries; is_handed = false })
  pub room : batch.room ≡ desk.config.batch

-- the desk after this take
abbrev pub after_take : ℕ → Desk → Desk
after_take now desk =
    let size = min desk.config.batch (length desk.waiting) in
    record desk {
      waiting = drop desk.config.batch desk.waiting;
      out = Some (record { number = desk.batches + 1; size = size; is_handed = false });
      taken = desk.taken + size;
      batches = desk.batches + 1;
      last_moment = now;
    }

-- the desk after the drop of the batch that is out, of these spans
abbrev pub after_drop : Reason → List SpanData → Desk → Desk
after_drop reason spans desk = record desk {
  out = None;
  ledger = reverse (map (entry_of reason) spans) ++ desk.ledger;
  dropped = with_drops reason (length spans) desk.dropped;
}

-- the desk after the drop of the batch that is out, whose spans have these names in queue order
abbrev pub after_names : Reason → List Entry → Desk → Desk
after_names reason entries desk = record desk {
  out = None;
  ledger = reverse entries ++ desk.ledger;
  dropped = with_drops reason (length entries) desk.dropped;
}

-- Whether the batch of this number, with this room and this count of spans, can be settled with
-- this fate: it is out and was handed, and where its spans are lost, none of them was freed.
pub record CanSettle (desk : Desk) (fate : Fate) (number room count : ℕ) : Type 0 where
  pub out : out_state desk ≡ Some (number, true)
  pub fits : room ≡ desk.config.batch
  pub whole : is_loss fate ≡ true → count ≡ out_size desk.out

-- the desk after the batch that is out is settled, of whose lost spans these are the names
abbrev pub after_loss : Fate → List Entry → Desk → Desk
after_loss fate entries desk = record desk {
  out = None;
  lost = reverse entries ++ desk.lost;
  lost_count = desk.lost_count + length entries;
  fates = with_fate fate desk.fates;
}

-- ---- names

-- each entry of both ledgers is popped
abbrev pub pops_all : Desk → List DeskEvent
pops_all desk =
    replicate (length desk.ledger) popped ++ replicate (length desk.lost) popped_lost

-- Whatever events the desk was the result of, it is now that of these with some more after them.
abbrev pub DoesAll : List DeskEvent → Desk → Desk → Type 0
DoesAll more old new =
    (made : ℕ) (events : List DeskEvent) → IsDesk made events old
    → IsDesk made (events ++ more) new
