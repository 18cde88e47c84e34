-- What a pass of a processor knows of what it was answered. (Trace SDK, Simple processor, Batching
-- processor; tickets, floors, the ledger and late spans: profile)
use Rattle.std.specs.Prelude.{ℕ, ◌+◌, ◌<◌, Bool, true, false, List, [], ◌∷◌, ◌++◌, map, filter_map}
use Rattle.std.specs.Prelude.{Option, Some, None}
use Rattle.std.specs.List.{sum_by, flat_map, AllByRecursion}
use Rattle.model_span.specs.Spans.{SpanData, with_ticket}
use Rattle.model_span.specs.Dropped.{Reason, Entry, entry_of}

-- A span was dropped, with its ticket, for this reason, on a pass that had this floor.
pub record Drop : Type 0 where
  pub span : SpanData
  pub reason : Reason
  pub floor : ℕ

-- What came of a sampled span that ended while spans were admitted: it was accepted, with its
-- ticket, which is that it was queued, or handed to the exporter at once; or it was dropped.
pub data SpanEnd : Type 0 where
  accepted : SpanData → SpanEnd
  dropped : Drop → SpanEnd

-- What a flush or a shutdown asked for: which ticket was the next one then, and how many spans had
-- been accepted.
pub record Asked : Type 0 where
  pub ticket : ℕ
  pub mark : ℕ

-- What a pass knows: what came of the spans that it took, in order; the entries that it popped from
-- the ledger, and those from the ledger of lost spans; how many of its spans were late; how often
-- it called shutdown; what it asked for last; its floor, the ticket that was the next one when it
-- asked for what was last answered as flushed, and 0 before; and whether it was ever answered that
-- the worker has left. A simple processor has no worker, and nothing is asked of it, since each
-- span is handed over at its end.
pub record PassAccount : Type 0 where
  pub ends : List SpanEnd
  pub popped : List Entry
  pub popped_lost : List Entry
  pub late : ℕ
  pub shutdowns : ℕ
  pub asked : Asked
  pub floor : ℕ
  pub told_left : Bool

-- a pass that has done nothing
abbrev pub new_account : PassAccount
new_account = record {
  ends = [];
  popped = [];
  popped_lost = [];
  late = 0;
  shutdowns = 0;
  asked = record { ticket = 0; mark = 0 };
  floor = 0;
  told_left = false;
}

-- ---- what a call adds

-- a span was accepted under this ticket, or dropped under it
abbrev pub after_accepted : ℕ → SpanData → PassAccount → PassAccount
after_accepted ticket span account =
    record account { ends = account.ends ++ accepted (with_ticket ticket span) ∷ [] }

abbrev pub after_dropped : Reason → ℕ → SpanData → PassAccount → PassAccount
after_dropped reason ticket span account = record account {
  ends = account.ends ++ dropped (record {
    span = with_ticket ticket span;
    reason = reason;
    floor = account.floor;
  }) ∷ [];
}

-- a span was late
abbrev pub after_late : PassAccount → PassAccount
after_late account = record account { late = account.late + 1 }

-- an entry of the ledger was popped
abbrev pub after_pop : Entry → PassAccount → PassAccount
after_pop entry account = record account { popped = account.popped ++ entry ∷ [] }

-- an entry of the ledger of lost spans was popped
abbrev pub after_pop_lost : Entry → PassAccount → PassAccount
after_pop_lost entry account =
    record account { popped_lost = account.popped_lost ++ entry ∷ [] }

-- the ledgers were drained of these entries: of dropped spans, and of lost ones
abbrev pub after_drain : List Entry → List Entry → PassAccount → PassAccount
after_drain drops losses account = record account {
  popped = account.popped ++ drops;
  popped_lost = account.popped_lost ++ losses;
}

-- a flush asked, where this ticket was the next one, and `mark` spans were accepted
abbrev pub after_flush : ℕ → ℕ → PassAccount → PassAccount
after_flush ticket mark account =
    record account { asked = record { ticket = ticket; mark = mark } }

-- a shutdown asked, where this ticket was the next one, and `mark` spans were accepted
abbrev pub after_shutdown : ℕ → ℕ → PassAccount → PassAccount
after_shutdown ticket mark account = record account {
  asked = record { ticket = ticket; mark = mark };
  shutdowns = account.shutdowns + 1;
}

-- what was asked for is flushed
abbrev pub after_flushed : PassAccount → PassAccount
after_flushed account = record account { floor = account.asked.ticket }

-- what was asked for is not flushed, and the worker has left
abbrev pub after_told_left : PassAccount → PassAccount
after_told_left account = record account { told_left = true }

-- ---- what one pass knows

abbrev pub accepted_span : SpanEnd → Option SpanData
accepted_span (accepted span) = Some span
accepted_span (dropped drop) = None

abbrev pub drop_in : SpanEnd → Option Drop
drop_in (accepted span) = None
drop_in (dropped drop) = Some drop

-- the entry that names the dropped span
abbrev pub entry_in : Drop → Entry
entry_in drop = entry_of drop.reason drop.span

abbrev pub dropped_entry : SpanEnd → Option Entry
dropped_entry (accepted span) = None
dropped_entry (dropped drop) = Some (entry_in drop)

abbrev pub ticket_of : SpanEnd → ℕ
ticket_of (accepted span) = span.ticket
ticket_of (dropped drop) = drop.span.ticket

-- the spans that were accepted, those that were dropped, and the tickets of both, each in the order
-- of the pass's calls
abbrev pub accepted_spans : PassAccount → List SpanData
accepted_spans account = filter_map accepted_span account.ends

abbrev pub drops : PassAccount → List Drop
drops account = filter_map drop_in account.ends

abbrev pub dropped_entries : PassAccount → List Entry
dropped_entries account = filter_map dropped_entry account.ends

abbrev pub tickets : PassAccount → List ℕ
tickets account = map ticket_of account.ends

-- each number is below all after it
abbrev pub Rises : List ℕ → Type 0
Rises [] = Unit {0}
Rises (n ∷ ns) = AllByRecursion (λ m. n < m) ns × Rises ns

-- ---- what all passes know

abbrev pub all_accepted : List PassAccount → List SpanData
all_accepted accounts = flat_map accepted_spans accounts

abbrev pub all_dropped : List PassAccount → List Entry
all_dropped accounts = flat_map dropped_entries accounts

abbrev pub all_popped : List PassAccount → List Entry
all_popped accounts = flat_map (λ (a : PassAccount). a.popped) accounts

abbrev pub all_popped_lost : List PassAccount → List Entry
all_popped_lost accounts = flat_map (λ (a : PassAccount). a.popped_lost) accounts

abbrev pub all_tickets : List PassAccount → List ℕ
all_tickets accounts = flat_map tickets accounts

abbrev pub late_count : List PassAccount → ℕ
late_count accounts = sum_by (λ (a : PassAccount). a.late) accounts

abbrev pub shutdown_count : List PassAccount → ℕ
shutdown_count accounts = sum_by (λ (a : PassAccount). a.shutdowns) accounts
