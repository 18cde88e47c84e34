-- What the lock of a simple processor guards, and what a step makes of it. (Trace SDK, Simple
-- processor; tickets, the ledger and counts: profile)
use Rattle.std.specs.Prelude.{◌≡◌, ℕ, ◌+◌, ◌-◌, ◌^◌, ◌<◌, ◌≤◌, ◌==◌, Bool, true, false, List, []}
use Rattle.std.specs.Prelude.{◌∷◌, ◌++◌, length, Option, Some, None}
use Rattle.model_span.specs.Spans.{SpanData, with_ticket}
use Rattle.model_span.specs.Dropped.{Reason, encode_memory, too_large, Entry, entry_of}
use Rattle.model_export.specs.Export.{LacksBody}
use Rattle.model_desk.specs.Retries.{Fate, fate_of, next_of}
use Rattle.model_desk.specs.Queue.{lost_names}
use Rattle.model_desk.specs.Desks.{DropCounts, FateCounts, capped, no_drops, no_fates, with_fate}
use Rattle.otlp_span.specs.Dropped.{reason_view}
use Rattle.trace_api.specs.declared.pass.Ended.{Ended}
use Rattle.trace_api.specs.declared.pass.Ended.TheVariants as answers
use Rattle.batch_desk.specs.Counts.{fate_count}
use Rattle.drop_ledger.specs.Counts.{drop_counts_view}
use Rattle.drop_ledger.specs.declared.counts.DropCounts as drops
use Rattle.batch_desk.specs.Views.{fate_counts_view}
use Rattle.batch_desk.specs.declared.totals.Totals.{Totals}
use Rattle.span_exporter.specs.Handed.{Handed, Gains}
use Rattle.simple_processor.specs.Bodies.{Fits, attempt_in, attempt_of_span}

-- How many bytes a body may have; the ledgers of dropped and of lost spans, the newest entry first;
-- how many spans were handed to the exporter, how many of these were lost, how many were dropped
-- for want of memory or as too large, and how many were late; whether none is admitted any more;
-- and how the attempts ended.
pub record State : Type 0 where
  pub max_body : ℕ
  pub ledger : List Entry
  pub lost : List Entry
  pub handed : ℕ
  pub lost_count : ℕ
  pub encode_memory : ℕ
  pub too_large : ℕ
  pub late : ℕ
  pub closed : Bool
  pub fates : FateCounts

-- the same with the exporter
pub record ExportWith (E : Type 0) : Type 0 where
  pub exporter : E
  pub state : State

abbrev pub new_state : ℕ → State
new_state max_body = record {
  max_body = max_body;
  ledger = [];
  lost = [];
  handed = 0;
  lost_count = 0;
  encode_memory = 0;
  too_large = 0;
  late = 0;
  closed = false;
  fates = no_fates;
}

-- the dropped ones by their reasons, and all of them
abbrev pub drops_in : State → DropCounts
drops_in s = record no_drops { encode_memory = s.encode_memory; too_large = s.too_large }

abbrev pub drop_count : State → ℕ
drop_count s = s.encode_memory + s.too_large

-- None was dropped but those that have no body.
pub record IsOfEncodings (counts : drops.DropCounts) : Type 0 where
  pub queue_full : counts.queue_full ≡ 0
  pub abandoned : counts.abandoned ≡ 0

-- how many tickets were given, which is the next one
abbrev pub ticket_count : State → ℕ
ticket_count s = s.handed + drop_count s

-- After this ticket the next would be the greatest number of 64 bits, and none is given.
abbrev pub is_last_ticket : ℕ → Bool
is_last_ticket ticket = ticket + 1 == 2 ^ 64 - 1

-- how the counts agree with each other
pub record AreCounts (s : State) : Type 0 where
  pub tickets : ticket_count s < 2 ^ 64
  pub admits : s.closed ≡ false → ticket_count s < 2 ^ 64 - 1
  pub ledger : length s.ledger ≤ drop_count s
  pub lost : length s.lost ≤ s.lost_count
  pub lost_handed : s.lost_count ≤ s.handed
  pub fates : fate_count s.fates ≡ s.handed

-- with one more that was dropped for this reason
abbrev pub with_drop : Reason → State → State
with_drop encode_memory s = record s { encode_memory = s.encode_memory + 1 }
with_drop too_large s = record s { too_large = s.too_large + 1 }
with_drop _ s = s

-- with counts of the dropped ones
abbrev pub with_counts : drops.DropCounts → State → State
with_counts counts s =
    record s { encode_memory = counts.encode_memory; too_large = counts.too_large }

-- One more is counted for this reason.
pub record CountsOne (reason : Reason) (old new : drops.DropCounts) : Type 0 where
  pub sum : new.encode_memory + new.too_large ≡ old.encode_memory + old.too_large + 1
  pub others : IsOfEncodings old → IsOfEncodings new
  pub state : (s : State) → with_counts new s ≡ with_drop reason (with_counts old s)

-- An exporter that shows its attempts has one more, the one of this span, whose outcome ends its
-- body with this fate.
pub record IsSent (max_body : ℕ) (told told' : Option (List Handed)) (span : SpanData)
    (fate : Fate) : Type 0 where
  pub body : Handed
  pub fits : Fits max_body body
  pub gains : Gains (body ∷ []) told told'
  pub means : attempt_in body ≡ attempt_of_span span
  pub ended : fate_of (next_of body.outcome) ≡ Some fate

-- The span was handed to the exporter under the next ticket. It is named as lost where the fate of
-- its body says that.
pub record IsHanded (told told' : Option (List Handed)) (s : State) (span : SpanData) (ticket : ℕ)
    (s' : State) : Type 0 where
  pub admits : s.closed ≡ false
  pub is_next : ticket ≡ ticket_count s
  pub fate : Fate
  pub sent : IsSent s.max_body told told' (with_ticket ticket span) fate
  pub state : s' ≡ record s {
    lost = lost_names fate (with_ticket ticket span ∷ []) ++ s.lost;
    handed = s.handed + 1;
    lost_count = s.lost_count + length (lost_names fate (with_ticket ticket span ∷ []));
    closed = is_last_ticket ticket;
    fates = with_fate fate s.fates;
  }

-- The span was dropped under the next ticket: it has no body, for this reason.
pub record IsDropped (told told' : Option (List Handed)) (s : State) (span : SpanData)
    (reason : Reason) (ticket : ℕ) (s' : State) : Type 0 where
  pub admits : s.closed ≡ false
  pub is_next : ticket ≡ ticket_count s
  pub lacks : LacksBody s.max_body (with_ticket ticket span ∷ []) reason
  pub nothing_is_sent : told' ≡ told
  pub state : s' ≡ record (with_drop reason s) {
    ledger = entry_of reason (with_ticket ticket span) ∷ s.ledger;
    closed = is_last_ticket ticket;
  }

-- The span was late, and is only counted.
pub record IsLate (told told' : Option (List Handed)) (s s' : State) : Type 0 where
  pub closed : s.closed ≡ true
  pub nothing_is_sent : told' ≡ told
  pub state : s' ≡ record s { late = capped (s.late + 1) }

-- What an answer to the end of a span says. (Trace SDK, OnEnd)
abbrev pub Answers : Option (List Handed) → Option (List Handed) → State → SpanData → Ended
    → State → Type 0
Answers told told' s span (answers.Handed ticket) s' = IsHanded told told' s span ticket s'
Answers told told' s span (answers.Dropped ticket reason) s' =
    IsDropped told told' s span (reason_view reason) ticket s'
Answers told told' s span answers.Late s' = IsLate told told' s s'
Answers told told' s span _ s' = ⊥

-- What a pop gives: the newest entry, if there is one.
abbrev pub Pops : State → Option Entry → State → Type 0
Pops s (Some entry) s' =
    (s.ledger ≡ entry ∷ s'.ledger) × (s' ≡ record s { ledger = s'.ledger })
Pops s None s' = s' ≡ s

-- The same of the ledger of lost spans.
abbrev pub PopsLost : State → Option Entry → State → Type 0
PopsLost s (Some entry) s' =
    (s.lost ≡ entry ∷ s'.lost) × (s' ≡ record s { lost = s'.lost })
PopsLost s None s' = s' ≡ s

-- The totals count what lies here: a handed span as accepted, taken and handed, a dropped one under
-- its reason alone.
pub record AreTotals (t : Totals) (s : State) : Type 0 where
  pub accepted : t.accepted ≡ s.handed
  pub taken : t.taken ≡ s.handed
  pub handed : t.handed ≡ s.handed
  pub lost : t.lost ≡ s.lost_count
  pub left : t.left ≡ 0
  pub late : t.late ≡ s.late
  pub dropped : drop_counts_view t.dropped ≡ drops_in s
  pub fates : fate_counts_view t.fates ≡ s.fates
  pub closed : t.closed ≡ s.closed
