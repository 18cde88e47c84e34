-- What each call of a desk makes of a history, by what it leaves of the desk.
use Rattle.std.proofs.Common.{◌≡◌, refl, sym, ap, ◌∙◌, subst, ℕ, ◌+◌, ◌<◌, ◌≤◌, arith, min, Bool}
use Rattle.std.proofs.Common.{true, false, not, List, [], ◌∷◌, ◌++◌, length, take, drop, Option}
use Rattle.std.proofs.Common.{Some, None}
use Rattle.std.specs.Prelude.{map, option_map, replicate, reverse, if◌then◌else◌}
use Rattle.std.proofs.lemmas.List.{append-nil, append_assoc, take_min, drop_min, length-map}
use Rattle.model_span.specs.Spans.{SpanData}
use Rattle.model_span.specs.Dropped.{Entry, Reason, queue_full, entry_of, can_drop_batch}
use Rattle.model_desk.specs.Retries.{Fate}
use Rattle.model_desk.specs.Queue.{DeskEvent, queued, full, late, flush, shutdown, handed, popped}
use Rattle.model_desk.specs.Queue.{popped_lost, lost_names}
use Rattle.model_desk.specs.Desks.{DeskConfig, Desk, OutBatch, Does, DropsSpans, IsDesk}
use Rattle.model_desk.specs.Desks.{SettlesSpans, TakesSpans, accepted_count, capped, handed_out}
use Rattle.model_desk.specs.Desks.{is_due, is_in_hand, is_with_exporter, new_desk, out_size}
use Rattle.model_desk.specs.Desks.{with_drops}
use Rattle.model_desk.proofs.Events.{new_desk_is, queued_does, full_does, late_does, flush_does}
use Rattle.model_desk.proofs.Events.{shutdown_does, taken_does, handed_does, dropped_does}
use Rattle.model_desk.proofs.Events.{settled_does, popped_does, popped_lost_does}
use Rattle.batch_desk.specs.Counts.{handed_size}
use Rattle.batch_desk.specs.Desk.{DoesAll, after_drop, after_loss, after_names, after_take}
use Rattle.batch_desk.specs.Desk.{pops_all, with_next_ticket}

-- A new desk is the one of no events.
pub new_follows : (config : DeskConfig) (made : ℕ) (new : Desk) → new ≡ new_desk config made
    → IsDesk made [] new
new_follows config made new e = subst (IsDesk made []) (sym e) (new_desk_is config made)

module _ (old new : Desk) where
  -- A desk to whose queue a span is added is that of one more queued span.
  pub queued_follows : (s : SpanData) → old.closed ≡ false → length old.waiting < old.config.queue
      → s.ticket ≡ old.next_ticket
      → new ≡ record (with_next_ticket old) { waiting = old.waiting ++ s ∷ [] }
      → Does (queued s) old new
  queued_follows s a b t e =
      subst (λ d. Does (queued s) old d) (sym e) (queued_does old s (a, b, t))

  -- A desk whose ledger names a span for a full queue is that of one more dropped span.
  pub full_follows : (s : SpanData) → old.closed ≡ false → length old.waiting ≡ old.config.queue
      → s.ticket ≡ old.next_ticket
      → new
      ≡ record (with_next_ticket old) {
        ledger = entry_of queue_full s ∷ old.ledger;
        dropped = with_drops queue_full 1 old.dropped;
      }
      → Does (full s) old new
  full_follows s a b t e = subst (λ d. Does (full s) old d) (sym e) (full_does old s (a, b, t))

  -- A closed desk that counts a late span is that of one more late span.
  pub late_follows : old.closed ≡ true → new ≡ record old { late = capped (old.late + 1) }
      → Does late old new
  late_follows a e = subst (λ d. Does late old d) (sym e) (late_does old a)

  -- A desk that asks for all accepted spans is that of one more flush.
  pub flush_follows : new ≡ record old { asked = accepted_count old } → Does flush old new
  flush_follows e = subst (λ d. Does flush old d) (sym e) (flush_does old)

  -- A desk that closes and asks for all accepted spans is that of one more shutdown.
  pub shutdown_follows : new ≡ record old { asked = accepted_count old; closed = true }
      → Does shutdown old new
  shutdown_follows e = subst (λ d. Does shutdown old d) (sym e) (shutdown_does old)

  -- A desk from which a due batch is taken is that of one more take.
  pub taken_follows : (now : ℕ) (spans : List SpanData) → is_due old now ≡ true → old.out ≡ None
      → spans ≡ take old.config.batch old.waiting → new ≡ after_take now old
      → TakesSpans now spans old new
  taken_follows now spans due out s e =
      let size = min old.config.batch (length old.waiting) in
      let same : spans ≡ take size old.waiting = s ∙ sym (take_min old.config.batch old.waiting) in
      let left : new ≡ record (after_take now old) { waiting = drop size old.waiting } =
      e
      ∙ ap (λ w. record (after_take now old) { waiting = w })
      (sym (drop_min old.config.batch old.waiting)) in
      subst (λ d. TakesSpans now spans old d) (sym left)
      (subst (λ ss.
      TakesSpans now ss old (record (after_take now old) { waiting = drop size old.waiting }))
      (sym same) (taken_does old now size (due, out, refl)))

  -- A desk that counts its batch in hand as handed is that of one more hand-over.
  pub handed_follows : is_in_hand old.out ≡ true
      → new ≡ record old { out = handed_out old.out; handed = old.handed + out_size old.out }
      → Does handed old new
  handed_follows a e = subst (λ d. Does handed old d) (sym e) (handed_does old a)

  -- A desk that drops its batch in hand is that of one more drop.
  pub dropped_follows : (reason : Reason) (spans : List SpanData) → is_in_hand old.out ≡ true
      → can_drop_batch reason ≡ true → new ≡ after_drop reason spans old
      → DropsSpans reason spans old new
  dropped_follows reason spans a r e =
      subst (λ d. DropsSpans reason spans old d) (sym e) (dropped_does old reason spans (a, r))

  -- A desk that drops its batch in hand by the spans' names is that of one more drop.
  pub named_follows : (reason : Reason) (entries : List Entry) (spans : List SpanData)
      → is_in_hand old.out ≡ true → can_drop_batch reason ≡ true
      → map (entry_of reason) spans ≡ entries → new ≡ after_names reason entries old
      → DropsSpans reason spans old new
  named_follows reason entries spans a r same e =
      let count : length entries ≡ length spans =
      sym (ap length same) ∙ length-map spans (entry_of reason) in
      dropped_follows reason spans a r
      (e
      ∙ ap (λ names. record old {
        out = None;
        ledger = reverse names ++ old.ledger;
        dropped = with_drops reason (length entries) old.dropped;
      })
      (sym same)
      ∙ ap (λ n. record old {
        out = None;
        ledger = reverse (map (entry_of reason) spans) ++ old.ledger;
        dropped = with_drops reason n old.dropped;
      })
      count)

  -- A desk that settles its handed batch by the lost spans' names is that of one more settling.
  pub settled_follows : (fate : Fate) (entries : List Entry) (spans : List SpanData)
      → is_with_exporter old.out ≡ true → lost_names fate spans ≡ entries
      → new ≡ after_loss fate entries old → SettlesSpans fate spans old new
  settled_follows fate entries spans a same e =
      subst (λ d. SettlesSpans fate spans old d)
      (sym (e ∙ ap (λ names. after_loss fate names old) (sym same))) (settled_does old fate spans a)

  -- A desk whose ledger loses its newest entry is that of one more pop.
  pub popped_follows : new ≡ record old { ledger = drop 1 old.ledger } → Does popped old new
  popped_follows e = subst (λ d. Does popped old d) (sym e) (popped_does old)

  -- A desk whose ledger of lost spans loses its newest entry is that of one more such pop.
  pub popped_lost_follows : new ≡ record old { lost = drop 1 old.lost } → Does popped_lost old new
  popped_lost_follows e = subst (λ d. Does popped_lost old d) (sym e) (popped_lost_does old)

-- ---- all entries are popped

-- an event, and then more events
does_first : (x : DeskEvent) (more : List DeskEvent) (a b d : Desk) → Does x a b → DoesAll more b d
    → DoesAll (x ∷ more) a d
does_first x more a b d first after made events is =
    subst (λ (es : List DeskEvent). IsDesk made es d) (append_assoc events (x ∷ []) more)
    (after made (events ++ x ∷ []) (first made events is))

does_none : (a : Desk) → DoesAll [] a a
does_none a made events is =
    subst (λ (es : List DeskEvent). IsDesk made es a) (sym (append-nil events)) is

does_then : (xs ys : List DeskEvent) (a b d : Desk) → DoesAll xs a b → DoesAll ys b d
    → DoesAll (xs ++ ys) a d
does_then xs ys a b d first after made events is =
    subst (λ (es : List DeskEvent). IsDesk made es d) (append_assoc events xs ys)
    (after made (events ++ xs) (first made events is))

pops_ledger : (d : Desk) (es : List Entry)
    → DoesAll (replicate (length es) popped) (record d { ledger = es }) (record d { ledger = [] })
pops_ledger d [] = does_none (record d { ledger = [] })
pops_ledger d (e ∷ es) =
    does_first popped (replicate (length es) popped) (record d { ledger = e ∷ es })
    (record d { ledger = es }) (record d { ledger = [] })
    (popped_does (record d { ledger = e ∷ es })) (pops_ledger d es)

pops_losses : (d : Desk) (es : List Entry)
    → DoesAll (replicate (length es) popped_lost) (record d { lost = es }) (record d { lost = [] })
pops_losses d [] = does_none (record d { lost = [] })
pops_losses d (e ∷ es) =
    does_first popped_lost (replicate (length es) popped_lost) (record d { lost = e ∷ es })
    (record d { lost = es }) (record d { lost = [] })
    (popped_lost_does (record d { lost = e ∷ es })) (pops_losses d es)

-- A desk whose ledgers are emptied is that of a pop of each entry.
pub drained_follows : (old new : Desk) → new ≡ record old { ledger = []; lost = [] }
    → DoesAll (pops_all old) old new
drained_follows old new e =
    subst (λ d. DoesAll (pops_all old) old d) (sym e)
    (does_then (replicate (length old.ledger) popped) (replicate (length old.lost) popped_lost) old
    (record old { ledger = [] }) (record old { ledger = []; lost = [] })
    (pops_ledger old old.ledger) (pops_losses (record old { ledger = [] }) old.lost))

-- ---- the batch that is out

-- A batch that is out with this number, and was not handed, is in hand.
pub is_in_hand-state : (o : Option OutBatch) (n : ℕ)
    → option_map {U = ℕ × Bool} (λ (b : OutBatch). (b.number, b.is_handed)) o ≡ Some (n, false)
    → is_in_hand o ≡ true
is_in_hand-state None n e = cc
is_in_hand-state (Some b) n e =
    let p : (b.number, b.is_handed) ≡ (n, false) = cc in ap (λ (q : ℕ × Bool). not q.1) p

-- A batch that is out and is handed now has the same number and size.
pub handed_out-state : (o : Option OutBatch) (n : ℕ)
    → option_map {U = ℕ × Bool} (λ (b : OutBatch). (b.number, b.is_handed)) o ≡ Some (n, false)
    → Some (record { number = n; size = out_size o; is_handed = true }) ≡ handed_out o
handed_out-state None n e = cc
handed_out-state (Some b) n e =
    let p : (n, false) ≡ (b.number, b.is_handed) = cc in
    ap (λ (q : ℕ × Bool). Some (record b { number = q.0; is_handed = true })) p

-- A batch that is out with this number, and was handed, is with the exporter.
pub is_with_exporter-state : (o : Option OutBatch) (n : ℕ)
    → option_map {U = ℕ × Bool} (λ (b : OutBatch). (b.number, b.is_handed)) o ≡ Some (n, true)
    → is_with_exporter o ≡ true
is_with_exporter-state None n e = cc
is_with_exporter-state (Some b) n e =
    let p : (b.number, b.is_handed) ≡ (n, true) = cc in ap (λ (q : ℕ × Bool). q.1) p

-- All spans of a batch that was handed are with the exporter.
handed_size-state : (o : Option OutBatch) (n : ℕ)
    → option_map {U = ℕ × Bool} (λ (b : OutBatch). (b.number, b.is_handed)) o ≡ Some (n, true)
    → handed_size o ≡ out_size o
handed_size-state None n e = cc
handed_size-state (Some b) n e =
    let p : (b.number, b.is_handed) ≡ (n, true) = cc in
    ap (λ (q : ℕ × Bool). if q.1 then b.size else 0) p

-- No more spans are lost than were handed, where all spans of a batch are lost, or none.
pub lost-fits : (o : Option OutBatch) (n count lost sent : ℕ) (loss : Bool)
    → option_map {U = ℕ × Bool} (λ (b : OutBatch). (b.number, b.is_handed)) o ≡ Some (n, true)
    → (loss ≡ true → count ≡ out_size o) → (loss ≡ false → count ≡ 0)
    → lost + handed_size o ≤ sent → lost + count ≤ sent
lost-fits o n count lost sent true e all none k =
    omega (arith, handed_size-state o n e, all refl, k)
lost-fits o n count lost sent false e all none k = omega (arith, none refl, k)
