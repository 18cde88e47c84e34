-- The steps of a pass, one by one.
use Rattle.std.proofs.Common.{◌≡◌, ℕ, ◌+◌, ◌<◌, true, false, List, [], ◌∷◌, ◌++◌, length, sym, refl}
use Rattle.std.proofs.Common.{ap, ◌∙◌, subst, arith}
use Rattle.std.specs.Prelude.{IsPermutation, Option, Some, None}
use Rattle.std.proofs.lemmas.List.{append-nil}
use Rattle.std.proofs.lemmas.List.Sorted.{IsPermutation-refl, IsPermutation-sym}
use Rattle.std.proofs.lemmas.List.Sorted.{IsPermutation-to_front}
use Rattle.model_span.specs.Spans.{SpanData, with_ticket}
use Rattle.model_span.specs.Dropped.{Reason, queue_full, encode_memory, too_large, abandoned, Entry}
use Rattle.model_span.specs.Dropped.{entry_of}
use Rattle.model_export.specs.Export.{LacksBody}
use Rattle.model_desk.specs.Retries.{fate_of, next_of}
use Rattle.model_desk.specs.Queue.{lost_as, lost_names}
use Rattle.model_desk.specs.Desks.{DropCounts, capped, drop_counts, fate_counts, with_drops}
use Rattle.model_desk.specs.Desks.{with_fate}
use Rattle.model_desk.proofs.Lists.{some-more}
use Rattle.model_desk.proofs.Events.{counts-more, fates-more}
use Rattle.otlp_span.specs.Dropped.{reason_view}
use Rattle.otlp_span.specs.declared.reason.Reason as reasons
use Rattle.otlp_span.specs.declared.reason.Reason.TheVariants as codes
use Rattle.trace_api.specs.declared.pass.Ended.{Ended}
use Rattle.trace_api.specs.declared.pass.Ended.TheVariants as answers
use Rattle.span_exporter.specs.Handed.{Handed, Gains}
use Rattle.model_processor.specs.Passes.{SpanEnd, accepted, dropped, PassAccount, after_pop}
use Rattle.model_processor.specs.Passes.{after_pop_lost}
use Rattle.model_processor.proofs.PassSteps.{News, closed_by, closes-last, no_news, none_more}
use Rattle.model_processor.proofs.PassSteps.{one_news, shut-closes}
use Rattle.simple_processor.specs.Accounts.{after_end, after_shutdown, is_simple_answer}
use Rattle.simple_processor.specs.Bodies.{Handing, fates_of, lost_by_attempt, losses_of}
use Rattle.simple_processor.specs.ExportStates.{State, Answers, IsDropped, IsHanded, IsLate, Pops}
use Rattle.simple_processor.specs.ExportStates.{PopsLost, drop_count, drops_in, is_last_ticket}
use Rattle.simple_processor.specs.ExportStates.{ticket_count, with_drop}
use Rattle.simple_processor.proofs.Agree.{Step}

-- An exporter that is unchanged has gained no attempt.
pub gains_nothing : (told told' : Option (List Handed)) → told' ≡ told → Gains [] told told'
gains_nothing None told' same = same
gains_nothing (Some had) told' same = same ∙ ap Some (sym (append-nil had))

-- a step at which no span has a ticket as its answer
module _ (told told' : Option (List Handed)) (s s' : State) (a b : PassAccount)
    (unsent : told' ≡ told) (handed_same : s'.handed ≡ s.handed)
    (drops_same : drops_in s' ≡ drops_in s) (max_same : s'.max_body ≡ s.max_body)
    (fates_same : s'.fates ≡ s.fates) (ends_same : b.ends ≡ a.ends)
    (ps ls : List Entry) (lates shuts : ℕ) (popped : b.popped ≡ a.popped ++ ps)
    (popped_lost : b.popped_lost ≡ a.popped_lost ++ ls)
    (lost : IsPermutation s.lost (s'.lost ++ ls)) (count_kept : s'.lost_count ≡ s.lost_count)
    (late : b.late ≡ a.late + lates) (shutdowns : b.shutdowns ≡ a.shutdowns + shuts)
    (names : IsPermutation s.ledger (s'.ledger ++ ps))
    (counted : (n : ℕ) → s.late ≡ capped n → s'.late ≡ capped (n + lates))
    (late_if_closed : (n : ℕ) → (0 < n → s.closed ≡ true) → 0 < n + lates → s'.closed ≡ true)
    (closed : (n : ℕ) → s.closed ≡ closed_by (ticket_count s) n
    → s'.closed ≡ closed_by (ticket_count s) (n + shuts)) where
  count_same : ticket_count s' ≡ ticket_count s
  count_same =
      let e = handed_same in
      let f : drop_count s' ≡ drop_count s =
      ap (λ (d : DropCounts). d.encode_memory + d.too_large) drops_same in
      omega arith

  -- A change at which no span has a ticket is a step of a pass.
  pub quiet : Step told told' s s' a b
  quiet = record {
    es = [];
    ps = ps;
    ls = ls;
    handings = [];
    bodies = [];
    lates = lates;
    shuts = shuts;
    ends = ends_same ∙ sym (append-nil a.ends);
    popped = popped;
    popped_lost = popped_lost;
    late = late;
    shutdowns = shutdowns;
    gains = gains_nothing told told' unsent;
    sent = refl;
    handed_spans = refl;
    as_told = record { attempts = refl; outcomes = refl };
    lost = lost;
    lost_counted = count_kept ∙ none_more s.lost_count;
    fates =
        λ had is. fates_same ∙ is
        ∙ ap (λ (hs : List Handed). fate_counts (fates_of hs)) (sym (append-nil had));
    handed = let e = handed_same in omega arith;
    news =
        subst (λ (n : ℕ). News (ticket_count s) n []) (sym count_same) (no_news (ticket_count s));
    names = names;
    dropped = λ had is. ap drop_counts (append-nil had) ∙ is ∙ sym drops_same;
    max_body = max_same;
    fits = tt;
    lacking = tt;
    counted = counted;
    late_if_closed = late_if_closed;
    closed = λ n is. closed n is ∙ ap (λ (m : ℕ). closed_by m (n + shuts)) (sym count_same);
  }

-- the ledger of lost spans stays
same_lost : (s s' : State) → s'.lost ≡ s.lost → IsPermutation s.lost (s'.lost ++ [])
same_lost s s' e =
    subst (λ (es : List Entry). IsPermutation s.lost es) (sym (append-nil s'.lost ∙ e))
    (IsPermutation-refl s.lost)

late-more : (m n : ℕ) → m ≡ capped n → capped (m + 1) ≡ capped (n + 1)
late-more m n is = omega arith

-- a ticket is given
closes-now : (s : State) (count n : ℕ) → s.closed ≡ false → s.closed ≡ closed_by count n
    → is_last_ticket count ≡ closed_by (count + 1) (n + 0)
closes-now s count n admits is =
    closes-last count n (sym admits ∙ is) ∙ ap (closed_by (count + 1)) (none_more n)

late_end : (told told' : Option (List Handed)) (s s' : State) (span : SpanData) (a : PassAccount)
    → IsLate told told' s s' → Step told told' s s' a (after_end answers.Late span a)
late_end told told' s s' span a l =
    quiet told told' s s' a (after_end answers.Late span a) l.nothing_is_sent
    (ap (λ (x : State). x.handed) l.state) (ap drops_in l.state)
    (ap (λ (x : State). x.max_body) l.state) (ap (λ (x : State). x.fates) l.state) refl
    [] [] 1 0 (sym (append-nil a.popped)) (sym (append-nil a.popped_lost))
    (same_lost s s' (ap (λ (x : State). x.lost) l.state))
    (ap (λ (x : State). x.lost_count) l.state) refl (none_more a.shutdowns)
    (subst (λ (es : List Entry). IsPermutation s.ledger es) (sym (append-nil s'.ledger) ∙ refl)
    (subst (λ (es : List Entry). IsPermutation s.ledger es)
    (sym (ap (λ (x : State). x.ledger) l.state)) (IsPermutation-refl s.ledger)))
    (λ n is. ap (λ (x : State). x.late) l.state ∙ late-more s.late n is)
    (λ n was some. ap (λ (x : State). x.closed) l.state ∙ l.closed)
    (λ n is.
    ap (λ (x : State). x.closed) l.state ∙ is ∙ ap (closed_by (ticket_count s)) (none_more n))

-- A shutdown is a step of a pass.
pub shutdown_step : (told told' : Option (List Handed)) (s s' : State) (a : PassAccount)
    → told' ≡ told → s' ≡ record s { closed = true } → Step told told' s s' a (after_shutdown a)
shutdown_step told told' s s' a unsent is =
    quiet told told' s s' a (after_shutdown a) unsent (ap (λ (x : State). x.handed) is)
    (ap drops_in is) (ap (λ (x : State). x.max_body) is) (ap (λ (x : State). x.fates) is) refl
    [] [] 0 1 (sym (append-nil a.popped)) (sym (append-nil a.popped_lost))
    (same_lost s s' (ap (λ (x : State). x.lost) is)) (ap (λ (x : State). x.lost_count) is)
    (none_more a.late) refl
    (subst (λ (es : List Entry). IsPermutation s.ledger es) (sym (append-nil s'.ledger))
    (subst (λ (es : List Entry). IsPermutation s.ledger es) (sym (ap (λ (x : State). x.ledger) is))
    (IsPermutation-refl s.ledger)))
    (λ n l. ap (λ (x : State). x.late) is ∙ l ∙ ap capped (none_more n))
    (λ n was some. ap (λ (x : State). x.closed) is)
    (λ n was. ap (λ (x : State). x.closed) is ∙ shut-closes (ticket_count s) n)

-- A pop from the ledger is a step of a pass.
pub pop_step : (told told' : Option (List Handed)) (s s' : State) (a : PassAccount) (entry : Entry)
    → told' ≡ told → Pops s (Some entry) s' → Step told told' s s' a (after_pop entry a)
pop_step told told' s s' a entry unsent p =
    quiet told told' s s' a (after_pop entry a) unsent (ap (λ (x : State). x.handed) p.1)
    (ap drops_in p.1) (ap (λ (x : State). x.max_body) p.1) (ap (λ (x : State). x.fates) p.1) refl
    (entry ∷ []) [] 0 0 refl (sym (append-nil a.popped_lost))
    (same_lost s s' (ap (λ (x : State). x.lost) p.1)) (ap (λ (x : State). x.lost_count) p.1)
    (none_more a.late) (none_more a.shutdowns)
    (subst (λ (es : List Entry). IsPermutation es (s'.ledger ++ entry ∷ [])) (sym p.0)
    (IsPermutation-sym (s'.ledger ++ entry ∷ []) (entry ∷ s'.ledger)
    (IsPermutation-to_front s'.ledger entry)))
    (λ n l. ap (λ (x : State). x.late) p.1 ∙ l ∙ ap capped (none_more n))
    (λ n was some. ap (λ (x : State). x.closed) p.1 ∙ was (omega arith))
    (λ n was.
    ap (λ (x : State). x.closed) p.1 ∙ was ∙ ap (closed_by (ticket_count s)) (none_more n))

-- A pop from the ledger of lost spans is a step of a pass.
pub pop_lost_step : (told told' : Option (List Handed)) (s s' : State) (a : PassAccount)
    (entry : Entry)
    → told' ≡ told → PopsLost s (Some entry) s' → Step told told' s s' a (after_pop_lost entry a)
pop_lost_step told told' s s' a entry unsent p =
    quiet told told' s s' a (after_pop_lost entry a) unsent (ap (λ (x : State). x.handed) p.1)
    (ap drops_in p.1) (ap (λ (x : State). x.max_body) p.1) (ap (λ (x : State). x.fates) p.1) refl
    [] (entry ∷ []) 0 0 (sym (append-nil a.popped)) refl
    (subst (λ (es : List Entry). IsPermutation es (s'.lost ++ entry ∷ [])) (sym p.0)
    (IsPermutation-sym (s'.lost ++ entry ∷ []) (entry ∷ s'.lost)
    (IsPermutation-to_front s'.lost entry)))
    (ap (λ (x : State). x.lost_count) p.1) (none_more a.late) (none_more a.shutdowns)
    (subst (λ (es : List Entry). IsPermutation s.ledger es) (sym (append-nil s'.ledger))
    (subst (λ (es : List Entry). IsPermutation s.ledger es) (sym (ap (λ (x : State). x.ledger) p.1))
    (IsPermutation-refl s.ledger)))
    (λ n l. ap (λ (x : State). x.late) p.1 ∙ l ∙ ap capped (none_more n))
    (λ n was some. ap (λ (x : State). x.closed) p.1 ∙ was (omega arith))
    (λ n was.
    ap (λ (x : State). x.closed) p.1 ∙ was ∙ ap (closed_by (ticket_count s)) (none_more n))

-- none was late while spans were admitted
none-late : (s : State) (n : ℕ) → s.closed ≡ false → (0 < n → s.closed ≡ true) → 0 < n + 0 → ⊥
none-late s n admits was some = let e = was (omega arith) in let f = admits in cc

handed_step : (told told' : Option (List Handed)) (s s' : State) (span : SpanData) (ticket : ℕ)
    (a : PassAccount)
    → IsHanded told told' s span ticket s'
    → Step told told' s s' a (after_end (answers.Handed ticket) span a)
handed_step told told' s s' span ticket a h =
    let count : ticket_count s' ≡ ticket_count s + 1 =
    let e = ap (λ (x : State). x.handed) h.state in
    let f : drop_count s' ≡ drop_count s = ap drop_count h.state in
    omega arith in
    let end : SpanEnd = accepted (with_ticket ticket span) in
    let handing : Handing =
    record { span = with_ticket ticket span; outcome = h.sent.body.outcome } in
    let names : List Entry = lost_names h.fate (with_ticket ticket span ∷ []) in
    let named : losses_of (handing ∷ []) ≡ names =
    append-nil (lost_by_attempt handing)
    ∙ ap (λ o. lost_as o (with_ticket ticket span ∷ [])) h.sent.ended in
    record {
      es = end ∷ [];
      ps = [];
      ls = [];
      handings = handing ∷ [];
      bodies = h.sent.body ∷ [];
      lates = 0;
      shuts = 0;
      ends = refl;
      popped = sym (append-nil a.popped);
      popped_lost = sym (append-nil a.popped_lost);
      late = none_more a.late;
      shutdowns = none_more a.shutdowns;
      gains = h.sent.gains;
      sent = ap (λ x. x ∷ []) (sym h.sent.means);
      handed_spans = refl;
      as_told = record {
        attempts = ap (λ x. x ∷ []) (sym h.sent.means);
        outcomes = refl;
      };
      lost =
          subst (λ (es : List Entry). IsPermutation (losses_of (handing ∷ []) ++ s.lost) es)
          (ap (λ (es : List Entry). es ++ s.lost) named
          ∙ sym (append-nil s'.lost ∙ ap (λ (x : State). x.lost) h.state))
          (IsPermutation-refl (losses_of (handing ∷ []) ++ s.lost));
      lost_counted =
          ap (λ (x : State). x.lost_count) h.state
          ∙ ap (λ (es : List Entry). s.lost_count + length es) (sym named);
      fates = λ had is.
          ap (λ (x : State). x.fates) h.state ∙ ap (with_fate h.fate) is
          ∙ sym (fates-more (fates_of had) h.fate)
          ∙ ap fate_counts
          (sym (some-more (λ (x : Handed). fate_of (next_of x.outcome)) had h.sent.body h.fate
          h.sent.ended));
      handed = ap (λ (x : State). x.handed) h.state;
      news =
          subst (λ (n : ℕ). News (ticket_count s) n (end ∷ [])) (sym count)
          (one_news (ticket_count s) end h.is_next);
      names =
          subst (λ (es : List Entry). IsPermutation s.ledger es)
          (sym (append-nil s'.ledger ∙ ap (λ (x : State). x.ledger) h.state))
          (IsPermutation-refl s.ledger);
      dropped = λ had is. ap drop_counts (append-nil had) ∙ is ∙ sym (ap drops_in h.state);
      max_body = ap (λ (x : State). x.max_body) h.state;
      fits = (h.sent.fits, tt);
      lacking = tt;
      counted = λ n l. ap (λ (x : State). x.late) h.state ∙ l ∙ ap capped (none_more n);
      late_if_closed = λ n was some. absurd (none-late s n h.admits was some);
      closed =
          λ n is. ap (λ (x : State). x.closed) h.state ∙ ap is_last_ticket h.is_next
          ∙ closes-now s (ticket_count s) n h.admits is
          ∙ ap (λ (m : ℕ). closed_by m (n + 0)) (sym count);
    }

-- what one more that is dropped changes
record Adds (reason : Reason) (s : State) : Type 0 where
  handed : (with_drop reason s).handed ≡ s.handed
  lost : (with_drop reason s).lost ≡ s.lost
  lost_count : (with_drop reason s).lost_count ≡ s.lost_count
  late : (with_drop reason s).late ≡ s.late
  fates : (with_drop reason s).fates ≡ s.fates
  max_body : (with_drop reason s).max_body ≡ s.max_body
  count : drop_count (with_drop reason s) ≡ drop_count s + 1
  counts : drops_in (with_drop reason s) ≡ with_drops reason 1 (drops_in s)

adds : (max_body : ℕ) (spans : List SpanData) (reason : Reason) (s : State)
    → LacksBody max_body spans reason → Adds reason s
adds max_body spans encode_memory s lacks = record {
  handed = refl;
  lost = refl;
  lost_count = refl;
  late = refl;
  fates = refl;
  max_body = refl;
  count = omega arith;
  counts = refl;
}
adds max_body spans too_large s lacks = record {
  handed = refl;
  lost = refl;
  lost_count = refl;
  late = refl;
  fates = refl;
  max_body = refl;
  count = omega arith;
  counts = refl;
}
adds max_body spans queue_full s lacks = absurd lacks
adds max_body spans abandoned s lacks = absurd lacks
adds max_body spans (Reason.refused status) s lacks = absurd lacks
adds max_body spans Reason.bad_reply s lacks = absurd lacks
adds max_body spans Reason.given_up s lacks = absurd lacks
adds max_body spans Reason.left_handed s lacks = absurd lacks

dropped_step : (told told' : Option (List Handed)) (s s' : State) (span : SpanData)
    (why : reasons.Reason) (ticket : ℕ) (a : PassAccount)
    → IsDropped told told' s span (reason_view why) ticket s'
    → Step told told' s s' a (after_end (answers.Dropped ticket why) span a)
dropped_step told told' s s' span why ticket a d =
    let reason : Reason = reason_view why in
    let more : Adds reason s = adds s.max_body (with_ticket ticket span ∷ []) reason s d.lacks in
    let handed_same : s'.handed ≡ s.handed = ap (λ (x : State). x.handed) d.state ∙ more.handed in
    let count : ticket_count s' ≡ ticket_count s + 1 =
    let f : drop_count s' ≡ drop_count s + 1 = ap drop_count d.state ∙ more.count in omega arith in
    let entry : Entry = entry_of reason (with_ticket ticket span) in
    let end : SpanEnd =
    dropped (record { span = with_ticket ticket span; reason = reason; floor = a.floor }) in
    record {
      es = end ∷ [];
      ps = [];
      ls = [];
      handings = [];
      bodies = [];
      lates = 0;
      shuts = 0;
      ends = refl;
      popped = sym (append-nil a.popped);
      popped_lost = sym (append-nil a.popped_lost);
      late = none_more a.late;
      shutdowns = none_more a.shutdowns;
      gains = gains_nothing told told' d.nothing_is_sent;
      sent = refl;
      handed_spans = refl;
      as_told = record { attempts = refl; outcomes = refl };
      lost = same_lost s s' (ap (λ (x : State). x.lost) d.state ∙ more.lost);
      lost_counted =
          ap (λ (x : State). x.lost_count) d.state ∙ more.lost_count ∙ none_more s.lost_count;
      fates =
          λ had is. ap (λ (x : State). x.fates) d.state ∙ more.fates ∙ is
          ∙ ap (λ (hs : List Handed). fate_counts (fates_of hs)) (sym (append-nil had));
      handed = handed_same ∙ none_more s.handed;
      news =
          subst (λ (n : ℕ). News (ticket_count s) n (end ∷ [])) (sym count)
          (one_news (ticket_count s) end d.is_next);
      names =
          subst (λ (es : List Entry). IsPermutation (entry ∷ s.ledger) es)
          (sym (append-nil s'.ledger ∙ ap (λ (x : State). x.ledger) d.state))
          (IsPermutation-refl (entry ∷ s.ledger));
      dropped =
          λ had is. counts-more reason had (with_ticket ticket span ∷ [])
          ∙ ap (with_drops reason 1) is ∙ sym (ap drops_in d.state ∙ more.counts);
      max_body = ap (λ (x : State). x.max_body) d.state ∙ more.max_body;
      fits = tt;
      lacking = (d.lacks, tt);
      counted = λ n l. ap (λ (x : State). x.late) d.state ∙ more.late ∙ l ∙ ap capped (none_more n);
      late_if_closed = λ n was some. absurd (none-late s n d.admits was some);
      closed =
          λ n is. ap (λ (x : State). x.closed) d.state ∙ ap is_last_ticket d.is_next
          ∙ closes-now s (ticket_count s) n d.admits is
          ∙ ap (λ (m : ℕ). closed_by m (n + 0)) (sym count);
    }

-- The end of a span is a step of a pass, whatever its answer is.
pub end_step : (told told' : Option (List Handed)) (s s' : State) (span : SpanData) (answer : Ended)
    (a : PassAccount)
    → Answers told told' s span answer s' → Step told told' s s' a (after_end answer span a)
end_step told told' s s' span (answers.Handed ticket) a x =
    handed_step told told' s s' span ticket a x
end_step told told' s s' span (answers.Dropped ticket why) a x =
    dropped_step told told' s s' span why ticket a x
end_step told told' s s' span answers.Late a x = late_end told told' s s' span a x
end_step told told' s s' span (answers.Queued ticket) a x = absurd x
end_step told told' s s' span answers.NotSampled a x = absurd x
end_step told told' s s' span answers.AlreadyEnded a x = absurd x

-- The answer to the end of a span is one that a simple processor gives.
pub end_answer : (told told' : Option (List Handed)) (s s' : State) (span : SpanData)
    (answer : Ended)
    → Answers told told' s span answer s' → is_simple_answer answer ≡ true
end_answer told told' s s' span (answers.Handed ticket) x = refl
end_answer told told' s s' span (answers.Dropped ticket codes.EncodeMemory) x = refl
end_answer told told' s s' span (answers.Dropped ticket codes.TooLarge) x = refl
end_answer told told' s s' span (answers.Dropped ticket codes.QueueFull) x = absurd x.lacks
end_answer told told' s s' span (answers.Dropped ticket codes.Abandoned) x = absurd x.lacks
end_answer told told' s s' span (answers.Dropped ticket (codes.Refused status)) x = absurd x.lacks
end_answer told told' s s' span (answers.Dropped ticket codes.BadReply) x = absurd x.lacks
end_answer told told' s s' span (answers.Dropped ticket codes.GivenUp) x = absurd x.lacks
end_answer told told' s s' span (answers.Dropped ticket codes.LeftHanded) x = absurd x.lacks
end_answer told told' s s' span answers.Late x = refl
end_answer told told' s s' span (answers.Queued ticket) x = absurd x
end_answer told told' s s' span answers.NotSampled x = absurd x
end_answer told told' s s' span answers.AlreadyEnded x = absurd x
