-- What was lost was handed before.
use Rattle.std.proofs.Common.{◌≡◌, refl, sym, ap, ◌∙◌, subst, ℕ, ◌+◌, ◌≤◌, arith, List, [], ◌∷◌}
use Rattle.std.proofs.Common.{◌++◌, Bool, true, false, true≢false, cond, None, Some, Option}
use Rattle.std.specs.Prelude.{◌==◌, count_by, map}
use Rattle.std.specs.List.{AllByRecursion}
use Rattle.std.proofs.lemmas.List.{map-append}
use Rattle.std.proofs.lemmas.List.Sums.{sum_by-append}
use Rattle.model_span.specs.Spans.{SpanData}
use Rattle.model_span.specs.Dropped.{Reason, Entry, entry_of, is_lost, can_drop_batch}
use Rattle.model_desk.specs.Retries.{Fate}
use Rattle.model_desk.specs.Queue.{DeskEvent, queued, full, late, flush, shutdown, taken, handed}
use Rattle.model_desk.specs.Queue.{dropped, settled, popped, popped_lost, queued_span, size_of_take}
use Rattle.model_desk.specs.Queue.{last_batch, last_spans, last_size, Stage, not_out, in_hand}
use Rattle.model_desk.specs.Queue.{with_exporter, stage_by, stage, spans_handed_by, handed_spans}
use Rattle.model_desk.specs.Queue.{loss_reason, named_as, lost_names, losses_by, losses, entries_by}
use Rattle.model_desk.specs.Queue.{drops}
use Rattle.model_desk.specs.Desks.{DeskConfig, out_as, is_with_exporter, desk_of, Allowed}
use Rattle.model_desk.proofs.Lists.{gather-more, all-append}
use Rattle.model_desk.proofs.Steps.{IsWithin, stage-kept, stage-told, last-kept, last-queued}
use Rattle.model_desk.proofs.Steps.{by-steps, within-step}
use Rattle.model_run.specs.Queues.{LossesWereHanded, AreApart, ReasonsAreApart}

-- the spans of the batch that is with the exporter
abbrev sent_as : Stage → List SpanData → List SpanData
sent_as with_exporter spans = spans
sent_as _ spans = []

is-sent : (s : Stage) (number size : ℕ) → is_with_exporter (out_as s number size) ≡ true
    → s ≡ with_exporter
is-sent not_out number size e = absurd (true≢false (sym e))
is-sent in_hand number size e = absurd (true≢false (sym e))
is-sent with_exporter number size e = refl

-- Of the tickets that pass a test, no more are lost or with the exporter than were handed.
module _ (p : ℕ → Bool) where
  abbrev of_spans : List SpanData → ℕ
  of_spans spans = count_by p (map (λ (s : SpanData). s.ticket) spans)

  abbrev of_entries : List Entry → ℕ
  of_entries es = count_by p (map (λ (e : Entry). e.ticket) es)

  abbrev sent : List DeskEvent → List SpanData
  sent h = sent_as (stage h) (last_spans h)

  abbrev Were : List DeskEvent → Type 0
  Were h = of_entries (losses h) + of_spans (sent h) ≤ of_spans (handed_spans h)

  append : (xs ys : List ℕ) → count_by p (xs ++ ys) ≡ count_by p xs + count_by p ys
  append xs ys = sum_by-append (λ (t : ℕ). cond (p t) 1 0) xs ys

  spans-append : (xs ys : List SpanData) → of_spans (xs ++ ys) ≡ of_spans xs + of_spans ys
  spans-append xs ys =
      ap (count_by p) (map-append (λ (s : SpanData). s.ticket) xs ys)
      ∙ append (map (λ (s : SpanData). s.ticket) xs) (map (λ (s : SpanData). s.ticket) ys)

  entries-append : (xs ys : List Entry) → of_entries (xs ++ ys) ≡ of_entries xs + of_entries ys
  entries-append xs ys =
      ap (count_by p) (map-append (λ (e : Entry). e.ticket) xs ys)
      ∙ append (map (λ (e : Entry). e.ticket) xs) (map (λ (e : Entry). e.ticket) ys)

  named : (reason : Reason) (spans : List SpanData)
      → of_entries (map (entry_of reason) spans) ≡ of_spans spans
  named reason spans = ap (count_by p) (go spans)
    where
      go : (ss : List SpanData)
          → map (λ (e : Entry). e.ticket) (map (entry_of reason) ss)
          ≡ map (λ (s : SpanData). s.ticket) ss
      go [] = refl
      go (s ∷ ss) = ap (λ l. s.ticket ∷ l) (go ss)

  -- A batch loses no more spans than it has.
  few : (o : Option Reason) (spans : List SpanData) → of_entries (named_as o spans) ≤ of_spans spans
  few None spans = omega arith
  few (Some reason) spans = omega (arith, named reason spans)

  -- An event after which these spans are with the exporter keeps the bound, if it loses few enough.
  moved : (h : List DeskEvent) (x : DeskEvent) (with_it : List SpanData)
      → sent (h ++ x ∷ []) ≡ with_it
      → of_entries (losses_by h x) + of_spans with_it
      ≤ of_spans (sent h) + of_spans (spans_handed_by h x)
      → Were h → Were (h ++ x ∷ [])
  moved h x with_it e sums k =
      let l : of_entries (losses (h ++ x ∷ []))
      ≡ of_entries (losses h) + of_entries (losses_by h x) =
      ap of_entries (gather-more losses_by h x) ∙ entries-append (losses h) (losses_by h x) in
      let g : of_spans (handed_spans (h ++ x ∷ []))
      ≡ of_spans (handed_spans h) + of_spans (spans_handed_by h x) =
      ap of_spans (gather-more spans_handed_by h x)
      ∙ spans-append (handed_spans h) (spans_handed_by h x) in
      omega (arith, l, g, ap of_spans e, sums, k)

  sent-kept : (h : List DeskEvent) (x : DeskEvent) → size_of_take x ≡ None → queued_span x ≡ None
      → stage_by x ≡ None → sent (h ++ x ∷ []) ≡ sent h
  sent-kept h x z q s = λ i. sent_as (stage-kept h x s i) (last-kept h x z q i)

  step : (config : DeskConfig) (made : ℕ) (h : List DeskEvent) (x : DeskEvent) → IsWithin h
      → Allowed (desk_of config made h) x → Were h → Were (h ++ x ∷ [])
  unfolding desk_of
  step config made h (queued s) v a k =
      moved h (queued s) (sent h)
      (λ i. sent_as (stage-kept h (queued s) refl i) (last-queued h s v i)) (omega arith) k
  step config made h (full s) v a k =
      moved h (full s) (sent h) (sent-kept h (full s) refl refl refl) (omega arith) k
  step config made h late v a k =
      moved h late (sent h) (sent-kept h late refl refl refl) (omega arith) k
  step config made h flush v a k =
      moved h flush (sent h) (sent-kept h flush refl refl refl) (omega arith) k
  step config made h shutdown v a k =
      moved h shutdown (sent h) (sent-kept h shutdown refl refl refl) (omega arith) k
  step config made h popped v a k =
      moved h popped (sent h) (sent-kept h popped refl refl refl) (omega arith) k
  step config made h popped_lost v a k =
      moved h popped_lost (sent h) (sent-kept h popped_lost refl refl refl) (omega arith) k
  step config made h (taken now size) v a k =
      moved h (taken now size) []
      (ap (λ s. sent_as s (last_spans (h ++ taken now size ∷ [])))
      (stage-told h (taken now size) in_hand refl))
      (omega arith) k
  step config made h (dropped r) v a k =
      moved h (dropped r) []
      (ap (λ s. sent_as s (last_spans (h ++ dropped r ∷ [])))
      (stage-told h (dropped r) not_out refl))
      (omega arith) k
  step config made h handed v a k =
      moved h handed (last_spans h)
      ((λ i. sent_as (stage-told h handed with_exporter refl i) (last-kept h handed refl refl i)))
      (omega arith) k
  step config made h (settled f) v a k =
      moved h (settled f) []
      (ap (λ s. sent_as s (last_spans (h ++ settled f ∷ [])))
      (stage-told h (settled f) not_out refl))
      (let b : of_spans (sent h) ≡ of_spans (last_spans h) =
      ap (λ s. of_spans (sent_as s (last_spans h)))
      (is-sent (stage h) (last_batch h) (last_size h) a) in
      let c : of_entries (losses_by h (settled f)) + 0 ≤ of_spans (sent h) + 0 =
      omega (arith, b, few (loss_reason f) (last_spans h)) in
      c)
      k

record Kept (p : ℕ → Bool) (h : List DeskEvent) : Type 0 where
  within : IsWithin h
  were : Were p h

-- Each lost span was handed to the exporter, and is lost once.
pub losses-handed : LossesWereHanded
losses-handed config made h w ticket =
    let p : ℕ → Bool = λ t. t == ticket in
    let k : Kept p h =
    by-steps config made (Kept p)
    (λ g x b a. record {
      within = within-step config made g x b.within a;
      were = step p config made g x b.within a b.were;
    })
    h
    (record { within = omega arith; were = omega arith }) w in
    omega (arith, k.were)

-- ---- reasons

abbrev Drops : Entry → Type 0
Drops e = is_lost e.reason ≡ false

abbrev Loses : Entry → Type 0
Loses e = is_lost e.reason ≡ true

all-named : (P : Entry → Type 0) (reason : Reason) → ((s : SpanData) → P (entry_of reason s))
    → (ss : List SpanData) → AllByRecursion P (map (entry_of reason) ss)
all-named P reason each [] = tt
all-named P reason each (s ∷ ss) = (each s, all-named P reason each ss)

drops-no-loss : (reason : Reason) → can_drop_batch reason ≡ true → is_lost reason ≡ false
drops-no-loss Reason.encode_memory e = refl
drops-no-loss Reason.too_large e = refl
drops-no-loss Reason.abandoned e = refl
drops-no-loss reason e = cc

loses : (fate : Fate) (ss : List SpanData) → AllByRecursion Loses (lost_names fate ss)
loses Fate.delivered ss = tt
loses (Fate.partial rejected) ss = tt
loses (Fate.refused status) ss = all-named Loses (Reason.refused status) (λ s. refl) ss
loses Fate.bad_reply ss = all-named Loses Reason.bad_reply (λ s. refl) ss
loses Fate.given_up ss = all-named Loses Reason.given_up (λ s. refl) ss
loses Fate.abandoned ss = all-named Loses Reason.left_handed (λ s. refl) ss

drops-by : (config : DeskConfig) (made : ℕ) (h : List DeskEvent) (x : DeskEvent)
    → Allowed (desk_of config made h) x → AllByRecursion Drops (entries_by h x)
drops-by config made h (full s) a = (refl, tt)
drops-by config made h (dropped r) a = all-named Drops r (λ s. drops-no-loss r a.1) (last_spans h)
drops-by config made h (queued s) a = tt
drops-by config made h late a = tt
drops-by config made h flush a = tt
drops-by config made h shutdown a = tt
drops-by config made h (taken now size) a = tt
drops-by config made h handed a = tt
drops-by config made h (settled f) a = tt
drops-by config made h popped a = tt
drops-by config made h popped_lost a = tt

loses-by : (h : List DeskEvent) (x : DeskEvent) → AllByRecursion Loses (losses_by h x)
loses-by h (settled f) = loses f (last_spans h)
loses-by h (queued s) = tt
loses-by h (full s) = tt
loses-by h late = tt
loses-by h flush = tt
loses-by h shutdown = tt
loses-by h (taken now size) = tt
loses-by h handed = tt
loses-by h (dropped r) = tt
loses-by h popped = tt
loses-by h popped_lost = tt

apart-step : (config : DeskConfig) (made : ℕ) (h : List DeskEvent) (x : DeskEvent) → AreApart h
    → Allowed (desk_of config made h) x → AreApart (h ++ x ∷ [])
apart-step config made h x k a = record {
  dropped =
      subst (AllByRecursion Drops) (sym (gather-more entries_by h x))
      (all-append Drops (drops h) (entries_by h x) k.dropped (drops-by config made h x a));
  lost =
      subst (AllByRecursion Loses) (sym (gather-more losses_by h x))
      (all-append Loses (losses h) (losses_by h x) k.lost (loses-by h x));
}

-- The reasons of dropped spans are never those of lost ones, and each lost span has one of those.
pub reasons-apart : ReasonsAreApart
reasons-apart config made h w =
    by-steps config made AreApart (apart-step config made) h (record { dropped = tt; lost = tt }) w
