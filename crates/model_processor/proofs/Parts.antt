-- What one more step of a pass does to each part of what the lock keeps.
use Rattle.std.proofs.Common.{◌≡◌, ℕ, ◌+◌, ◌-◌, ◌<◌, ◌≤◌, List, [], ◌∷◌, ◌++◌, length, drop, sym}
use Rattle.std.proofs.Common.{refl, ap, ◌∙◌, subst, arith}
use Rattle.std.specs.Prelude.{IsPermutation, filter_map}
use Rattle.std.specs.List.{AllByRecursion}
use Rattle.std.proofs.lemmas.List.{append-nil, map-append, length-append, drop-append-le, drop_at}
use Rattle.std.proofs.lemmas.List.{drop-drop}
use Rattle.std.proofs.lemmas.List.Elements.{filter_map-append}
use Rattle.account_book.specs.Accounts.{Replaces}
use Rattle.account_book.proofs.Facts.{gathered_replaced, each_append, each_at, each_map}
use Rattle.account_book.proofs.Facts.{each_replaced}
use Rattle.model_span.specs.Spans.{SpanData}
use Rattle.model_processor.specs.Passes.{Asked, Drop, PassAccount, Rises, SpanEnd, accepted_span}
use Rattle.model_processor.specs.Passes.{accepted_spans, all_accepted, drop_in, drops}
use Rattle.model_processor.proofs.PassLists.{rises-append, same_more}
use Rattle.model_processor.proofs.PassSteps.{News}
use Rattle.model_processor.specs.WorkerClauses.{AreFrom, FoundItFull, count_between, tickets_of}
use Rattle.model_processor.specs.Kept.{KeepsFloor, KeepsFloors, Queues}
use Rattle.model_processor.proofs.Lists.{between-append, between-same, each_drop}

-- What a pass is answered new, with the spans of it that were queued.
pub record QueueNews (next next' : ℕ) (es : List SpanEnd) (ss : List SpanData) : Type 0 where
  pub news : News next next' es
  pub spans : ss ≡ filter_map accepted_span es
  pub spans_rise : Rises (tickets_of ss)
  pub spans_from : AreFrom next ss
  pub spans_upto : AllByRecursion (λ (s : SpanData). s.ticket < next') ss

ticket_below : (spans : List SpanData) (n : ℕ)
    → AllByRecursion (λ (s : SpanData). s.ticket < n) spans
    → AllByRecursion (λ t. t < n) (tickets_of spans)
ticket_below [] n all = tt
ticket_below (s ∷ spans) n all = (all.0, ticket_below spans n all.1)

ticket_from : (spans : List SpanData) (n : ℕ) → AreFrom n spans
    → AllByRecursion (λ t. n ≤ t) (tickets_of spans)
ticket_from [] n all = tt
ticket_from (s ∷ spans) n all = (all.0, ticket_from spans n all.1)

module _ (next next' : ℕ) (es : List SpanEnd) (ss : List SpanData) (n : QueueNews next next' es ss)
    (old new : List PassAccount) (a b : PassAccount) (r : Replaces old a b new)
    (ends : b.ends ≡ a.ends ++ es) where
  accepted_is : accepted_spans b ≡ accepted_spans a ++ ss
  accepted_is =
      ap (filter_map accepted_span) ends ∙ filter_map-append accepted_span a.ends es
      ∙ ap (λ (xs : List SpanData). accepted_spans a ++ xs) (sym n.spans)

  all_accepted_is : IsPermutation (all_accepted new) (all_accepted old ++ ss)
  all_accepted_is = gathered_replaced accepted_spans old a b new ss r accepted_is

  drops_is : drops b ≡ drops a ++ filter_map drop_in es
  drops_is = ap (filter_map drop_in) ends ∙ filter_map-append drop_in a.ends es

  module _ (queue : ℕ) (spans : List SpanData) (k : Queues queue next old spans) where
    more_between : (from upto : ℕ)
        → count_between from upto (all_accepted old) ≤ count_between from upto (all_accepted new)
    more_between from upto =
        let e =
        between-same from upto (all_accepted new) (all_accepted old ++ ss) all_accepted_is in
        let f = between-append from upto (all_accepted old) ss in
        omega arith

    still_full : (ds : List Drop) → AllByRecursion (FoundItFull queue (all_accepted old)) ds
        → AllByRecursion (FoundItFull queue (all_accepted new)) ds
    still_full ds all =
        each_map (FoundItFull queue (all_accepted old)) (FoundItFull queue (all_accepted new)) ds
        (λ d was. let m = more_between d.floor d.span.ticket in omega arith) all

    -- What holds of accepted spans holds with newly queued ones, if each new drop found the queue
    -- full.
    pub queues_step : AllByRecursion (FoundItFull queue spans) (filter_map drop_in es)
        → Queues queue next' new (spans ++ ss)
    queues_step found = record {
      queued = same_more (all_accepted old) (all_accepted new) ss spans all_accepted_is k.queued;
      rising =
          subst Rises (sym (map-append (λ (s : SpanData). s.ticket) spans ss))
          (rises-append (tickets_of spans) (tickets_of ss) next k.rising
          (ticket_below spans next k.below) n.spans_rise (ticket_from ss next n.spans_from));
      below =
          each_append (λ (s : SpanData). s.ticket < next') spans ss
          (each_map (λ (s : SpanData). s.ticket < next) (λ (s : SpanData). s.ticket < next') spans
          (λ s lt. let g = n.news.grows in omega arith) k.below)
          n.spans_upto;
      full =
          let was =
          each_at
          (λ (x : PassAccount). AllByRecursion (FoundItFull queue (all_accepted old)) (drops x)) old
          a b new r k.full in
          let now : AllByRecursion (FoundItFull queue (all_accepted old)) (filter_map drop_in es) =
          each_map (FoundItFull queue spans) (FoundItFull queue (all_accepted old))
          (filter_map drop_in es)
          (λ d f. let e = between-same d.floor d.span.ticket (all_accepted old) spans k.queued in
          omega arith)
          found in
          each_replaced
          (λ (x : PassAccount). AllByRecursion (FoundItFull queue (all_accepted new)) (drops x)) old
          a b new r
          (each_map
          (λ (x : PassAccount). AllByRecursion (FoundItFull queue (all_accepted old)) (drops x))
          (λ (x : PassAccount). AllByRecursion (FoundItFull queue (all_accepted new)) (drops x)) old
          (λ x all. still_full (drops x) all) k.full)
          (subst (AllByRecursion (FoundItFull queue (all_accepted new))) (sym drops_is)
          (each_append (FoundItFull queue (all_accepted new)) (drops a) (filter_map drop_in es)
          (still_full (drops a) was) (still_full (filter_map drop_in es) now)));
    }

-- ---- floors

-- A floor and what was asked for are kept where later tickets are queued.
pub floor_step : (next next' : ℕ) (waiting spans ss : List SpanData) (floor : ℕ) (asked : Asked)
    → next ≤ next' → AreFrom next ss → KeepsFloor next waiting spans floor asked
    → KeepsFloor next' (waiting ++ ss) (spans ++ ss) floor asked
floor_step next next' waiting spans ss floor asked grows from k = record {
  above =
      each_append (λ (s : SpanData). floor ≤ s.ticket) waiting ss k.above
      (each_map (λ (s : SpanData). next ≤ s.ticket) (λ (s : SpanData). floor ≤ s.ticket) ss
      (λ s le. let f = k.floor_given in omega arith) from);
  floor_given = let f = k.floor_given in omega arith;
  asked_given = let f = k.asked_given in omega arith;
  mark_given = let e = length-append spans ss in let m = k.mark_given in omega arith;
  appended = subst (AreFrom asked.ticket) (sym (drop-append-le asked.mark spans ss k.mark_given))
      (each_append (λ (s : SpanData). asked.ticket ≤ s.ticket) (drop asked.mark spans) ss k.appended
      (each_map (λ (s : SpanData). next ≤ s.ticket) (λ (s : SpanData). asked.ticket ≤ s.ticket) ss
      (λ s le. let f = k.asked_given in omega arith) from));
}

-- All floors are kept where later tickets are queued, and one pass may ask or get an answer.
pub floors_step : (next next' : ℕ) (waiting spans ss : List SpanData) (old new : List PassAccount)
    (a b : PassAccount)
    → Replaces old a b new → next ≤ next' → AreFrom next ss → KeepsFloors next waiting spans old
    → KeepsFloor next' (waiting ++ ss) (spans ++ ss) b.floor b.asked
    → KeepsFloors next' (waiting ++ ss) (spans ++ ss) new
floors_step next next' waiting spans ss old new a b r grows from k one =
    each_replaced
    (λ (x : PassAccount). KeepsFloor next' (waiting ++ ss) (spans ++ ss) x.floor x.asked) old a b
    new r
    (each_map (λ (x : PassAccount). KeepsFloor next waiting spans x.floor x.asked)
    (λ (x : PassAccount). KeepsFloor next' (waiting ++ ss) (spans ++ ss) x.floor x.asked) old
    (λ x was. floor_step next next' waiting spans ss x.floor x.asked grows from was) k)
    one

-- A floor rises to the ticket asked for, where as many spans were taken as were asked for.
pub floor_flushed : (next : ℕ) (taken waiting : List SpanData) (floor : ℕ) (asked : Asked)
    → asked.mark ≤ length taken → KeepsFloor next waiting (taken ++ waiting) floor asked
    → KeepsFloor next waiting (taken ++ waiting) asked.ticket asked
floor_flushed next taken waiting floor asked le k = record {
  above =
      let all =
      each_drop (λ (s : SpanData). asked.ticket ≤ s.ticket) (length taken - asked.mark)
      (drop asked.mark (taken ++ waiting)) k.appended in
      let sum : asked.mark + (length taken - asked.mark) ≡ length taken = omega arith in
      subst (AreFrom asked.ticket)
      (drop-drop (length taken - asked.mark) asked.mark (taken ++ waiting)
      ∙ ap (λ (n : ℕ). drop n (taken ++ waiting)) sum ∙ drop_at taken waiting (length taken) refl)
      all;
  floor_given = k.asked_given;
  asked_given = k.asked_given;
  mark_given = k.mark_given;
  appended = k.appended;
}

-- A floor is kept where its pass asks for all spans accepted so far.
pub floor_asked : (next : ℕ) (waiting spans : List SpanData) (floor mark : ℕ) (asked : Asked)
    → mark ≡ length spans → KeepsFloor next waiting spans floor asked
    → KeepsFloor next waiting spans floor (record { ticket = next; mark = mark })
floor_asked next waiting spans floor mark asked is k = record {
  above = k.above;
  floor_given = k.floor_given;
  asked_given = omega arith;
  mark_given = omega arith;
  appended =
      subst (AreFrom next)
      (sym (ap (λ (n : ℕ). drop n spans) is ∙ ap (drop (length spans)) (sym (append-nil spans))
      ∙ drop_at spans [] (length spans) refl))
      tt;
}
