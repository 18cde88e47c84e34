-- What a hold of the lock for the worker does to what the lock keeps.
use Rattle.std.proofs.Common.{◌≡◌, ℕ, suc, ◌+◌, ◌≤◌, true, false, List, [], ◌∷◌, ◌++◌, length, take}
use Rattle.std.proofs.Common.{drop, sym, refl, ap, ◌∙◌, subst, arith}
use Rattle.std.specs.Prelude.{IsPermutation, map, reverse, filter_map, Option, Some, None}
use Rattle.std.specs.Prelude.{option_to_list}
use Rattle.std.specs.List.{AllByRecursion, flat_map, range_with_len}
use Rattle.std.proofs.lemmas.List.{append-nil, append_assoc, length-append, map-append}
use Rattle.std.proofs.lemmas.List.{take-append-drop, drop_all}
use Rattle.std.proofs.lemmas.List.Elements.{filter_map-append}
use Rattle.std.proofs.lemmas.List.Sorted.{IsPermutation-trans, IsPermutation-append_left}
use Rattle.std.proofs.lemmas.List.Sorted.{IsPermutation-append_comm, IsPermutation-reverse}
use Rattle.std.proofs.lemmas.Grind.{flat_map-append}
use Rattle.account_book.proofs.Facts.{each_map}
use Rattle.model_span.specs.Spans.{SpanData}
use Rattle.model_span.specs.Dropped.{Entry, Reason, entry_of}
use Rattle.model_desk.specs.Retries.{Outcome, Fate}
use Rattle.model_desk.specs.Queue.{lost_names}
use Rattle.model_desk.specs.Desks.{Desk, after_settled, drop_counts, fate_counts, handed_out}
use Rattle.model_desk.specs.Desks.{out_size, with_drops, with_fate}
use Rattle.model_desk.proofs.Events.{counts-more, fates-more}
use Rattle.model_processor.specs.Passes.{PassAccount, all_dropped, all_popped, all_popped_lost}
use Rattle.model_processor.specs.PassClauses.{NamesDrops, NamesLosses}
use Rattle.model_processor.proofs.PassLists.{range-more}
use Rattle.model_processor.specs.Worker.{BatchEnd, EndedBatch, OutBatch, WorkerAccount, entries_by}
use Rattle.model_processor.specs.Worker.{fate_in, fates, handed_out_spans, handed_spans}
use Rattle.model_processor.specs.Worker.{lost_entries_by, numbers, out_number, out_spans}
use Rattle.model_processor.specs.Worker.{spans_if_settled, spans_with, taken_spans, worker_entries}
use Rattle.model_processor.specs.Worker.{worker_losses}
use Rattle.model_processor.specs.Worker as batches
use Rattle.model_processor.specs.WorkerClauses.{AreFrom, all_entries}
use Rattle.model_processor.specs.AnyAccounts.{after_drained, after_drop, after_handed, after_left}
use Rattle.model_processor.specs.AnyAccounts.{after_settle, after_take, ended_with, handed_with}
use Rattle.model_processor.specs.AnyAccounts.{settled_with}
use Rattle.model_processor.specs.Kept.{Agrees, Batches, KeepsFloor, accepted, shown_out}
use Rattle.model_processor.proofs.Lists.{each_drop}

-- what the worker does not change of a desk
pub record Stays (desk desk' : Desk) : Type 0 where
  pub config : desk'.config ≡ desk.config
  pub next : desk'.next_ticket ≡ desk.next_ticket
  pub closed : desk'.closed ≡ desk.closed
  pub late : desk'.late ≡ desk.late
  pub left : ℕ
  pub waiting : desk'.waiting ≡ drop left desk.waiting

module _ (desk desk' : Desk) (u v : WorkerAccount) (passes : List PassAccount)
    (k : Agrees desk passes u) (same : Stays desk desk') (kept : accepted desk' v ≡ accepted desk u)
    (names : NamesDrops desk'.ledger desk'.dropped (all_entries passes v) (all_popped passes))
    (losses : NamesLosses desk'.lost desk'.lost_count (worker_losses v) (all_popped_lost passes))
    (batches : Batches desk' v) (leaves : u.left ≡ true → v.left ≡ true) where
  floor_stays : (a : PassAccount)
      → KeepsFloor desk.next_ticket desk.waiting (accepted desk u) a.floor a.asked
      → KeepsFloor desk'.next_ticket desk'.waiting (accepted desk u) a.floor a.asked
  floor_stays a f = record {
    above =
        subst (AreFrom a.floor) (sym same.waiting)
        (each_drop (λ (s : SpanData). a.floor ≤ s.ticket) same.left desk.waiting f.above);
    floor_given = let e = same.next in let g = f.floor_given in omega arith;
    asked_given = let e = same.next in let g = f.asked_given in omega arith;
    mark_given = f.mark_given;
    appended = f.appended;
  }

  -- The desk and the accounts agree after a step of the worker that changes each part as it may.
  pub agrees_worker : Agrees desk' passes v
  agrees_worker = record {
    queues = rw (same.config, same.next, kept) k.queues;
    tickets = rw (same.next) k.tickets;
    names = names;
    full = k.full;
    losses = losses;
    late = rw (same.late, same.next, same.closed) k.late;
    floors =
        subst (λ (ss : List SpanData). AllByRecursion
        (λ (a : PassAccount). KeepsFloor desk'.next_ticket desk'.waiting ss a.floor a.asked) passes)
        (sym kept)
        (each_map (λ (a : PassAccount).
        KeepsFloor desk.next_ticket desk.waiting (accepted desk u) a.floor a.asked)
        (λ (a : PassAccount).
        KeepsFloor desk'.next_ticket desk'.waiting (accepted desk u) a.floor a.asked)
        passes floor_stays k.floors);
    batches = batches;
    told =
        each_map (λ (a : PassAccount). a.told_left ≡ true → u.left ≡ true)
        (λ (a : PassAccount). a.told_left ≡ true → v.left ≡ true) passes
        (λ a was is. leaves (was is)) k.told;
  }

one-mapped : {X Y : Type 0} (f : X → Option Y) (x : X) (o : Option Y) → f x ≡ o
    → filter_map f (x ∷ []) ≡ option_to_list o
one-mapped f x None is = rw is refl
one-mapped f x (Some y) is = rw is refl

-- Entries that are pushed to a ledger are named by it, and the others still are.
names_on : (ds ws ms ledger popped : List Entry) → IsPermutation (ds ++ ws) (ledger ++ popped)
    → IsPermutation (ds ++ (ws ++ ms)) ((reverse ms ++ ledger) ++ popped)
names_on ds ws ms ledger popped same =
    let a : IsPermutation ((ds ++ ws) ++ ms) ((ledger ++ popped) ++ ms) =
    IsPermutation-append_left ms (ds ++ ws) (ledger ++ popped) same in
    let b = IsPermutation-append_comm (ledger ++ popped) ms in
    let d =
    IsPermutation-append_left (ledger ++ popped) ms (reverse ms) (IsPermutation-reverse ms) in
    let whole =
    IsPermutation-trans ((ds ++ ws) ++ ms) ((ledger ++ popped) ++ ms)
    (reverse ms ++ (ledger ++ popped)) a
    (IsPermutation-trans ((ledger ++ popped) ++ ms) (ms ++ (ledger ++ popped))
    (reverse ms ++ (ledger ++ popped)) b d) in
    subst (λ (l : List Entry). IsPermutation l ((reverse ms ++ ledger) ++ popped))
    (append_assoc ds ws ms)
    (subst (λ (l : List Entry). IsPermutation ((ds ++ ws) ++ ms) l)
    (sym (append_assoc (reverse ms) ledger popped)) whole)

-- ---- a batch is taken

module _ (desk : Desk) (u : WorkerAccount) (passes : List PassAccount)
    (k : Agrees desk passes u) where
  -- the spans of the batches that have ended
  abbrev settled_spans : List SpanData
  settled_spans = flat_map (λ (b : EndedBatch). b.spans) u.ended

  abbrev ended_numbers : List ℕ
  ended_numbers = map (λ (b : EndedBatch). b.number) u.ended

  -- The accounts agree after the worker takes the first waiting spans as a batch.
  pub take_agrees : (desk' : Desk) (now n : ℕ) (spans : List SpanData) → u.out ≡ None
      → spans ≡ take n desk.waiting → desk'.waiting ≡ drop n desk.waiting
      → desk'
      ≡ record desk {
        waiting = desk'.waiting;
        out = Some (record { number = desk.batches + 1; size = length spans; is_handed = false });
        taken = desk.taken + length spans;
        batches = desk.batches + 1;
        last_moment = now;
      }
      → Agrees desk' passes (after_take (desk.batches + 1) spans u)
  take_agrees desk' now n spans none first rest is =
      let v = after_take (desk.batches + 1) spans u in
      let had : taken_spans u ≡ settled_spans =
      ap (λ (o : Option OutBatch). settled_spans ++ out_spans o) none ∙ append-nil settled_spans in
      let whole : spans ++ desk'.waiting ≡ desk.waiting =
      ap (λ (l : List SpanData). l ++ desk'.waiting) first
      ∙ ap (λ (l : List SpanData). take n desk.waiting ++ l) rest
      ∙ take-append-drop n desk.waiting in
      let kept : accepted desk' v ≡ accepted desk u =
      append_assoc settled_spans spans desk'.waiting
      ∙ ap (λ (l : List SpanData). settled_spans ++ l) whole
      ∙ ap (λ (l : List SpanData). l ++ desk.waiting) (sym had) in
      agrees_worker desk desk' u v passes k
      (record {
        config = ap (λ (d : Desk). d.config) is;
        next = ap (λ (d : Desk). d.next_ticket) is;
        closed = ap (λ (d : Desk). d.closed) is;
        late = ap (λ (d : Desk). d.late) is;
        left = n;
        waiting = rest;
      })
      kept
      (rw (ap (λ (d : Desk). d.ledger) is, ap (λ (d : Desk). d.dropped) is) k.names)
      (rw (ap (λ (d : Desk). d.lost) is, ap (λ (d : Desk). d.lost_count) is) k.losses)
      (record {
        out = ap (λ (d : Desk). d.out) is;
        taken =
            ap (λ (d : Desk). d.taken) is
            ∙ ap (λ (m : ℕ). m + length spans) (k.batches.taken ∙ ap length had)
            ∙ sym (length-append settled_spans spans);
        numbered =
            let was : ended_numbers ≡ range_with_len 1 desk.batches =
            sym (append-nil ended_numbers)
            ∙ sym (ap (λ (o : Option OutBatch). ended_numbers ++ out_number o) none)
            ∙ k.batches.numbered in
            let next : 1 + desk.batches ≡ desk.batches + 1 = omega arith in
            let more : suc desk.batches ≡ desk.batches + 1 = omega arith in
            ap (λ (l : List ℕ). l ++ (desk.batches + 1) ∷ []) was
            ∙ ap (λ (n : ℕ). range_with_len 1 desk.batches ++ n ∷ []) (sym next)
            ∙ sym (range-more 1 desk.batches)
            ∙ ap (range_with_len 1) (more ∙ sym (ap (λ (d : Desk). d.batches) is));
        handed =
            ap (λ (d : Desk). d.handed) is ∙ k.batches.handed
            ∙ ap
            (λ (o : Option OutBatch). length (handed_spans u) + length (handed_out_spans o)) none;
        fates_are = ap (λ (d : Desk). d.fates) is ∙ k.batches.fates_are;
        drained = λ h.
            let was = k.batches.drained h in (
              ap (λ (d : Desk). d.closed) is ∙ was.0,
              rest ∙ ap (drop n) was.1 ∙ drop_all n [] (omega arith),
            );
      })
      (λ is. is)

  -- ---- the batch that is out

  module _ (b : OutBatch) (out : u.out ≡ Some b) where
    had : taken_spans u ≡ settled_spans ++ b.spans
    had = ap (λ (o : Option OutBatch). settled_spans ++ out_spans o) out

    -- The accounts agree after the batch that is out is handed with a body.
    pub handed_agrees : (desk' : Desk) (body : List ℕ) → b.body ≡ None
        → desk'
        ≡ record desk { out = handed_out desk.out; handed = desk.handed + out_size desk.out }
        → Agrees desk' passes (after_handed body u)
    handed_agrees desk' body fresh is =
        let v = after_handed body u in
        let same_taken : taken_spans v ≡ taken_spans u =
        ap (λ (o : Option OutBatch). settled_spans ++ out_spans (handed_with body o)) out
        ∙ sym had in
        subst (λ (d : Desk). Agrees d passes v) (sym is)
        (agrees_worker desk
        (record desk { out = handed_out desk.out; handed = desk.handed + out_size desk.out }) u v
        passes k
        (record {
          config = refl;
          next = refl;
          closed = refl;
          late = refl;
          left = 0;
          waiting = refl;
        })
        (ap (λ (l : List SpanData). l ++ desk.waiting) same_taken) k.names k.losses
        (record {
          out =
              ap handed_out (k.batches.out ∙ ap shown_out out)
              ∙ sym (ap (λ (o : Option OutBatch). shown_out (handed_with body o)) out);
          taken = k.batches.taken ∙ sym (ap length same_taken);
          numbered =
              ap (λ (o : Option OutBatch). ended_numbers ++ out_number (handed_with body o)) out
              ∙ sym (ap (λ (o : Option OutBatch). ended_numbers ++ out_number o) out)
              ∙ k.batches.numbered;
          handed =
              let size : out_size desk.out ≡ length b.spans =
              ap out_size (k.batches.out ∙ ap shown_out out) in
              let none : length (handed_out_spans u.out) ≡ 0 =
              ap (λ (o : Option OutBatch). length (handed_out_spans o)) out
              ∙ ap (λ (o : Option (List ℕ)). length (spans_with o b.spans)) fresh in
              let now : length (handed_out_spans (handed_with body u.out)) ≡ length b.spans =
              ap (λ (o : Option OutBatch). length (handed_out_spans (handed_with body o))) out in
              let was = k.batches.handed in omega arith;
          fates_are = k.batches.fates_are;
          drained = k.batches.drained;
        })
        (λ is. is))

    -- the batch ends
    module _ (v : WorkerAccount) (e : EndedBatch) (ended : v.ended ≡ u.ended ++ e ∷ [])
        (none : v.out ≡ None) (spans : e.spans ≡ b.spans) (drained : v.drained ≡ u.drained) where
      same_taken : taken_spans v ≡ taken_spans u
      same_taken =
          ap
          (λ (o : Option OutBatch). flat_map (λ (x : EndedBatch). x.spans) v.ended ++ out_spans o)
          none
          ∙ append-nil (flat_map (λ (x : EndedBatch). x.spans) v.ended)
          ∙ ap (flat_map (λ (x : EndedBatch). x.spans)) ended
          ∙ flat_map-append (λ (x : EndedBatch). x.spans) u.ended (e ∷ [])
          ∙ ap (λ (l : List SpanData). settled_spans ++ l) (append-nil e.spans ∙ spans) ∙ sym had

      same_numbers : e.number ≡ b.number → numbers v ≡ range_with_len 1 desk.batches
      same_numbers number =
          ap
          (λ (o : Option OutBatch). map (λ (x : EndedBatch). x.number) v.ended ++ out_number o) none
          ∙ append-nil (map (λ (x : EndedBatch). x.number) v.ended)
          ∙ ap (map (λ (x : EndedBatch). x.number)) ended
          ∙ map-append (λ (x : EndedBatch). x.number) u.ended (e ∷ [])
          ∙ ap (λ (n : ℕ). ended_numbers ++ n ∷ []) number
          ∙ sym (ap (λ (o : Option OutBatch). ended_numbers ++ out_number o) out)
          ∙ k.batches.numbered

      -- what comes of the batches that ended, and then of this one
      each_more : {X : Type 0} (f : BatchEnd → List SpanData → List X)
          → flat_map (λ (x : EndedBatch). f x.ending x.spans) v.ended
          ≡ flat_map (λ (x : EndedBatch). f x.ending x.spans) u.ended ++ f e.ending e.spans
      each_more f =
          ap (flat_map (λ (x : EndedBatch). f x.ending x.spans)) ended
          ∙ flat_map-append (λ (x : EndedBatch). f x.ending x.spans) u.ended (e ∷ [])
          ∙ ap (λ l. flat_map (λ (x : EndedBatch). f x.ending x.spans) u.ended ++ l)
          (append-nil (f e.ending e.spans))

      handed_more : handed_spans v ≡ handed_spans u ++ spans_if_settled e.ending e.spans
      handed_more = each_more spans_if_settled

      entries_more : worker_entries v ≡ worker_entries u ++ entries_by e.ending e.spans
      entries_more = each_more entries_by

      losses_more : worker_losses v ≡ worker_losses u ++ lost_entries_by e.ending e.spans
      losses_more = each_more lost_entries_by

      fates_more : fates v ≡ fates u ++ option_to_list (fate_in e.ending)
      fates_more =
          ap (filter_map (λ (x : EndedBatch). fate_in x.ending)) ended
          ∙ filter_map-append (λ (x : EndedBatch). fate_in x.ending) u.ended (e ∷ [])
          ∙ ap (λ (l : List Fate). fates u ++ l)
          (one-mapped (λ (x : EndedBatch). fate_in x.ending) e (fate_in e.ending) refl)

    -- The accounts agree after the batch that is out, not yet handed, is dropped.
    pub drop_agrees : (desk' : Desk) (reason : Reason) → b.body ≡ None
        → desk'
        ≡ record desk {
          out = None;
          ledger = reverse (map (entry_of reason) b.spans) ++ desk.ledger;
          dropped = with_drops reason (length b.spans) desk.dropped;
        }
        → Agrees desk' passes (after_drop reason u)
    drop_agrees desk' reason fresh is =
        let v = after_drop reason u in
        let e : EndedBatch =
        record { number = b.number; spans = b.spans; ending = batches.dropped reason } in
        let m = map (entry_of reason) b.spans in
        let ended : v.ended ≡ u.ended ++ e ∷ [] =
        ap (λ (o : Option OutBatch). u.ended ++ ended_with (λ _. batches.dropped reason) o) out in
        let taken = same_taken v e ended refl refl refl in
        let desk2 =
        record desk {
          out = None;
          ledger = reverse m ++ desk.ledger;
          dropped = with_drops reason (length b.spans) desk.dropped;
        } in
        let names : IsPermutation (all_entries passes v)
        ((reverse m ++ desk.ledger) ++ all_popped passes) =
        subst (λ (l : List Entry).
        IsPermutation (all_dropped passes ++ l) ((reverse m ++ desk.ledger) ++ all_popped passes))
        (sym (entries_more v e ended refl refl refl))
        (names_on (all_dropped passes) (worker_entries u) m desk.ledger
        (all_popped passes) k.names.named) in
        let had = all_entries passes u in
        let counted : with_drops reason (length b.spans) desk.dropped
        ≡ drop_counts (all_entries passes v) =
        ap (with_drops reason (length b.spans)) k.names.counted
        ∙ sym (counts-more reason had b.spans)
        ∙ ap drop_counts
        (append_assoc (all_dropped passes) (worker_entries u) m
        ∙ ap (λ (l : List Entry). all_dropped passes ++ l)
        (sym (entries_more v e ended refl refl refl))) in
        subst (λ (d : Desk). Agrees d passes v) (sym is)
        (agrees_worker desk desk2 u v passes k
        (record {
          config = refl;
          next = refl;
          closed = refl;
          late = refl;
          left = 0;
          waiting = refl;
        })
        (ap (λ (l : List SpanData). l ++ desk.waiting) taken)
        (record { named = names; counted = counted })
        (subst
        (λ (l : List Entry). NamesLosses desk.lost desk.lost_count l (all_popped_lost passes))
        (sym (losses_more v e ended refl refl refl ∙ append-nil (worker_losses u))) k.losses)
        (record {
          out = refl;
          taken = k.batches.taken ∙ sym (ap length taken);
          numbered = same_numbers v e ended refl refl refl refl;
          handed =
              let none : length (handed_out_spans u.out) ≡ 0 =
              ap (λ (o : Option OutBatch). length (handed_out_spans o)) out
              ∙ ap (λ (o : Option (List ℕ)). length (spans_with o b.spans)) fresh in
              let same =
              ap length (handed_more v e ended refl refl refl ∙ append-nil (handed_spans u)) in
              let was = k.batches.handed in
              omega arith;
          fates_are =
              k.batches.fates_are
              ∙ ap fate_counts (sym (fates_more v e ended refl refl refl ∙ append-nil (fates u)));
          drained = k.batches.drained;
        })
        (λ is. is))

    -- The accounts agree after the batch that is out, once handed, is settled.
    pub settle_agrees : (desk' : Desk) (body : List ℕ) (outcomes : List Outcome) (fate : Fate)
        → b.body ≡ Some body → desk' ≡ after_settled fate b.spans desk
        → Agrees desk' passes (after_settle outcomes fate u)
    settle_agrees desk' body outcomes fate sent is =
        let v = after_settle outcomes fate u in
        let e : EndedBatch =
        record {
          number = b.number;
          spans = b.spans;
          ending = batches.settled body outcomes fate;
        } in
        let ended : v.ended ≡ u.ended ++ e ∷ [] =
        ap
        (λ (o : Option OutBatch). u.ended ++ ended_with (λ x. settled_with outcomes fate x.body) o)
        out
        ∙ ap (λ (o : Option (List ℕ)). u.ended
        ++ record { number = b.number; spans = b.spans; ending = settled_with outcomes fate o }
        ∷ [])
        sent in
        let taken = same_taken v e ended refl refl refl in
        let desk2 = after_settled fate b.spans desk in
        let names : NamesDrops desk.ledger desk.dropped (all_entries passes v) (all_popped passes) =
        subst (λ (l : List Entry).
        NamesDrops desk.ledger desk.dropped (all_dropped passes ++ l) (all_popped passes))
        (sym (entries_more v e ended refl refl refl ∙ append-nil (worker_entries u))) k.names in
        let ms = lost_names fate b.spans in let more = losses_more v e ended refl refl refl in
        let losses : NamesLosses (reverse ms ++ desk.lost) (desk.lost_count + length ms)
        (worker_losses v) (all_popped_lost passes) =
        subst (λ (l : List Entry). NamesLosses (reverse ms ++ desk.lost)
        (desk.lost_count + length ms) l (all_popped_lost passes))
        (sym more)
        (record {
          named =
              names_on [] (worker_losses u) ms desk.lost (all_popped_lost passes) k.losses.named;
          counted =
              ap (λ (n : ℕ). n + length ms) k.losses.counted
              ∙ sym (length-append (worker_losses u) ms);
        }) in
        subst (λ (d : Desk). Agrees d passes v) (sym is)
        (agrees_worker desk desk2 u v passes k
        (record {
          config = refl;
          next = refl;
          closed = refl;
          late = refl;
          left = 0;
          waiting = refl;
        })
        (ap (λ (l : List SpanData). l ++ desk.waiting) taken) names losses
        (record {
          out = refl;
          taken = k.batches.taken ∙ sym (ap length taken);
          numbered = same_numbers v e ended refl refl refl refl;
          handed =
              let had : length (handed_out_spans u.out) ≡ length b.spans =
              ap (λ (o : Option OutBatch). length (handed_out_spans o)) out
              ∙ ap (λ (o : Option (List ℕ)). length (spans_with o b.spans)) sent in
              let more =
              ap length (handed_more v e ended refl refl refl)
              ∙ length-append (handed_spans u) b.spans in
              let was = k.batches.handed in
              omega arith;
          fates_are =
              ap (with_fate fate) k.batches.fates_are ∙ sym (fates-more (fates u) fate)
              ∙ ap fate_counts (sym (fates_more v e ended refl refl refl));
          drained = k.batches.drained;
        })
        (λ is. is))

  -- ---- all is drained

  -- The accounts agree where the worker learns that all is drained, if no span waits or is
  -- admitted.
  pub drained_agrees : desk.closed ≡ true → desk.waiting ≡ [] → Agrees desk passes (after_drained u)
  drained_agrees closed none =
      agrees_worker desk desk u (after_drained u) passes k
      (record { config = refl; next = refl; closed = refl; late = refl; left = 0; waiting = refl })
      refl k.names k.losses
      (record {
        out = k.batches.out;
        taken = k.batches.taken;
        numbered = k.batches.numbered;
        handed = k.batches.handed;
        fates_are = k.batches.fates_are;
        drained = λ _. (closed, none);
      })
      (λ is. is)

  -- ---- the worker leaves

  -- The accounts agree after the worker leaves.
  pub left_agrees : Agrees desk passes (after_left u)
  left_agrees =
      agrees_worker desk desk u (after_left u) passes k
      (record { config = refl; next = refl; closed = refl; late = refl; left = 0; waiting = refl })
      refl k.names k.losses
      (record {
        out = k.batches.out;
        taken = k.batches.taken;
        numbered = k.batches.numbered;
        handed = k.batches.handed;
        fates_are = k.batches.fates_are;
        drained = k.batches.drained;
      })
      (λ is. refl)
