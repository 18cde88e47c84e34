-- What a hold of the lock for a pass does to what the lock keeps.
use Rattle.std.proofs.Common.{◌≡◌, ℕ, ◌+◌, ◌-◌, ◌^◌, ◌<◌, ◌≤◌, Bool, true, false, List, [], ◌∷◌}
use Rattle.std.proofs.Common.{◌++◌, length, sym, refl, ap, ◌∙◌, subst, arith}
use Rattle.std.specs.Prelude.{IsPermutation, filter_map, ◌==◌}
use Rattle.std.specs.List.{AllByRecursion, range_with_len}
use Rattle.std.proofs.lemmas.List.{append-nil, append_assoc, length-append}
use Rattle.std.proofs.lemmas.List.Elements.{filter_map-append}
use Rattle.std.proofs.lemmas.List.Sorted.{IsPermutation-refl, IsPermutation-sym}
use Rattle.std.proofs.lemmas.List.Sorted.{IsPermutation-to_front}
use Rattle.account_book.specs.Accounts.{Replaces}
use Rattle.account_book.proofs.Facts.{gathered_replaced, each_append, each_at, each_replaced}
use Rattle.account_book.proofs.Facts.{each_split}
use Rattle.model_span.specs.Spans.{SpanData}
use Rattle.model_span.specs.Dropped.{Entry, queue_full, entry_of}
use Rattle.model_desk.specs.Desks.{Desk, accepted_count, capped, drop_counts, is_flushed}
use Rattle.model_desk.specs.Desks.{with_drops}
use Rattle.model_desk.proofs.Events.{counts-more}
use Rattle.model_processor.specs.Passes as ends_of
use Rattle.model_processor.specs.Passes.{Asked, Drop, PassAccount, SpanEnd, after_drain, after_late}
use Rattle.model_processor.specs.Passes.{after_pop, after_pop_lost, all_dropped, all_popped}
use Rattle.model_processor.specs.Passes.{all_popped_lost, drop_in, dropped_entries, dropped_entry}
use Rattle.model_processor.specs.Passes.{entry_in, tickets}
use Rattle.model_processor.specs.PassClauses.{CountsLate, NamesDrops, NamesLosses}
use Rattle.model_processor.proofs.PassSteps.{closed_by, closes-last, gives_step, late_step}
use Rattle.model_processor.proofs.PassSteps.{losses_step, names_step, no_news, none_more, one_news}
use Rattle.model_processor.proofs.PassSteps.{shut-closes}
use Rattle.model_processor.specs.Worker.{WorkerAccount, taken_spans, worker_entries, worker_losses}
use Rattle.model_processor.specs.WorkerClauses.{AreFrom, FoundItFull, all_entries}
use Rattle.model_processor.specs.AnyAccounts.{after_flush, after_flushed, after_shutdown}
use Rattle.model_processor.specs.AnyAccounts.{after_told_left}
use Rattle.model_processor.specs.Kept.{Agrees, KeepsFloor, accepted}
use Rattle.model_processor.proofs.Lists.{between-all, between-append, grown_between}
use Rattle.model_processor.proofs.Parts.{QueueNews, floor_asked, floor_flushed, floor_step}
use Rattle.model_processor.proofs.Parts.{floors_step, queues_step}

-- what a pass does not change of a desk
pub record Keeps (desk desk' : Desk) (ss : List SpanData) : Type 0 where
  pub config : desk'.config ≡ desk.config
  pub waiting : desk'.waiting ≡ desk.waiting ++ ss
  pub out : desk'.out ≡ desk.out
  pub taken : desk'.taken ≡ desk.taken
  pub batches : desk'.batches ≡ desk.batches
  pub fates : desk'.fates ≡ desk.fates
  pub handed : desk'.handed ≡ desk.handed
  pub closed : desk.closed ≡ true → (desk'.closed ≡ true) × (ss ≡ [])

-- the entry's reason is that the queue had no room
abbrev pub AsFull : Entry → Type 0
AsFull e = e.reason ≡ queue_full

-- What a pass pops from the ledger of lost spans.
pub record PopsLost (desk desk' : Desk) (a b : PassAccount) : Type 0 where
  pub popped : List Entry
  pub told : b.popped_lost ≡ a.popped_lost ++ popped
  pub taken : IsPermutation desk.lost (desk'.lost ++ popped)
  pub count : desk'.lost_count ≡ desk.lost_count

pops_none : (desk desk' : Desk) (a b : PassAccount) → b.popped_lost ≡ a.popped_lost
    → desk'.lost ≡ desk.lost → desk'.lost_count ≡ desk.lost_count → PopsLost desk desk' a b
pops_none desk desk' a b told lost count = record {
  popped = [];
  told = told ∙ sym (append-nil a.popped_lost);
  taken =
      subst (λ (es : List Entry). IsPermutation desk.lost es) (sym (append-nil desk'.lost ∙ lost))
      (IsPermutation-refl desk.lost);
  count = count;
}

module _ (desk desk' : Desk) (w : WorkerAccount) (old new : List PassAccount) (a b : PassAccount)
    (r : Replaces old a b new) (k : Agrees desk old w)
    (es : List SpanEnd) (ss : List SpanData) (ps : List Entry)
    (n : QueueNews desk.next_ticket desk'.next_ticket es ss) (same : Keeps desk desk' ss)
    (ends : b.ends ≡ a.ends ++ es) (popped : b.popped ≡ a.popped ++ ps)
    (found : AllByRecursion (FoundItFull desk.config.queue (accepted desk w))
    (filter_map drop_in es))
    (names : IsPermutation (filter_map dropped_entry es ++ desk.ledger) (desk'.ledger ++ ps))
    (counts : desk'.dropped ≡ drop_counts (all_entries old w ++ filter_map dropped_entry es))
    (late : CountsLate desk'.late desk'.next_ticket desk'.closed new)
    (tells : b.told_left ≡ true → w.left ≡ true)
    (one : KeepsFloor desk'.next_ticket (desk.waiting ++ ss)
    (accepted desk w ++ ss) b.floor b.asked)
    (as_full : AllByRecursion AsFull (filter_map dropped_entry es))
    (pops : PopsLost desk desk' a b) where
  dropped_is : dropped_entries b ≡ dropped_entries a ++ filter_map dropped_entry es
  dropped_is = ap (filter_map dropped_entry) ends ∙ filter_map-append dropped_entry a.ends es

  names_are : NamesDrops desk'.ledger desk'.dropped (all_entries new w) (all_popped new)
  names_are =
      let all =
      gathered_replaced dropped_entries old a b new (filter_map dropped_entry es) r dropped_is in
      let out = gathered_replaced (λ (x : PassAccount). x.popped) old a b new ps r popped in
      names_step desk.ledger desk'.ledger desk.dropped desk'.dropped (all_entries old w)
      (all_entries new w) (all_popped old) (all_popped new) (filter_map dropped_entry es) ps
      (grown_between (all_dropped old) (all_dropped new) (filter_map dropped_entry es)
      (worker_entries w) all)
      out names counts k.names

  losses_are : NamesLosses desk'.lost desk'.lost_count (worker_losses w) (all_popped_lost new)
  losses_are =
      let out =
      gathered_replaced (λ (x : PassAccount). x.popped_lost) old a b new pops.popped r pops.told in
      losses_step desk.lost desk'.lost desk.lost_count desk'.lost_count (worker_losses w)
      (worker_losses w) (all_popped_lost old) (all_popped_lost new) [] pops.popped
      (subst (λ (es : List Entry). IsPermutation (worker_losses w) es)
      (sym (append-nil (worker_losses w))) (IsPermutation-refl (worker_losses w)))
      out pops.taken
      (pops.count ∙ none_more desk.lost_count) k.losses

  full_are : AllByRecursion (λ (x : PassAccount). AllByRecursion AsFull (dropped_entries x)) new
  full_are =
      let was =
      each_at
      (λ (x : PassAccount). AllByRecursion AsFull (dropped_entries x)) old a b new r k.full in
      each_replaced
      (λ (x : PassAccount). AllByRecursion AsFull (dropped_entries x)) old a b new r k.full
      (subst (AllByRecursion AsFull) (sym dropped_is)
      (each_append AsFull (dropped_entries a) (filter_map dropped_entry es) was as_full))

  accepted_is : accepted desk' w ≡ accepted desk w ++ ss
  accepted_is =
      ap (λ (xs : List SpanData). taken_spans w ++ xs) same.waiting
      ∙ sym (append_assoc (taken_spans w) desk.waiting ss)

  -- The desk and the accounts agree after a step of one pass that changes each part as it may.
  pub agrees_pass : Agrees desk' new w
  agrees_pass = record {
    queues =
        rw (same.config, accepted_is)
        (queues_step desk.next_ticket desk'.next_ticket es ss n old new a b r ends desk.config.queue
        (accepted desk w) k.queues found);
    tickets = gives_step desk.next_ticket desk'.next_ticket es n.news old new a b r ends k.tickets;
    names = names_are;
    full = full_are;
    losses = losses_are;
    late = late;
    floors =
        rw (same.waiting, sym (append_assoc (taken_spans w) desk.waiting ss))
        (floors_step desk.next_ticket desk'.next_ticket desk.waiting
        (accepted desk w) ss old new a b r n.news.grows n.spans_from k.floors one);
    batches = record {
      out = same.out ∙ k.batches.out;
      taken = same.taken ∙ k.batches.taken;
      numbered = k.batches.numbered ∙ ap (range_with_len 1) (sym same.batches);
      handed = same.handed ∙ k.batches.handed;
      fates_are = same.fates ∙ k.batches.fates_are;
      drained = λ h.
          let was = k.batches.drained h in let still = same.closed was.0 in
          (still.0, same.waiting ∙ ap (λ (xs : List SpanData). xs ++ ss) was.1 ∙ still.1);
    };
    told =
        each_replaced
        (λ (x : PassAccount). x.told_left ≡ true → w.left ≡ true) old a b new r k.told tells;
  }

-- ---- no span ends

nothing_queued : (next : ℕ) → QueueNews next next [] []
nothing_queued next =
    record { news = no_news next; spans = refl; spans_rise = tt; spans_from = tt; spans_upto = tt }

-- A list is its first entry, taken out, and the others.
first_out : (whole others : List Entry) (entry : Entry) → whole ≡ entry ∷ others
    → IsPermutation whole (others ++ entry ∷ [])
first_out whole others entry first =
    subst (λ (es : List Entry). IsPermutation es (others ++ entry ∷ [])) (sym first)
    (IsPermutation-sym (others ++ entry ∷ []) (entry ∷ others)
    (IsPermutation-to_front others entry))

-- A floor is kept where no span was queued.
still_above : (next : ℕ) (waiting spans : List SpanData) (floor : ℕ) (asked : Asked)
    → KeepsFloor next waiting spans floor asked
    → KeepsFloor next (waiting ++ []) (spans ++ []) floor asked
still_above next waiting spans floor asked k = rw (append-nil waiting, append-nil spans) k

module _ (desk : Desk) (w : WorkerAccount) (old new : List PassAccount) (a b : PassAccount)
    (r : Replaces old a b new) (k : Agrees desk old w) where
  floor_of : KeepsFloor desk.next_ticket desk.waiting (accepted desk w) a.floor a.asked
  floor_of =
      each_at (λ (x : PassAccount).
      KeepsFloor desk.next_ticket desk.waiting (accepted desk w) x.floor x.asked)
      old a b new r k.floors

  -- The desk counts the spans that were accepted.
  pub count_is : accepted_count desk ≡ length (accepted desk w)
  count_is =
      ap (λ (n : ℕ). n + length desk.waiting) k.batches.taken
      ∙ sym (length-append (taken_spans w) desk.waiting)

  -- The tickets of a pass are below the next ticket.
  pub below_is : AllByRecursion (λ t. t < desk.next_ticket) (tickets a)
  below_is =
      each_at (λ (x : PassAccount). AllByRecursion (λ t. t < desk.next_ticket) (tickets x)) old a b
      new r k.tickets.below

  same_ledger : IsPermutation ([] ++ desk.ledger) (desk.ledger ++ [])
  same_ledger =
      subst (λ (es : List Entry). IsPermutation desk.ledger es) (sym (append-nil desk.ledger))
      (IsPermutation-refl desk.ledger)

  same_counts : desk.dropped ≡ drop_counts (all_entries old w ++ [])
  same_counts = k.names.counted ∙ ap drop_counts (sym (append-nil (all_entries old w)))

  same_late : b.late ≡ a.late → b.shutdowns ≡ a.shutdowns
      → CountsLate desk.late desk.next_ticket desk.closed new
  same_late l d =
      late_step desk.next_ticket desk.next_ticket desk.late desk.late desk.closed desk.closed old
      new a b r k.late 0 0
      (l ∙ none_more a.late) (d ∙ none_more a.shutdowns)
      (λ n is. is ∙ ap capped (none_more n)) (λ n was some. was (omega arith))
      (λ n is. is ∙ ap (closed_by desk.next_ticket) (none_more n))

  -- A pass that learns nothing of the worker still says that it has left only where it has.
  still_told : b.told_left ≡ a.told_left → b.told_left ≡ true → w.left ≡ true
  still_told same is =
      each_at (λ (x : PassAccount). x.told_left ≡ true → w.left ≡ true) old a b new r k.told
      (sym same ∙ is)

  floor_kept : b.floor ≡ a.floor → b.asked ≡ a.asked
      → KeepsFloor desk.next_ticket desk.waiting (accepted desk w) b.floor b.asked
  floor_kept floor asked = rw (floor, asked) floor_of

  -- The accounts agree where no span ends: the desk changes in what is asked, whether it is closed,
  -- in the late spans and in the ledgers, of which the pass pops entries.
  unended : (ask : ℕ) (shut : Bool) (late : ℕ) (ledger lost ps : List Entry)
      → (desk.closed ≡ true → shut ≡ true)
      → b.ends ≡ a.ends → b.popped ≡ a.popped ++ ps → IsPermutation desk.ledger (ledger ++ ps)
      → CountsLate late desk.next_ticket shut new → (b.told_left ≡ true → w.left ≡ true)
      → KeepsFloor desk.next_ticket desk.waiting (accepted desk w) b.floor b.asked
      → PopsLost desk (record desk { lost = lost }) a b
      → Agrees
      (record desk { asked = ask; closed = shut; late = late; ledger = ledger; lost = lost }) new w
  unended ask shut late ledger lost ps closes ends popped names counts tells one pops =
      let desk' =
      record desk { asked = ask; closed = shut; late = late; ledger = ledger; lost = lost } in
      agrees_pass desk desk' w old new a b r k [] [] ps (nothing_queued desk.next_ticket)
      (record {
        config = refl;
        waiting = sym (append-nil desk.waiting);
        out = refl;
        taken = refl;
        batches = refl;
        fates = refl;
        handed = refl;
        closed = λ c. (closes c, refl);
      })
      (ends ∙ sym (append-nil a.ends)) popped tt names same_counts counts tells
      (still_above desk.next_ticket desk.waiting (accepted desk w) b.floor b.asked one) tt
      (record { popped = pops.popped; told = pops.told; taken = pops.taken; count = pops.count })

  -- The accounts agree where a pass learns something and the desk changes in what is asked alone.
  quiet : (ask : ℕ) → b.ends ≡ a.ends → b.popped ≡ a.popped → b.popped_lost ≡ a.popped_lost
      → b.late ≡ a.late → b.shutdowns ≡ a.shutdowns → (b.told_left ≡ true → w.left ≡ true)
      → KeepsFloor desk.next_ticket desk.waiting (accepted desk w) b.floor b.asked
      → Agrees (record desk { asked = ask }) new w
  quiet ask ends popped lost late shuts tells one =
      unended ask desk.closed desk.late desk.ledger desk.lost [] (λ c. c) ends
      (popped ∙ sym (append-nil a.popped)) same_ledger (same_late late shuts) tells one
      (pops_none desk desk a b lost refl refl)

  -- The accounts agree after a flush, which asks for all spans accepted so far.
  pub flush_agrees : (desk' : Desk) → desk' ≡ record desk { asked = accepted_count desk }
      → b ≡ after_flush desk.next_ticket (accepted_count desk) a → Agrees desk' new w
  flush_agrees desk' is told =
      subst (λ (d : Desk). Agrees d new w) (sym is)
      (quiet (accepted_count desk) (ap (λ (x : PassAccount). x.ends) told)
      (ap (λ (x : PassAccount). x.popped) told) (ap (λ (x : PassAccount). x.popped_lost) told)
      (ap (λ (x : PassAccount). x.late) told) (ap (λ (x : PassAccount). x.shutdowns) told)
      (still_told (ap (λ (x : PassAccount). x.told_left) told))
      (rw (ap (λ (x : PassAccount). x.floor) told, ap (λ (x : PassAccount). x.asked) told)
      (floor_asked desk.next_ticket desk.waiting (accepted desk w) a.floor
      (accepted_count desk) a.asked count_is floor_of)))

  -- The accounts agree where a pass learns that what it asked for is flushed.
  pub flushed_agrees : is_flushed desk a.asked.mark ≡ true → b ≡ after_flushed a → Agrees desk new w
  flushed_agrees flushed told =
      let le : a.asked.mark ≤ length (taken_spans w) = let t = k.batches.taken in grind (arith) in
      quiet desk.asked (ap (λ (x : PassAccount). x.ends) told)
      (ap (λ (x : PassAccount). x.popped) told) (ap (λ (x : PassAccount). x.popped_lost) told)
      (ap (λ (x : PassAccount). x.late) told) (ap (λ (x : PassAccount). x.shutdowns) told)
      (still_told (ap (λ (x : PassAccount). x.told_left) told))
      (rw (ap (λ (x : PassAccount). x.floor) told, ap (λ (x : PassAccount). x.asked) told)
      (floor_flushed desk.next_ticket (taken_spans w) desk.waiting a.floor a.asked le floor_of))

  -- The accounts agree where a pass learns that the worker has left, if it has.
  pub told_left_agrees : w.left ≡ true → b ≡ after_told_left a → Agrees desk new w
  told_left_agrees left told =
      quiet desk.asked (ap (λ (x : PassAccount). x.ends) told)
      (ap (λ (x : PassAccount). x.popped) told) (ap (λ (x : PassAccount). x.popped_lost) told)
      (ap (λ (x : PassAccount). x.late) told) (ap (λ (x : PassAccount). x.shutdowns) told)
      (λ _. left)
      (floor_kept (ap (λ (x : PassAccount). x.floor) told) (ap (λ (x : PassAccount). x.asked) told))

  -- The accounts agree after a shutdown, which asks for all accepted spans and closes the desk.
  pub shutdown_agrees : (desk' : Desk)
      → desk' ≡ record desk { asked = accepted_count desk; closed = true }
      → b ≡ after_shutdown desk.next_ticket (accepted_count desk) a → Agrees desk' new w
  shutdown_agrees desk' is told =
      let late_is : b.late ≡ a.late + 0 =
      ap (λ (x : PassAccount). x.late) told ∙ none_more a.late in
      let late =
      late_step desk.next_ticket desk.next_ticket desk.late desk.late desk.closed true old new a b r
      k.late 0 1 late_is
      (ap (λ (x : PassAccount). x.shutdowns) told)
      (λ n is. is ∙ ap capped (none_more n)) (λ n was some. refl)
      (λ n is. shut-closes desk.next_ticket n) in
      let one : KeepsFloor desk.next_ticket desk.waiting (accepted desk w) b.floor b.asked =
      rw (ap (λ (x : PassAccount). x.floor) told, ap (λ (x : PassAccount). x.asked) told)
      (floor_asked desk.next_ticket desk.waiting (accepted desk w) a.floor
      (accepted_count desk) a.asked count_is floor_of) in
      subst (λ (d : Desk). Agrees d new w) (sym is)
      (unended (accepted_count desk) true desk.late desk.ledger desk.lost [] (λ c. refl)
      (ap (λ (x : PassAccount). x.ends) told)
      (ap (λ (x : PassAccount). x.popped) told ∙ sym (append-nil a.popped)) same_ledger late
      (still_told (ap (λ (x : PassAccount). x.told_left) told)) one
      (pops_none desk desk a b (ap (λ (x : PassAccount). x.popped_lost) told) refl refl))

  -- The accounts agree where a pass takes entries out of the ledgers, and nothing else is new.
  takes_out : (ledger lost ps : List Entry) → b.ends ≡ a.ends → b.popped ≡ a.popped ++ ps
      → IsPermutation desk.ledger (ledger ++ ps) → b.late ≡ a.late → b.shutdowns ≡ a.shutdowns
      → b.told_left ≡ a.told_left → b.floor ≡ a.floor → b.asked ≡ a.asked
      → PopsLost desk (record desk { lost = lost }) a b
      → Agrees (record desk { ledger = ledger; lost = lost }) new w
  takes_out ledger lost ps ends popped names late shuts left floor asked pops =
      unended desk.asked desk.closed desk.late ledger lost ps (λ c. c) ends popped names
      (same_late late shuts) (still_told left) (floor_kept floor asked) pops

  -- The accounts agree after a pass pops the newest entry of the ledger.
  pub pop_agrees : (desk' : Desk) (entry : Entry) → desk.ledger ≡ entry ∷ desk'.ledger
      → desk' ≡ record desk { ledger = desk'.ledger } → b ≡ after_pop entry a → Agrees desk' new w
  pop_agrees desk' entry first is told =
      subst (λ (d : Desk). Agrees d new w) (sym is)
      (takes_out desk'.ledger desk.lost (entry ∷ []) (ap (λ (x : PassAccount). x.ends) told)
      (ap (λ (x : PassAccount). x.popped) told)
      (first_out desk.ledger desk'.ledger entry first) (ap (λ (x : PassAccount). x.late) told)
      (ap (λ (x : PassAccount). x.shutdowns) told) (ap (λ (x : PassAccount). x.told_left) told)
      (ap (λ (x : PassAccount). x.floor) told) (ap (λ (x : PassAccount). x.asked) told)
      (pops_none desk desk a b (ap (λ (x : PassAccount). x.popped_lost) told) refl refl))

  -- The accounts agree after a pass pops the newest entry of the ledger of lost spans.
  pub pop_lost_agrees : (desk' : Desk) (entry : Entry) → desk.lost ≡ entry ∷ desk'.lost
      → desk' ≡ record desk { lost = desk'.lost } → b ≡ after_pop_lost entry a → Agrees desk' new w
  pop_lost_agrees desk' entry first is told =
      subst (λ (d : Desk). Agrees d new w) (sym is)
      (takes_out desk.ledger desk'.lost [] (ap (λ (x : PassAccount). x.ends) told)
      (ap (λ (x : PassAccount). x.popped) told ∙ sym (append-nil a.popped)) same_ledger
      (ap (λ (x : PassAccount). x.late) told) (ap (λ (x : PassAccount). x.shutdowns) told)
      (ap (λ (x : PassAccount). x.told_left) told) (ap (λ (x : PassAccount). x.floor) told)
      (ap (λ (x : PassAccount). x.asked) told)
      (record {
        popped = entry ∷ [];
        told = ap (λ (x : PassAccount). x.popped_lost) told;
        taken = first_out desk.lost desk'.lost entry first;
        count = refl;
      }))

  -- The accounts agree after a pass drains both ledgers.
  pub drain_agrees : (desk' : Desk) (ds ls : List Entry) → IsPermutation desk.ledger ds
      → IsPermutation desk.lost ls → desk' ≡ record desk { ledger = []; lost = [] }
      → b ≡ after_drain ds ls a → Agrees desk' new w
  drain_agrees desk' ds ls all all_lost is told =
      subst (λ (d : Desk). Agrees d new w) (sym is)
      (takes_out [] [] ds (ap (λ (x : PassAccount). x.ends) told)
      (ap (λ (x : PassAccount). x.popped) told) all (ap (λ (x : PassAccount). x.late) told)
      (ap (λ (x : PassAccount). x.shutdowns) told) (ap (λ (x : PassAccount). x.told_left) told)
      (ap (λ (x : PassAccount). x.floor) told) (ap (λ (x : PassAccount). x.asked) told)
      (record {
        popped = ls;
        told = ap (λ (x : PassAccount). x.popped_lost) told;
        taken = all_lost;
        count = refl;
      }))

  -- The accounts agree after a late span is counted at a closed desk.
  pub late_agrees : (desk' : Desk) → desk.closed ≡ true
      → desk' ≡ record desk { late = capped (desk.late + 1) } → b ≡ after_late a
      → Agrees desk' new w
  late_agrees desk' closed is told =
      let late =
      late_step desk.next_ticket desk.next_ticket desk.late
      (capped (desk.late + 1)) desk.closed desk.closed old new a b r k.late 1 0
      (ap (λ (x : PassAccount). x.late) told)
      (ap (λ (x : PassAccount). x.shutdowns) told ∙ none_more a.shutdowns)
      (λ n is. omega arith) (λ n was some. closed)
      (λ n is. is ∙ ap (closed_by desk.next_ticket) (none_more n)) in
      subst (λ (d : Desk). Agrees d new w) (sym is)
      (unended desk.asked desk.closed (capped (desk.late + 1)) desk.ledger desk.lost [] (λ c. c)
      (ap (λ (x : PassAccount). x.ends) told)
      (ap (λ (x : PassAccount). x.popped) told ∙ sym (append-nil a.popped)) same_ledger late
      (still_told (ap (λ (x : PassAccount). x.told_left) told))
      (floor_kept (ap (λ (x : PassAccount). x.floor) told) (ap (λ (x : PassAccount). x.asked) told))
      (pops_none desk desk a b (ap (λ (x : PassAccount). x.popped_lost) told) refl refl))

  -- ---- a span ends, and is given a ticket

  -- Where a ticket is given, no span was late, and the last ticket closes the desk.
  ticket_late : desk.closed ≡ false → b.late ≡ a.late → b.shutdowns ≡ a.shutdowns
      → CountsLate desk.late (desk.next_ticket + 1) (desk.next_ticket + 1 == 2 ^ 64 - 1) new
  ticket_late admits l d =
      late_step desk.next_ticket (desk.next_ticket + 1) desk.late desk.late desk.closed
      (desk.next_ticket + 1 == 2 ^ 64 - 1) old new a b r k.late 0 0 (l ∙ none_more a.late)
      (d ∙ none_more a.shutdowns)
      (λ n is. is ∙ ap capped (none_more n))
      (λ n was some. absurd (let e = was (omega arith) in let f = admits in cc))
      (λ n is. closes-last desk.next_ticket n (sym admits ∙ is)
      ∙ ap (closed_by (desk.next_ticket + 1)) (none_more n))

  open_closed : desk.closed ≡ false → {X : Type 0} → desk.closed ≡ true → X
  open_closed admits shut = absurd (let f = admits in cc)

  -- The accounts agree after a span is queued under the next ticket.
  pub queued_agrees : (desk' : Desk) (s : SpanData) → desk.closed ≡ false
      → s.ticket ≡ desk.next_ticket
      → desk'
      ≡ record desk {
        next_ticket = desk.next_ticket + 1;
        closed = desk.next_ticket + 1 == 2 ^ 64 - 1;
        waiting = desk.waiting ++ s ∷ [];
      }
      → b ≡ record a { ends = a.ends ++ ends_of.accepted s ∷ [] } → Agrees desk' new w
  queued_agrees desk' s admits ticket is told =
      let ss : List SpanData = s ∷ [] in
      let desk2 =
      record desk {
        next_ticket = desk.next_ticket + 1;
        closed = desk.next_ticket + 1 == 2 ^ 64 - 1;
        waiting = desk.waiting ++ ss;
      } in
      let one : KeepsFloor (desk.next_ticket + 1) (desk.waiting ++ ss)
      (accepted desk w ++ ss) b.floor b.asked =
      rw (ap (λ (x : PassAccount). x.floor) told, ap (λ (x : PassAccount). x.asked) told)
      (floor_step desk.next_ticket (desk.next_ticket + 1) desk.waiting
      (accepted desk w) ss a.floor a.asked (omega arith) (omega arith, tt) floor_of) in
      subst (λ (d : Desk). Agrees d new w) (sym is)
      (agrees_pass desk desk2 w old new a b r k
      (ends_of.accepted s ∷ []) ss []
      (record {
        news = one_news desk.next_ticket (ends_of.accepted s) ticket;
        spans = refl;
        spans_rise = (tt, tt);
        spans_from = (omega arith, tt);
        spans_upto = (omega arith, tt);
      })
      (record {
        config = refl;
        waiting = refl;
        out = refl;
        taken = refl;
        batches = refl;
        fates = refl;
        handed = refl;
        closed = open_closed admits;
      })
      (ap (λ (x : PassAccount). x.ends) told)
      (ap (λ (x : PassAccount). x.popped) told ∙ sym (append-nil a.popped)) tt same_ledger
      same_counts
      (ticket_late admits (ap (λ (x : PassAccount). x.late) told)
      (ap (λ (x : PassAccount). x.shutdowns) told))
      (still_told (ap (λ (x : PassAccount). x.told_left) told)) one
      tt (pops_none desk desk2 a b
      (ap (λ (x : PassAccount). x.popped_lost) told) refl refl))

  -- The accounts agree after a span is dropped since the queue is full, whose waiting spans have
  -- their tickets from the pass's floor on.
  pub full_agrees : (desk' : Desk) (d : Drop) (s : SpanData) → entry_in d ≡ entry_of queue_full s
      → desk.closed ≡ false → length desk.waiting ≡ desk.config.queue
      → d.span.ticket ≡ desk.next_ticket → d.floor ≡ a.floor
      → desk'
      ≡ record desk {
        next_ticket = desk.next_ticket + 1;
        closed = desk.next_ticket + 1 == 2 ^ 64 - 1;
        ledger = entry_in d ∷ desk.ledger;
        dropped = with_drops queue_full 1 desk.dropped;
      }
      → b ≡ record a { ends = a.ends ++ ends_of.dropped d ∷ [] } → Agrees desk' new w
  full_agrees desk' d s named admits whole ticket floor is told =
      let desk2 =
      record desk {
        next_ticket = desk.next_ticket + 1;
        closed = desk.next_ticket + 1 == 2 ^ 64 - 1;
        ledger = entry_in d ∷ desk.ledger;
        dropped = with_drops queue_full 1 desk.dropped;
      } in
      let one : KeepsFloor (desk.next_ticket + 1) (desk.waiting ++ [])
      (accepted desk w ++ []) b.floor b.asked =
      rw (ap (λ (x : PassAccount). x.floor) told, ap (λ (x : PassAccount). x.asked) told)
      (floor_step desk.next_ticket (desk.next_ticket + 1) desk.waiting
      (accepted desk w) [] a.floor a.asked (omega arith) tt floor_of) in
      let parts = between-append d.floor d.span.ticket (taken_spans w) desk.waiting in
      let below =
      (each_split (λ (s : SpanData). s.ticket < desk.next_ticket)
      (taken_spans w) desk.waiting k.queues.below).1 in
      let all =
      between-all d.floor d.span.ticket desk.waiting
      (subst (λ (n : ℕ). AreFrom n desk.waiting) (sym floor) floor_of.above)
      (subst (λ (n : ℕ). AllByRecursion (λ (s : SpanData). s.ticket < n) desk.waiting)
      (sym ticket) below) in
      let found : FoundItFull desk.config.queue (accepted desk w) d = omega arith in
      let had = all_entries old w in
      let one_more : with_drops queue_full 1 desk.dropped ≡ drop_counts (had ++ entry_in d ∷ []) =
      ap (with_drops queue_full 1) k.names.counted ∙ sym (counts-more queue_full had (s ∷ []))
      ∙ ap (λ (e : Entry). drop_counts (had ++ e ∷ [])) (sym named) in
      subst (λ (x : Desk). Agrees x new w) (sym is)
      (agrees_pass desk desk2 w old new a b r k
      (ends_of.dropped d ∷ []) [] []
      (record {
        news = one_news desk.next_ticket (ends_of.dropped d) ticket;
        spans = refl;
        spans_rise = tt;
        spans_from = tt;
        spans_upto = tt;
      })
      (record {
        config = refl;
        waiting = sym (append-nil desk.waiting);
        out = refl;
        taken = refl;
        batches = refl;
        fates = refl;
        handed = refl;
        closed = open_closed admits;
      })
      (ap (λ (x : PassAccount). x.ends) told)
      (ap (λ (x : PassAccount). x.popped) told ∙ sym (append-nil a.popped)) (found, tt)
      (subst (λ (es : List Entry). IsPermutation (entry_in d ∷ desk.ledger) es)
      (sym (append-nil (entry_in d ∷ desk.ledger))) (IsPermutation-refl (entry_in d ∷ desk.ledger)))
      one_more (ticket_late admits (ap (λ (x : PassAccount). x.late) told)
      (ap (λ (x : PassAccount). x.shutdowns) told))
      (still_told (ap (λ (x : PassAccount). x.told_left) told)) one
      (ap (λ (e : Entry). e.reason) named, tt) (pops_none desk desk2 a b
      (ap (λ (x : PassAccount). x.popped_lost) told) refl refl))
