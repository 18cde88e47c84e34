-- How the accounts of a processor begin, and what they say in the end.
use Rattle.std.proofs.Common.{◌≡◌, ℕ, ◌+◌, ◌≤◌, Bool, false, List, [], ◌∷◌, ◌++◌, length, sym, refl}
use Rattle.std.proofs.Common.{ap, ◌∙◌, subst, arith}
use Rattle.std.specs.Prelude.{IsPermutation, Option, None}
use Rattle.std.specs.List.{AllByRecursion, flat_map}
use Rattle.std.proofs.lemmas.List.{append-nil, append_assoc, length-append, nil_from_length}
use Rattle.std.proofs.lemmas.List.Sorted.{IsPermutation-refl, IsPermutation-trans}
use Rattle.std.proofs.lemmas.List.Sorted.{IsPermutation-append_left, IsPermutation-append_right}
use Rattle.std.proofs.lemmas.List.Sorted.{IsPermutation-append_comm}
use Rattle.account_book.specs.Accounts.{Replaces, Removes, Closes}
use Rattle.account_book.proofs.Facts.{each_closed, each_map, each_removed, each_same, gathered_all}
use Rattle.account_book.proofs.Facts.{length_removed, nothing_of, one_removed}
use Rattle.account_book.proofs.Facts.{part_kept, part_removed}
use Rattle.model_span.specs.Spans.{SpanData}
use Rattle.model_span.specs.Dropped.{Entry}
use Rattle.model_desk.specs.Desks.{Desk, DeskConfig, drop_counts, new_desk}
use Rattle.model_processor.specs.Passes.{Drop, PassAccount, accepted_spans, all_accepted}
use Rattle.model_processor.specs.Passes.{all_dropped, all_popped, all_popped_lost, dropped_entries}
use Rattle.model_processor.specs.Passes.{drops, new_account}
use Rattle.model_processor.proofs.PassSteps.{gives_closed, gives_new, late_closed, late_new}
use Rattle.model_processor.proofs.PassSteps.{losses_same, names_same}
use Rattle.model_processor.specs.Worker.{BatchEnd, EndedBatch, OutBatch, WorkerAccount}
use Rattle.model_processor.specs.Worker.{dropped_spans, handed_out_spans, handed_spans, new_worker}
use Rattle.model_processor.specs.Worker.{out_spans, settled, dropped, spans_if_dropped}
use Rattle.model_processor.specs.Worker.{spans_if_settled, taken_spans, worker_entries}
use Rattle.model_processor.specs.Worker.{worker_losses}
use Rattle.model_processor.specs.Batches.{EndByWork, Origin}
use Rattle.model_processor.specs.WorkerClauses.{AreFrom, DropsFoundItFull, FoundItFull, IsAccounted}
use Rattle.model_processor.specs.WorkerClauses.{QueuedAreAccounted}
use Rattle.model_processor.specs.AnyAccounts.{AnyAccount, pass, pass_account}
use Rattle.model_processor.specs.AnyAccounts.{pass_accounts, processor, worker, worker_account}
use Rattle.model_processor.specs.AnyAccounts.{worker_accounts}
use Rattle.model_processor.specs.Kept.{Agrees, IsAccountOf, IsOf, KeepsFloor, Kept, accepted}
use Rattle.model_processor.specs.Kept.{shown_out}
use Rattle.model_processor.proofs.Holders.{first_set, new_passes, no_workers, of_passes}
use Rattle.model_processor.proofs.Lists.{between-same}
use Rattle.model_processor.proofs.Reasons.{all_lost, none_full, none_lost}

-- ---- the end

agrees_closed : (desk : Desk) (w : WorkerAccount) (old done : List PassAccount) → Agrees desk old w
    → Closes old done [] → Agrees desk done w
agrees_closed desk w old done k c =
    let spans = gathered_all accepted_spans old done c in
    let names = gathered_all dropped_entries old done c in
    let pops = gathered_all (λ (a : PassAccount). a.popped) old done c in
    let queue = desk.config.queue in
    let still : (d : Drop) → FoundItFull queue (all_accepted old) d
    → FoundItFull queue (all_accepted done) d =
    λ d f.
    let e = between-same d.floor d.span.ticket (all_accepted done) (all_accepted old) spans in
    omega arith in
    record {
      queues = record {
        queued =
            IsPermutation-trans (all_accepted done) (all_accepted old)
            (taken_spans w ++ desk.waiting) spans k.queues.queued;
        rising = k.queues.rising;
        below = k.queues.below;
        full =
            each_map
            (λ (a : PassAccount). AllByRecursion (FoundItFull queue (all_accepted old)) (drops a))
            (λ (a : PassAccount). AllByRecursion (FoundItFull queue (all_accepted done)) (drops a))
            done
            (λ a all. each_map (FoundItFull queue (all_accepted old))
            (FoundItFull queue (all_accepted done)) (drops a) still all)
            (each_closed
            (λ (a : PassAccount). AllByRecursion (FoundItFull queue (all_accepted old)) (drops a))
            old done [] c k.queues.full);
      };
      tickets = gives_closed desk.next_ticket old done c k.tickets;
      names =
          let ws = worker_entries w in
          names_same desk.ledger desk.dropped (all_dropped old ++ ws) (all_dropped done ++ ws)
          (all_popped old) (all_popped done)
          (IsPermutation-append_left ws (all_dropped done) (all_dropped old) names) pops k.names;
      full = each_closed _ old done [] c k.full;
      losses =
          losses_same desk.lost desk.lost_count (worker_losses w) (all_popped_lost old)
          (all_popped_lost done)
          (gathered_all (λ (a : PassAccount). a.popped_lost) old done c) k.losses;
      late = late_closed desk.late desk.next_ticket desk.closed old done c k.late;
      floors = each_closed _ old done [] c k.floors;
      batches = k.batches;
      told = each_closed _ old done [] c k.told;
    }

-- the processor's own account is closed, then the worker's, and then those of all passes
module _ (origin said of_worker : Origin) (marked : Bool) (desk : Desk)
    (all rest passes left : List AnyAccount) (w : WorkerAccount) (done : List PassAccount)
    (k : Kept origin marked desk all) (r : Removes all (processor said) rest)
    (q : Removes rest (worker of_worker w) passes)
    (c : Closes (pass_accounts passes) done (pass_accounts left))
    (counted : length passes ≡ length left + length done)
    (enough : said.passes ≤ length done) where
  said_is : said ≡ origin
  said_is = (each_removed (IsOf origin) all (processor said) rest r k.origins).0

  -- Where as many accounts of passes are closed as there are passes, no account is left.
  pub none_left : left ≡ []
  none_left =
      let few = k.few in
      let one = length_removed all (processor said) rest r in
      let two = length_removed rest (worker of_worker w) passes q in
      let e = ap (λ (o : Origin). o.passes) said_is in
      nil_from_length left (omega arith)

  -- The worker's account says the same origin as the processor's.
  pub of_worker_is : of_worker ≡ said
  of_worker_is =
      (each_removed (IsOf origin) rest (worker of_worker w) passes q
      (each_removed (IsOf origin) all (processor said) rest r k.origins).1).0
      ∙ sym said_is

  worker_is : w ≡ k.account
  worker_is =
      let there : worker_accounts rest ≡ k.account ∷ [] =
      part_kept worker_account all (processor said) rest r refl ∙ k.one_worker in
      one_removed k.account w (worker_accounts passes)
      (subst (λ (ws : List WorkerAccount). Removes ws w (worker_accounts passes)) there
      (part_removed worker_account rest (worker of_worker w) passes w q refl))

  -- The desk that is left, the closed accounts of the passes and that of the worker agree.
  pub account_end : IsAccountOf said desk done w
  account_end =
      let same : pass_accounts passes ≡ pass_accounts all =
      part_kept pass_account rest (worker of_worker w) passes q refl
      ∙ part_kept pass_account all (processor said) rest r refl in
      let whole : Closes (pass_accounts all) done [] =
      subst (λ (xs : List PassAccount). Closes xs done []) same
      (subst (λ (hs : List AnyAccount). Closes (pass_accounts passes) done (pass_accounts hs))
      none_left c) in
      record {
        config = k.config ∙ sym (ap (λ (o : Origin). o.desk) said_is);
        agrees =
            subst (Agrees desk done) (sym worker_is)
            (agrees_closed desk k.account (pass_accounts all) done k.agrees whole);
      }

-- ---- what it says

-- The spans of ended batches are those of the handed ones and those of the dropped ones.
parted : (batches : List EndedBatch)
    → IsPermutation (flat_map (λ (b : EndedBatch). b.spans) batches)
    (flat_map (λ (b : EndedBatch). spans_if_settled b.ending b.spans) batches
    ++ flat_map (λ (b : EndedBatch). spans_if_dropped b.ending b.spans) batches)
parted [] = IsPermutation-refl []
parted (b ∷ batches) = by_end b.ending refl (parted batches)
  where
    by_end : (e : BatchEnd) → b.ending ≡ e
        → IsPermutation (flat_map (λ (b : EndedBatch). b.spans) batches)
        (flat_map (λ (b : EndedBatch). spans_if_settled b.ending b.spans) batches
        ++ flat_map (λ (b : EndedBatch). spans_if_dropped b.ending b.spans) batches)
        → IsPermutation (b.spans ++ flat_map (λ (b : EndedBatch). b.spans) batches)
        ((spans_if_settled b.ending b.spans
        ++ flat_map (λ (b : EndedBatch). spans_if_settled b.ending b.spans) batches)
        ++ (spans_if_dropped b.ending b.spans
        ++ flat_map (λ (b : EndedBatch). spans_if_dropped b.ending b.spans) batches))
    by_end e is rest =
        let all = flat_map (λ (b : EndedBatch). b.spans) batches in
        let hs = flat_map (λ (b : EndedBatch). spans_if_settled b.ending b.spans) batches in
        let ds = flat_map (λ (b : EndedBatch). spans_if_dropped b.ending b.spans) batches in
        let P : BatchEnd → Type 0 =
        λ x. IsPermutation (b.spans ++ all)
        ((spans_if_settled x b.spans ++ hs) ++ (spans_if_dropped x b.spans ++ ds)) in
        subst P (sym is) (cases b.spans all hs ds rest e)
      where
        cases : (ss all hs ds : List SpanData) → IsPermutation all (hs ++ ds) → (e : BatchEnd)
            → IsPermutation (ss ++ all)
            ((spans_if_settled e ss ++ hs) ++ (spans_if_dropped e ss ++ ds))
        cases ss all hs ds rest (settled body outcomes fate) =
            subst (λ (l : List SpanData). IsPermutation (ss ++ all) l) (sym (append_assoc ss hs ds))
            (IsPermutation-append_right ss all (hs ++ ds) rest)
        cases ss all hs ds rest (dropped reason) =
            let a = IsPermutation-append_right ss all (hs ++ ds) rest in
            let b : IsPermutation (ss ++ (hs ++ ds)) ((hs ++ ss) ++ ds) =
            subst (λ (l : List SpanData). IsPermutation l ((hs ++ ss) ++ ds))
            (append_assoc ss hs ds)
            (IsPermutation-append_left ds (ss ++ hs) (hs ++ ss)
            (IsPermutation-append_comm ss hs)) in
            subst (λ (l : List SpanData). IsPermutation (ss ++ all) l) (append_assoc hs ss ds)
            (IsPermutation-trans (ss ++ all) (ss ++ (hs ++ ds)) ((hs ++ ss) ++ ds) a b)

module _ (origin : Origin) (desk : Desk) (passes : List PassAccount) (w : WorkerAccount)
    (x : IsAccountOf origin desk passes w) where
  queued_are : w.out ≡ None → QueuedAreAccounted desk.waiting passes w
  queued_are none =
      let all = flat_map (λ (b : EndedBatch). b.spans) w.ended in
      let taken : taken_spans w ≡ all =
      ap (λ (o : Option OutBatch). all ++ out_spans o) none ∙ append-nil all in
      let q : IsPermutation (all_accepted passes) (all ++ desk.waiting) =
      subst (λ (l : List SpanData). IsPermutation (all_accepted passes) (l ++ desk.waiting)) taken
      x.agrees.queues.queued in
      let p : IsPermutation (all ++ desk.waiting)
      ((handed_spans w ++ dropped_spans w) ++ desk.waiting) =
      IsPermutation-append_left desk.waiting all (handed_spans w ++ dropped_spans w)
      (parted w.ended) in
      subst (λ (l : List SpanData). IsPermutation (all_accepted passes) l)
      (append_assoc (handed_spans w) (dropped_spans w) desk.waiting)
      (IsPermutation-trans (all_accepted passes) (all ++ desk.waiting)
      ((handed_spans w ++ dropped_spans w) ++ desk.waiting) q p)

  handed_are : w.out ≡ None → desk.handed ≡ length (handed_spans w)
  handed_are none =
      let z : length (handed_out_spans w.out) ≡ 0 =
      ap (λ (o : Option OutBatch). length (handed_out_spans o)) none in
      let h = x.agrees.batches.handed in omega arith

  -- Where the worker's account is final, the processor has all that its clauses say.
  pub accounted : EndByWork origin w → IsAccounted origin desk passes w
  accounted e = record {
    config = x.config;
    none_out = x.agrees.batches.out ∙ ap shown_out e.none_out;
    spans = queued_are e.none_out;
    tickets = record {
      given = x.agrees.tickets;
      full =
          subst (λ (c : DeskConfig). DropsFoundItFull c.queue passes) x.config x.agrees.queues.full;
    };
    names = record {
      all = x.agrees.names;
      not_full = none_full origin w e;
      not_lost = none_lost origin passes w x.agrees.full e;
    };
    losses = record { all = x.agrees.losses; are_lost = all_lost w.ended };
    late = x.agrees.late;
    batches = record {
      by_work = e;
      numbered = x.agrees.batches.numbered;
      rising = x.agrees.queues.rising;
      taken = x.agrees.batches.taken;
      handed = handed_are e.none_out;
      settled = x.agrees.batches.fates_are;
    };
    flushes = record {
      floors =
          each_map (λ (a : PassAccount).
          KeepsFloor desk.next_ticket desk.waiting (accepted desk w) a.floor a.asked)
          (λ (a : PassAccount). AreFrom a.floor desk.waiting) passes
          (λ a f. f.above) x.agrees.floors;
      drained = λ is. (x.agrees.batches.drained is).1;
      told = x.agrees.told;
    };
  }

-- ---- the beginning

agrees_new : (config : DeskConfig) (made : ℕ) (accounts : List PassAccount)
    → AllByRecursion (λ a. a ≡ new_account) accounts
    → Agrees (new_desk config made) accounts new_worker
agrees_new config made accounts all = record {
  queues = record {
    queued =
        subst (λ (l : List SpanData). IsPermutation l [])
        (sym (nothing_of new_account accepted_spans refl accounts all)) (IsPermutation-refl []);
    rising = tt;
    below = tt;
    full = each_same new_account _ tt accounts all;
  };
  tickets = gives_new accounts all;
  names = record {
    named =
        rw (
          nothing_of new_account dropped_entries refl accounts all,
          nothing_of new_account (λ (a : PassAccount). a.popped) refl accounts all,
        ) (IsPermutation-refl []);
    counted =
        ap (λ (l : List Entry). drop_counts (l ++ []))
        (sym (nothing_of new_account dropped_entries refl accounts all));
  };
  full = each_same new_account _ tt accounts all;
  losses = record {
    named =
        rw (nothing_of new_account (λ (a : PassAccount). a.popped_lost) refl accounts all)
        (IsPermutation-refl []);
    counted = refl;
  };
  late = late_new accounts all;
  floors =
      each_same new_account _
      (record {
        above = tt;
        floor_given = omega arith;
        asked_given = omega arith;
        mark_given = omega arith;
        appended = tt;
      })
      accounts all;
  batches = record {
    out = refl;
    taken = refl;
    numbered = refl;
    handed = refl;
    fates_are = refl;
    drained = λ h. cc;
  };
  told = each_same new_account _ (λ is. cc) accounts all;
}

-- In a book of two accounts, of which the second learns something, the second alone changes.
two_replaced : {V : Type 0} (x u v w : V) (new : List V) → (x ≡ v → ⊥)
    → Replaces (x ∷ u ∷ []) v w new → new ≡ x ∷ w ∷ []
two_replaced {V} x u v w new apart r = by_before r.0 r.1 r.2 r.3
  where
    by_before : (before appended : List V) → x ∷ u ∷ [] ≡ before ++ v ∷ appended
        → new ≡ before ++ w ∷ appended → new ≡ x ∷ w ∷ []
    by_before [] appended is then' = absurd (apart (let e : x ≡ v = cc in e))
    by_before (y ∷ []) appended is then' =
        let same : x ≡ y = cc in
        let none : appended ≡ [] = cc in
        then' ∙ ap (λ (a : V). a ∷ w ∷ appended) (sym same) ∙ ap (λ (l : List V). x ∷ w ∷ l) none
    by_before (y ∷ z ∷ before) appended is then' =
        let long = ap length is in
        let parts = length-append before (v ∷ appended) in
        absurd (omega arith)

kept_new : (origin : Origin) (made : ℕ) (holders opened : List AnyAccount)
    → holders ≡ processor origin ∷ worker origin new_worker ∷ opened → length opened ≤ origin.passes
    → 1 ≤ origin.desk.batch → AllByRecursion (λ h. h ≡ pass new_account) opened
    → Kept origin false (new_desk origin.desk made) holders
kept_new origin made holders opened is few sizes all =
    subst (λ (hs : List AnyAccount). Kept origin false (new_desk origin.desk made) hs) (sym is)
    (record {
      few = omega arith;
      origins = (refl, (refl, of_passes origin opened all));
      config = refl;
      sizes = sizes;
      account = new_worker;
      one_worker = ap (λ (l : List WorkerAccount). new_worker ∷ l) (no_workers opened all);
      left_is = refl;
      agrees = agrees_new origin.desk made (pass_accounts opened) (new_passes opened all);
    })

-- What the lock keeps holds of a new desk, once the processor's account and the worker's were
-- opened and set, and then those of the passes were opened.
pub kept_begins : (origin : Origin) (made : ℕ) (desk : Desk)
    (empty one first two second holders opened : List AnyAccount) (p p' u u' : AnyAccount)
    → desk ≡ new_desk origin.desk made → empty ≡ [] → one ≡ empty ++ pass new_account ∷ []
    → Replaces one p p' first → p' ≡ processor origin
    → two ≡ first ++ pass new_account ∷ [] → u ≡ pass new_account
    → Replaces two u u' second → u' ≡ worker origin new_worker → holders ≡ second ++ opened
    → length opened ≤ origin.passes → 1 ≤ origin.desk.batch
    → AllByRecursion (λ h. h ≡ pass new_account) opened → Kept origin false desk holders
kept_begins origin made desk empty one first two second holders opened p p' u u' desk_is none one_is
    r p_is two_is u_is q v_is is few sizes all =
    let new : AnyAccount = pass new_account in
    let begun : first ≡ processor origin ∷ [] =
    first_set empty one first new p p' (processor origin) none one_is r p_is in
    let both : two ≡ processor origin ∷ new ∷ [] =
    two_is ∙ ap (λ (hs : List AnyAccount). hs ++ new ∷ []) begun in
    let told : second ≡ processor origin ∷ u' ∷ [] =
    two_replaced (processor origin) new u u' second
    (λ e. let f : processor origin ≡ new = e ∙ u_is in cc)
    (subst (λ (hs : List AnyAccount). Replaces hs u u' second) both q) in
    let whole : holders ≡ processor origin ∷ worker origin new_worker ∷ opened =
    is
    ∙ ap (λ (hs : List AnyAccount). hs ++ opened)
    (told ∙ ap (λ (h : AnyAccount). processor origin ∷ h ∷ []) v_is) in
    subst (λ (d : Desk). Kept origin false d holders) (sym desk_is)
    (kept_new origin made holders opened whole few sizes all)
