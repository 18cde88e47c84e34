-- What each event makes of a desk: the desk that it leaves, whatever events were before it.
use Rattle.std.proofs.Common.{◌≡◌, refl, sym, ap, ◌∙◌, subst, ℕ, ◌+◌, ◌-◌, ◌^◌, min, arith, List}
use Rattle.std.proofs.Common.{[], ◌∷◌, ◌++◌, length, take, drop, Bool, true, false, true≢false}
use Rattle.std.proofs.Common.{cond, ◌||◌, Some, None, length-take}
use Rattle.std.specs.Prelude.{pos, ◌==◌, if◌then◌else◌, count_by, map, reverse, unwrap_or}
use Rattle.std.specs.List.{list_any}
use Rattle.std.proofs.lemmas.List.Sums.{sum_by-append}
use Rattle.model_span.specs.Spans.{SpanData}
use Rattle.model_span.specs.Dropped.{Reason, Entry, entry_of, is_reason, count_of_reason}
use Rattle.model_desk.specs.Retries.{Fate}
use Rattle.model_desk.specs.Queue.{is_late, DeskEvent, queued, full, late, flush, shutdown, taken}
use Rattle.model_desk.specs.Queue.{handed, dropped, settled, popped, popped_lost, asks, asked_count}
use Rattle.model_desk.specs.Queue.{accepted_spans, queued_span, size_of_take, ticket_of, tickets}
use Rattle.model_desk.specs.Queue.{taken_count, waiting_spans, last_batch, last_spans, last_size}
use Rattle.model_desk.specs.Queue.{Stage, not_out, in_hand, with_exporter, stage, stage_by}
use Rattle.model_desk.specs.Queue.{stack_on, moment_of_take, last_moment, spans_handed_by}
use Rattle.model_desk.specs.Queue.{handed_spans, fate_by, fates, entries_by, drops, ledger_entries}
use Rattle.model_desk.specs.Queue.{stack_steps, is_popped, is_popped_lost, losses_by, losses}
use Rattle.model_desk.specs.Queue.{lost_entries, lost_names, late_count, is_shutdown, is_closed}
use Rattle.model_desk.specs.Desks.{DeskConfig, Desk, DropCounts, FateCounts, drop_counts}
use Rattle.model_desk.specs.Desks.{with_drops, is_fate, fate_counts, with_fate, capped, out_as}
use Rattle.model_desk.specs.Desks.{desk_of, accepted_count, is_in_hand, is_with_exporter}
use Rattle.model_desk.specs.Desks.{handed_out, out_size, new_desk, Allowed, AreAllowed, IsDesk}
use Rattle.model_desk.specs.Desks.{Does, DropsSpans, SettlesSpans, TakesSpans, is_loss}
use Rattle.model_desk.specs.Desks.{after_settled}
use Rattle.model_desk.proofs.Lists.{count-more, gather-more, stack-pushes, push_as, drop_as, one_as}
use Rattle.model_desk.proofs.Lists.{plus_as, length_as, after_as, length-as-is, length-after}
use Rattle.model_desk.proofs.Lists.{after-is, pushed-after, one-after, sum-after, last-after}
use Rattle.model_desk.proofs.Steps.{IsWithin, waiting-more, ledger-more, asked-more, shut-more}
use Rattle.model_desk.proofs.Steps.{length-last, accepted-adds, last-taken, allowed-more}
use Rattle.model_desk.proofs.Steps.{allowed-within}

or-none : (b c : Bool) → (b || c) ≡ false → b ≡ false
or-none true c e = absurd (true≢false e)
or-none false c e = refl

-- A count that stops at its greatest number may be stopped before each step too.
capped-more : (n : ℕ) → capped (n + 1) ≡ capped (capped n + 1)
capped-more n = omega arith

-- ---- counts of reasons and of fates

-- A number plus another one if the condition holds.
abbrev raised : Bool → ℕ → ℕ → ℕ
raised true k n = n + k
raised false k n = n

raised-is : (b : Bool) (k n : ℕ) → n + cond b k 0 ≡ raised b k n
raised-is true k n = refl
raised-is false k n = omega arith

count-reasons : (reason : Reason) (xs ys : List Entry)
    → count_of_reason reason (xs ++ ys) ≡ count_of_reason reason xs + count_of_reason reason ys
count-reasons reason xs ys =
    sum_by-append (λ (e : Entry). cond (is_reason reason e.reason) 1 0) xs ys

-- Entries of one reason count for that reason as many as there are spans, and none for others.
count-named : (r reason : Reason) (spans : List SpanData)
    → count_of_reason r (map (entry_of reason) spans) ≡ cond (is_reason r reason) (length spans) 0
count-named r reason [] = go (is_reason r reason)
  where
    go : (b : Bool) → count_of_reason r [] ≡ cond b (length {A = SpanData} []) 0
    go true = refl
    go false = refl
count-named r reason (s ∷ spans) =
    count-reasons r (entry_of reason s ∷ []) (map (entry_of reason) spans)
    ∙ go (is_reason r reason) (count-named r reason spans)
  where
    go : (b : Bool) → count_of_reason r (map (entry_of reason) spans) ≡ cond b (length spans) 0
        → 0 + cond b 1 0 + count_of_reason r (map (entry_of reason) spans)
        ≡ cond b (length (s ∷ spans)) 0
    go true e = omega (arith, e)
    go false e = omega (arith, e)

counted : (r reason : Reason) (xs : List Entry) (spans : List SpanData)
    → count_of_reason r (xs ++ map (entry_of reason) spans)
    ≡ raised (is_reason r reason) (length spans) (count_of_reason r xs)
counted r reason xs spans =
    count-reasons r xs (map (entry_of reason) spans)
    ∙ ap (λ (n : ℕ). count_of_reason r xs + n) (count-named r reason spans)
    ∙ raised-is (is_reason r reason) (length spans) (count_of_reason r xs)

-- Each count is raised where it is that of the reason.
with-drops : (reason : Reason) (n : ℕ) (counts : DropCounts) → record {
  queue_full = raised (is_reason Reason.queue_full reason) n counts.queue_full;
  encode_memory = raised (is_reason Reason.encode_memory reason) n counts.encode_memory;
  too_large = raised (is_reason Reason.too_large reason) n counts.too_large;
  abandoned = raised (is_reason Reason.abandoned reason) n counts.abandoned;
} ≡ with_drops reason n counts
with-drops Reason.queue_full n counts = refl
with-drops Reason.encode_memory n counts = refl
with-drops Reason.too_large n counts = refl
with-drops Reason.abandoned n counts = refl
with-drops (Reason.refused status) n counts = refl
with-drops Reason.bad_reply n counts = refl
with-drops Reason.given_up n counts = refl
with-drops Reason.left_handed n counts = refl

-- Dropping spans for a reason raises the count of that reason by their number.
pub counts-more : (reason : Reason) (xs : List Entry) (spans : List SpanData)
    → drop_counts (xs ++ map (entry_of reason) spans)
    ≡ with_drops reason (length spans) (drop_counts xs)
counts-more reason xs spans = (λ i. record {
  queue_full = counted Reason.queue_full reason xs spans i;
  encode_memory = counted Reason.encode_memory reason xs spans i;
  too_large = counted Reason.too_large reason xs spans i;
  abandoned = counted Reason.abandoned reason xs spans i;
}) ∙ with-drops reason (length spans) (drop_counts xs)

of-kind : (kind : Fate) (h : List Fate) (fate : Fate)
    → count_by (is_fate kind) (h ++ fate ∷ [])
    ≡ raised (is_fate kind fate) 1 (count_by (is_fate kind) h)
of-kind kind h fate =
    count-more (is_fate kind) h fate ∙ raised-is (is_fate kind fate) 1 (count_by (is_fate kind) h)

with-fate : (fate : Fate) (counts : FateCounts) → record {
  delivered = raised (is_fate Fate.delivered fate) 1 counts.delivered;
  partial = raised (is_fate (Fate.partial (pos 0)) fate) 1 counts.partial;
  refused = raised (is_fate (Fate.refused 0) fate) 1 counts.refused;
  bad_reply = raised (is_fate Fate.bad_reply fate) 1 counts.bad_reply;
  given_up = raised (is_fate Fate.given_up fate) 1 counts.given_up;
  abandoned = raised (is_fate Fate.abandoned fate) 1 counts.abandoned;
} ≡ with_fate fate counts
with-fate Fate.delivered counts = refl
with-fate (Fate.partial rejected) counts = refl
with-fate (Fate.refused status) counts = refl
with-fate Fate.bad_reply counts = refl
with-fate Fate.given_up counts = refl
with-fate Fate.abandoned counts = refl

-- One more settled batch raises the count of its kind of fate by one.
pub fates-more : (xs : List Fate) (fate : Fate)
    → fate_counts (xs ++ fate ∷ []) ≡ with_fate fate (fate_counts xs)
fates-more xs fate = (λ i. record {
  delivered = of-kind Fate.delivered xs fate i;
  partial = of-kind (Fate.partial (pos 0)) xs fate i;
  refused = of-kind (Fate.refused 0) xs fate i;
  bad_reply = of-kind Fate.bad_reply xs fate i;
  given_up = of-kind Fate.given_up xs fate i;
  abandoned = of-kind Fate.abandoned xs fate i;
}) ∙ with-fate fate (fate_counts xs)

-- ---- the desk after each event

-- What a desk shows after one more event, each part by what the event says of it.
abbrev shown_after : DeskConfig → ℕ → List DeskEvent → DeskEvent → Desk
shown_after config made h x = record {
  config = config;
  waiting = drop_as (size_of_take x) (push_as (queued_span x) (waiting_spans h));
  out =
      out_as (unwrap_or (stage_by x) (stage h)) (one_as (size_of_take x) (last_batch h))
      (unwrap_or (size_of_take x) (last_size h));
  ledger = stack_on (ledger_entries h) (stack_steps is_popped entries_by h x);
  lost = stack_on (lost_entries h) (stack_steps is_popped_lost losses_by h x);
  next_ticket = one_as (ticket_of x) (length (tickets h));
  taken = plus_as (size_of_take x) (taken_count h);
  batches = one_as (size_of_take x) (last_batch h);
  asked = if asks x then length (accepted_spans h) else asked_count h;
  closed =
      (is_shutdown x || list_any is_shutdown h)
      || (one_as (ticket_of x) (length (tickets h)) == 2 ^ 64 - 1);
  last_moment = unwrap_or (moment_of_take x) (last_moment made h);
  handed = length_as (spans_handed_by h x) (length (handed_spans h));
  lost_count = length_as (losses_by h x) (length (losses h));
  late = capped (raised (is_late x) 1 (late_count h));
  dropped = drop_counts (after_as (entries_by h x) (drops h));
  fates = fate_counts (push_as (fate_by x) (fates h));
}

module _ (config : DeskConfig) (made : ℕ) (h : List DeskEvent) where
  shows : (x : DeskEvent) → IsWithin h
      → desk_of config made (h ++ x ∷ []) ≡ shown_after config made h x
  unfolding desk_of
  shows x w = λ i. record {
    config = config;
    waiting = (waiting-more h x w) i;
    out =
        out_as (last-after stage_by h x not_out i) (one-after size_of_take h x i)
        (last-after size_of_take h x 0 i);
    ledger = (ledger-more h x is_popped entries_by) i;
    lost = (ledger-more h x is_popped_lost losses_by) i;
    next_ticket = (one-after ticket_of h x) i;
    taken = (sum-after size_of_take h x) i;
    batches = (one-after size_of_take h x) i;
    asked = (asked-more h x) i;
    closed = (shut-more h x) i || (one-after ticket_of h x i == 2 ^ 64 - 1);
    last_moment = last-after moment_of_take h x made i;
    handed =
        (ap length (gather-more spans_handed_by h x)
        ∙ length-after (handed_spans h) (spans_handed_by h x))
        i;
    lost_count =
        (ap length (gather-more losses_by h x) ∙ length-after (losses h) (losses_by h x)) i;
    late = capped ((count-more is_late h x ∙ raised-is (is_late x) 1 (late_count h)) i);
    dropped =
        drop_counts ((gather-more entries_by h x ∙ sym (after-is (entries_by h x) (drops h))) i);
    fates = fate_counts (pushed-after fate_by h x i);
  }

  -- Where spans are admitted, a new ticket closes the queue just where it is the last one.
  still-open : is_closed h ≡ false
      → (list_any is_shutdown h || (length (tickets h) + 1 == 2 ^ 64 - 1))
      ≡ (length (tickets h) + 1 == 2 ^ 64 - 1)
  still-open c =
      ap (λ b. b || (length (tickets h) + 1 == 2 ^ 64 - 1))
      (or-none (list_any is_shutdown h) (length (tickets h) == 2 ^ 64 - 1) c)

  -- A queued span waits last and takes the next ticket, and the last possible ticket closes the
  -- queue.
  pub queued-makes : (s : SpanData) → IsWithin h → is_closed h ≡ false
      → desk_of config made (h ++ queued s ∷ [])
      ≡ record (desk_of config made h) {
        waiting = waiting_spans h ++ s ∷ [];
        next_ticket = length (tickets h) + 1;
        closed = length (tickets h) + 1 == 2 ^ 64 - 1;
      }
  unfolding desk_of
  queued-makes s w c =
      shows (queued s) w
      ∙ (λ i. record (shown_after config made h (queued s)) { closed = still-open c i })

  -- A span that finds the queue full is the newest in the ledger, is counted and takes a ticket.
  pub full-makes : (s : SpanData) → IsWithin h → is_closed h ≡ false
      → desk_of config made (h ++ full s ∷ [])
      ≡ record (desk_of config made h) {
        ledger = entry_of Reason.queue_full s ∷ ledger_entries h;
        next_ticket = length (tickets h) + 1;
        closed = length (tickets h) + 1 == 2 ^ 64 - 1;
        dropped = with_drops Reason.queue_full 1 (drop_counts (drops h));
      }
  unfolding desk_of
  full-makes s w c =
      shows (full s) w
      ∙ (λ i. record (shown_after config made h (full s))
      { closed = still-open c i; dropped = counts-more Reason.queue_full (drops h) (s ∷ []) i })

  -- A late span raises the count of late spans, which stops at its greatest number.
  pub late-makes : IsWithin h
      → desk_of config made (h ++ late ∷ [])
      ≡ record (desk_of config made h) { late = capped (capped (late_count h) + 1) }
  unfolding desk_of
  late-makes w =
      shows late w ∙ (λ i. record (desk_of config made h) { late = capped-more (late_count h) i })

  -- A flush asks for all spans accepted so far.
  pub flush-makes : IsWithin h
      → desk_of config made (h ++ flush ∷ [])
      ≡ record (desk_of config made h) { asked = taken_count h + length (waiting_spans h) }
  unfolding desk_of
  flush-makes w =
      shows flush w ∙ (λ i. record (desk_of config made h) { asked = accepted-adds h w i })

  -- A shutdown asks for all spans accepted so far and closes the queue.
  pub shutdown-makes : IsWithin h
      → desk_of config made (h ++ shutdown ∷ [])
      ≡ record (desk_of config made h)
      { asked = taken_count h + length (waiting_spans h); closed = true }
  unfolding desk_of
  shutdown-makes w =
      shows shutdown w
      ∙ (λ i. record (desk_of config made h) { asked = accepted-adds h w i; closed = true })

  -- A take moves the first waiting spans into a new batch, which is out and not handed.
  pub taken-makes : (now size : ℕ) → IsWithin h
      → desk_of config made (h ++ taken now size ∷ [])
      ≡ record (desk_of config made h) {
        waiting = drop size (waiting_spans h);
        out = Some (record { number = last_batch h + 1; size = size; is_handed = false });
        taken = taken_count h + size;
        batches = last_batch h + 1;
        last_moment = now;
      }
  unfolding desk_of
  taken-makes now size w = shows (taken now size) w

  -- A hand-over leaves the batch out and adds its size to the count of handed spans.
  pub handed-makes : IsWithin h
      → desk_of config made (h ++ handed ∷ [])
      ≡ record (desk_of config made h) {
        out = out_as with_exporter (last_batch h) (last_size h);
        handed = length (handed_spans h) + last_size h;
      }
  unfolding desk_of
  handed-makes w =
      shows handed w
      ∙ (λ i. record (shown_after config made h handed) {
        handed =
            (length-as-is (last_spans h) (length (handed_spans h))
            ∙ ap (λ (n : ℕ). length (handed_spans h) + n) (length-last h w))
            i;
      })

  -- A drop puts the batch's spans into the ledger, counts them for the reason and leaves no batch
  -- out.
  pub dropped-makes : (reason : Reason) → IsWithin h
      → desk_of config made (h ++ dropped reason ∷ [])
      ≡ record (desk_of config made h) {
        out = None;
        ledger = reverse (map (entry_of reason) (last_spans h)) ++ ledger_entries h;
        dropped = with_drops reason (length (last_spans h)) (drop_counts (drops h));
      }
  unfolding desk_of
  dropped-makes reason w = shows (dropped reason) w ∙ (λ i. record (desk_of config made h) {
    out = None;
    ledger = stack-pushes (ledger_entries h) (map (entry_of reason) (last_spans h)) i;
    dropped =
        (ap drop_counts (after-is (map (entry_of reason) (last_spans h)) (drops h))
        ∙ counts-more reason (drops h) (last_spans h))
        i;
  })

  -- Settling a batch with a fate leaves the desk that the model says for its spans.
  pub settled-makes : (fate : Fate) → IsWithin h
      → desk_of config made (h ++ settled fate ∷ [])
      ≡ after_settled fate (last_spans h) (desk_of config made h)
  unfolding desk_of
  settled-makes fate w =
      let names : List Entry = lost_names fate (last_spans h) in
      shows (settled fate) w ∙ (λ i. record (desk_of config made h) {
        out = None;
        lost = stack-pushes (lost_entries h) names i;
        lost_count = length-as-is names (length (losses h)) i;
        fates = fates-more (fates h) fate i;
      })

  -- A pop takes the newest entry off the ledger of dropped spans.
  pub popped-makes : IsWithin h
      → desk_of config made (h ++ popped ∷ [])
      ≡ record (desk_of config made h) { ledger = drop 1 (ledger_entries h) }
  unfolding desk_of
  popped-makes w = shows popped w

  -- A pop takes the newest entry off the ledger of lost spans.
  pub popped-lost-makes : IsWithin h
      → desk_of config made (h ++ popped_lost ∷ [])
      ≡ record (desk_of config made h) { lost = drop 1 (lost_entries h) }
  unfolding desk_of
  popped-lost-makes w = shows popped_lost w

-- ---- the same of any desk that is the result of some events

module _ (x : DeskEvent) (d : Desk) (after : Desk → Desk) (same : (after d).config ≡ d.config)
    (a : Allowed d x) where
  follows : (made : ℕ) (h : List DeskEvent) → IsDesk made h d
      → (IsWithin h → Allowed (desk_of d.config made h) x
      → desk_of d.config made (h ++ x ∷ []) ≡ after (desk_of d.config made h))
      → IsDesk made (h ++ x ∷ []) (after d)
  follows made h d_is makes =
      let b : Allowed (desk_of d.config made h) x = subst (λ (e : Desk). Allowed e x) d_is.is a in
      record {
        allowed =
            subst (λ (c : DeskConfig). AreAllowed c made (h ++ x ∷ [])) (sym same)
            (allowed-more d.config made h x d_is.allowed b);
        is =
            ap after d_is.is ∙ sym (makes (allowed-within d.config made h d_is.allowed) b)
            ∙ ap (λ (c : DeskConfig). desk_of c made (h ++ x ∷ [])) (sym same);
      }

-- A new desk is that of no event.
pub new_desk_is : (config : DeskConfig) (made : ℕ) → IsDesk made [] (new_desk config made)
unfolding desk_of AreAllowed
new_desk_is config made = record { allowed = tt; is = refl }

-- Pushing a span with the next ticket to the waiting ones is what a queued span does.
pub queued_does : (d : Desk) (s : SpanData) → Allowed d (queued s)
    → Does (queued s) d
    (record d {
      waiting = d.waiting ++ s ∷ [];
      next_ticket = d.next_ticket + 1;
      closed = d.next_ticket + 1 == 2 ^ 64 - 1;
    })
unfolding desk_of
queued_does d s a made h d_is =
    follows (queued s) d
    (λ e. record e {
      waiting = e.waiting ++ s ∷ [];
      next_ticket = e.next_ticket + 1;
      closed = e.next_ticket + 1 == 2 ^ 64 - 1;
    })
    refl a made h d_is
    (λ w b. queued-makes d.config made h s w b.0)

-- Naming a span in the ledger and counting it is what a span does where the queue is full.
pub full_does : (d : Desk) (s : SpanData) → Allowed d (full s)
    → Does (full s) d
    (record d {
      ledger = entry_of Reason.queue_full s ∷ d.ledger;
      next_ticket = d.next_ticket + 1;
      closed = d.next_ticket + 1 == 2 ^ 64 - 1;
      dropped = with_drops Reason.queue_full 1 d.dropped;
    })
unfolding desk_of
full_does d s a made h d_is =
    follows (full s) d
    (λ e. record e {
      ledger = entry_of Reason.queue_full s ∷ e.ledger;
      next_ticket = e.next_ticket + 1;
      closed = e.next_ticket + 1 == 2 ^ 64 - 1;
      dropped = with_drops Reason.queue_full 1 e.dropped;
    })
    refl a made h d_is
    (λ w b. full-makes d.config made h s w b.0)

-- Counting a span is what a late one does at a closed queue.
pub late_does : (d : Desk) → d.closed ≡ true → Does late d (record d { late = capped (d.late + 1) })
unfolding desk_of
late_does d a made h d_is =
    follows late d (λ e. record e { late = capped (e.late + 1) }) refl a made h d_is
    (λ w b. late-makes d.config made h w)

-- Asking for all accepted spans is what a flush does.
pub flush_does : (d : Desk) → Does flush d (record d { asked = accepted_count d })
unfolding desk_of
flush_does d made h d_is =
    follows flush d (λ e. record e { asked = accepted_count e }) refl tt made h d_is
    (λ w b. flush-makes d.config made h w)

-- Asking for all accepted spans and closing the queue is what a shutdown does.
pub shutdown_does : (d : Desk)
    → Does shutdown d (record d { asked = accepted_count d; closed = true })
unfolding desk_of
shutdown_does d made h d_is =
    follows shutdown d
    (λ e. record e { asked = accepted_count e; closed = true }) refl tt made h d_is
    (λ w b. shutdown-makes d.config made h w)

in-hand-stage : (s : Stage) (number size : ℕ) → is_in_hand (out_as s number size) ≡ true
    → s ≡ in_hand
in-hand-stage not_out number size e = absurd (true≢false (sym e))
in-hand-stage in_hand number size e = refl
in-hand-stage with_exporter number size e = absurd (true≢false (sym e))

-- Marking the batch that is out as handed, and counting its spans, is what a hand-over does.
pub handed_does : (d : Desk) → is_in_hand d.out ≡ true
    → Does handed d (record d { out = handed_out d.out; handed = d.handed + out_size d.out })
unfolding desk_of
handed_does d a made h d_is =
    follows handed d
    (λ e. record e { out = handed_out e.out; handed = e.handed + out_size e.out }) refl a made h
    d_is
    (λ w b. handed-makes d.config made h w
    ∙ sym (ap (λ s. record (desk_of d.config made h) {
      out = handed_out (out_as s (last_batch h) (last_size h));
      handed = length (handed_spans h) + out_size (out_as s (last_batch h) (last_size h));
    })
    (in-hand-stage (stage h) (last_batch h) (last_size h) b)))

-- Naming a batch's spans in the ledger and counting them is what dropping the batch does.
pub dropped_does : (d : Desk) (reason : Reason) (spans : List SpanData) → Allowed d (dropped reason)
    → DropsSpans reason spans d
    (record d {
      out = None;
      ledger = reverse (map (entry_of reason) spans) ++ d.ledger;
      dropped = with_drops reason (length spans) d.dropped;
    })
unfolding desk_of
dropped_does d reason spans a made h d_is e =
    follows (dropped reason) d
    (λ f. record f {
      out = None;
      ledger = reverse (map (entry_of reason) spans) ++ f.ledger;
      dropped = with_drops reason (length spans) f.dropped;
    })
    refl a made h d_is
    (λ w b. dropped-makes d.config made h reason w
    ∙ sym (ap (λ ss. record (desk_of d.config made h) {
      out = None;
      ledger = reverse (map (entry_of reason) ss) ++ ledger_entries h;
      dropped = with_drops reason (length ss) (drop_counts (drops h));
    })
    e))

-- Where no span is lost, it makes no difference which spans the batch has.
same-names : (fate : Fate) (xs ys : List SpanData) → (is_loss fate ≡ true → xs ≡ ys)
    → lost_names fate xs ≡ lost_names fate ys
same-names Fate.delivered xs ys e = refl
same-names (Fate.partial rejected) xs ys e = refl
same-names (Fate.refused status) xs ys e = ap (lost_names (Fate.refused status)) (e refl)
same-names Fate.bad_reply xs ys e = ap (lost_names Fate.bad_reply) (e refl)
same-names Fate.given_up xs ys e = ap (lost_names Fate.given_up) (e refl)
same-names Fate.abandoned xs ys e = ap (lost_names Fate.abandoned) (e refl)

-- The model's desk after a settled batch is what settling the batch does.
pub settled_does : (d : Desk) (fate : Fate) (spans : List SpanData) → is_with_exporter d.out ≡ true
    → SettlesSpans fate spans d (after_settled fate spans d)
unfolding desk_of
settled_does d fate spans a made h d_is e =
    follows (settled fate) d (after_settled fate spans) refl a made h d_is
    (λ w b. settled-makes d.config made h fate w
    ∙ sym (ap (λ (names : List Entry). record (desk_of d.config made h) {
      out = None;
      lost = reverse names ++ lost_entries h;
      lost_count = length (losses h) + length names;
      fates = with_fate fate (fate_counts (fates h));
    })
    (same-names fate spans (last_spans h) e)))

-- Taking off the ledger's newest entry is what a pop does.
pub popped_does : (d : Desk) → Does popped d (record d { ledger = drop 1 d.ledger })
unfolding desk_of
popped_does d made h d_is =
    follows popped d (λ e. record e { ledger = drop 1 e.ledger }) refl tt made h d_is
    (λ w b. popped-makes d.config made h w)

-- Taking off the newest entry of the ledger of lost spans is what a pop of lost spans does.
pub popped_lost_does : (d : Desk) → Does popped_lost d (record d { lost = drop 1 d.lost })
unfolding desk_of
popped_lost_does d made h d_is =
    follows popped_lost d (λ e. record e { lost = drop 1 e.lost }) refl tt made h d_is
    (λ w b. popped-lost-makes d.config made h w)

-- The desk after a batch of this size is taken at this moment.
abbrev after_take : ℕ → ℕ → Desk → Desk
after_take now size d = record d {
  waiting = drop size d.waiting;
  out = Some (record { number = d.batches + 1; size = size; is_handed = false });
  taken = d.taken + size;
  batches = d.batches + 1;
  last_moment = now;
}

-- Making a batch of the first waiting spans is what a take does, and the batch has these spans.
pub taken_does : (d : Desk) (now size : ℕ) → Allowed d (taken now size)
    → TakesSpans now (take size d.waiting) d (after_take now size d)
unfolding desk_of
taken_does d now size a made h d_is =
    let e : length (take size d.waiting) ≡ size =
    length-take size d.waiting
    ∙ (let m : size ≡ min d.config.batch (length d.waiting) = a.2 in
    let n : min size (length d.waiting) ≡ size = omega (arith, m) in
    n) in
    let w : IsWithin h = allowed-within d.config made h d_is.allowed in
    let is : IsDesk made (h ++ taken now size ∷ []) (after_take now size d) =
    follows (taken now size) d (after_take now size) refl a made h d_is
    (λ v b. taken-makes d.config made h now size v) in (
      subst (λ (n : ℕ). IsDesk made (h ++ taken now n ∷ []) (after_take now size d)) (sym e) is,
      ap (λ (f : Desk). take size f.waiting) d_is.is ∙ sym (last-taken h now size w)
          ∙ ap (λ (n : ℕ). last_spans (h ++ taken now n ∷ [])) (sym e),
    )
