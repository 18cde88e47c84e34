-- Tickets are given in order, and each is in one place.
use Rattle.std.proofs.Common.{◌≡◌, refl, sym, ap, ◌∙◌, ℕ, zero, suc, ◌+◌, ◌<◌, ◌≤◌, nat_lt, arith}
use Rattle.std.proofs.Common.{List, [], ◌∷◌, ◌++◌, length, take, drop, Bool, true, true≢false, cond}
use Rattle.std.proofs.Common.{Some, None, ◌⊎◌, inl, inr, length-append}
use Rattle.std.specs.Prelude.{◌==◌, count_by, map, if◌then◌else◌}
use Rattle.std.specs.List.{range_with_len}
use Rattle.std.proofs.lemmas.List.{map-append, take-map, drop-map}
use Rattle.std.proofs.lemmas.List.Sums.{sum_by-append, sum_by-take-drop}
use Rattle.std.proofs.lemmas.Bool.{cases_order, lt-ltb, le-ltb, eq-eqb, ne_eqb}
use Rattle.model_span.specs.Spans.{SpanData}
use Rattle.model_span.specs.Dropped.{Reason, Entry, entry_of}
use Rattle.model_desk.specs.Queue.{DeskEvent, queued, full, late, flush, shutdown, taken, handed}
use Rattle.model_desk.specs.Queue.{dropped, settled, popped, popped_lost, ticket_of, tickets}
use Rattle.model_desk.specs.Queue.{queued_span, size_of_take, waiting_spans, last_batch, last_spans}
use Rattle.model_desk.specs.Queue.{last_size, Stage, not_out, in_hand, with_exporter, stage_by}
use Rattle.model_desk.specs.Queue.{stage, spans_handed_by, handed_spans, in_hand_as, in_hand_spans}
use Rattle.model_desk.specs.Queue.{entries_by, drops}
use Rattle.model_desk.specs.Desks.{DeskConfig, out_as, is_in_hand, is_with_exporter, desk_of}
use Rattle.model_desk.specs.Desks.{Allowed}
use Rattle.model_desk.proofs.Lists.{some-more, gather-more}
use Rattle.model_desk.proofs.Steps.{IsWithin, waiting-kept, tickets-kept, stage-kept, stage-told}
use Rattle.model_desk.proofs.Steps.{handed-kept, drops-kept, last-kept, waiting-queued, last-queued}
use Rattle.model_desk.proofs.Steps.{waiting-taken, last-taken, by-steps, within-step}
use Rattle.model_run.proofs.Batches.{range-more}
use Rattle.model_run.specs.Queues.{TicketsAreGivenInOrder, places, times, EachTicketOnce}

-- ---- in order

abbrev InOrder : List ℕ → Type 0
InOrder ts = ts ≡ range_with_len 0 (length ts)

order-more : (ts : List ℕ) (t : ℕ) → InOrder ts → t ≡ length ts → InOrder (ts ++ t ∷ [])
order-more ts t o e =
    let n : length (ts ++ t ∷ []) ≡ suc (length ts) =
    length-append ts (t ∷ []) ∙ (let s : length ts + 1 ≡ suc (length ts) = omega arith in s) in
    let k : t ≡ 0 + length ts = omega (arith, e) in
    (λ i. o i ++ k i ∷ []) ∙ sym (range-more 0 (length ts)) ∙ ap (range_with_len 0) (sym n)

order-kept : (h : List DeskEvent) (x : DeskEvent) → ticket_of x ≡ None → InOrder (tickets h)
    → InOrder (tickets (h ++ x ∷ []))
order-kept h x e o =
    tickets-kept h x e ∙ o ∙ ap (λ ts. range_with_len 0 (length ts)) (sym (tickets-kept h x e))

order-given : (h : List DeskEvent) (x : DeskEvent) (t : ℕ) → ticket_of x ≡ Some t
    → t ≡ length (tickets h) → InOrder (tickets h) → InOrder (tickets (h ++ x ∷ []))
order-given h x t e n o =
    some-more ticket_of h x t e ∙ order-more (tickets h) t o n
    ∙ ap (λ ts. range_with_len 0 (length ts)) (sym (some-more ticket_of h x t e))

order-step : (config : DeskConfig) (made : ℕ) (h : List DeskEvent) (x : DeskEvent)
    → InOrder (tickets h) → Allowed (desk_of config made h) x → InOrder (tickets (h ++ x ∷ []))
unfolding desk_of
order-step config made h (queued s) o a = order-given h (queued s) s.ticket refl a.2 o
order-step config made h (full s) o a = order-given h (full s) s.ticket refl a.2 o
order-step config made h late o a = order-kept h late refl o
order-step config made h flush o a = order-kept h flush refl o
order-step config made h shutdown o a = order-kept h shutdown refl o
order-step config made h (taken now size) o a = order-kept h (taken now size) refl o
order-step config made h handed o a = order-kept h handed refl o
order-step config made h (dropped r) o a = order-kept h (dropped r) refl o
order-step config made h (settled f) o a = order-kept h (settled f) refl o
order-step config made h popped o a = order-kept h popped refl o
order-step config made h popped_lost o a = order-kept h popped_lost refl o

-- Tickets are given from 0 on, each once and in order.
pub tickets-in-order : TicketsAreGivenInOrder
tickets-in-order config made h w =
    by-steps config made (λ g. InOrder (tickets g)) (order-step config made) h refl w

-- ---- places

not-out : (s : Stage) (number size : ℕ) → out_as s number size ≡ None → s ≡ not_out
not-out not_out number size e = refl
not-out in_hand number size e = cc
not-out with_exporter number size e = cc

is-in-hand : (s : Stage) (number size : ℕ) → is_in_hand (out_as s number size) ≡ true → s ≡ in_hand
is-in-hand not_out number size e = absurd (true≢false (sym e))
is-in-hand in_hand number size e = refl
is-in-hand with_exporter number size e = absurd (true≢false (sym e))

is-with-exporter : (s : Stage) (number size : ℕ) → is_with_exporter (out_as s number size) ≡ true
    → s ≡ with_exporter
is-with-exporter not_out number size e = absurd (true≢false (sym e))
is-with-exporter in_hand number size e = absurd (true≢false (sym e))
is-with-exporter with_exporter number size e = refl

abbrev own : SpanData → ℕ
own s = s.ticket

abbrev own_entry : Entry → ℕ
own_entry e = e.ticket

-- Of the tickets that pass a test, as many are in the places as were given.
module _ (p : ℕ → Bool) where
  abbrev count : List ℕ → ℕ
  count ts = count_by p ts

  abbrev of_spans : List SpanData → ℕ
  of_spans spans = count (map own spans)

  abbrev of_entries : List Entry → ℕ
  of_entries es = count (map own_entry es)

  abbrev total : List SpanData → List SpanData → List SpanData → List Entry → ℕ
  total waiting hand with_it out =
      of_spans waiting + of_spans hand + of_spans with_it + of_entries out

  abbrev Matches : List DeskEvent → Type 0
  Matches h =
      total (waiting_spans h) (in_hand_spans h) (handed_spans h) (drops h) ≡ count (tickets h)

  append : (xs ys : List ℕ) → count (xs ++ ys) ≡ count xs + count ys
  append xs ys = sum_by-append (λ (t : ℕ). cond (p t) 1 0) xs ys

  spans-append : (xs ys : List SpanData) → of_spans (xs ++ ys) ≡ of_spans xs + of_spans ys
  spans-append xs ys = ap count (map-append own xs ys) ∙ append (map own xs) (map own ys)

  entries-append : (xs ys : List Entry) → of_entries (xs ++ ys) ≡ of_entries xs + of_entries ys
  entries-append xs ys =
      ap count (map-append own_entry xs ys) ∙ append (map own_entry xs) (map own_entry ys)

  -- The entries of spans have the spans' tickets.
  named : (reason : Reason) (spans : List SpanData)
      → map own_entry (map (entry_of reason) spans) ≡ map own spans
  named reason [] = refl
  named reason (s ∷ spans) = ap (λ l. s.ticket ∷ l) (named reason spans)

  split : (n : ℕ) (xs : List SpanData) → of_spans (take n xs) + of_spans (drop n xs) ≡ of_spans xs
  split n xs =
      (λ i. count (sym (take-map own n xs) i) + count (sym (drop-map own n xs) i))
      ∙ sum_by-take-drop (λ (t : ℕ). cond (p t) 1 0) (map own xs) n

  tickets-given : (h : List DeskEvent) (x : DeskEvent) (t : ℕ) → ticket_of x ≡ Some t
      → count (tickets (h ++ x ∷ [])) ≡ count (tickets h) + count (t ∷ [])
  tickets-given h x t e = ap count (some-more ticket_of h x t e) ∙ append (tickets h) (t ∷ [])

  -- An event that gives no ticket, and after which these spans are in hand, keeps the two counts
  -- equal.
  moved : (h : List DeskEvent) (x : DeskEvent) (hand : List SpanData) → ticket_of x ≡ None
      → size_of_take x ≡ None → queued_span x ≡ None → in_hand_spans (h ++ x ∷ []) ≡ hand
      → of_spans (in_hand_spans h)
      ≡ of_spans hand + of_spans (spans_handed_by h x) + of_entries (entries_by h x)
      → Matches h → Matches (h ++ x ∷ [])
  moved h x hand t z q e sums k =
      let w : of_spans (waiting_spans (h ++ x ∷ [])) ≡ of_spans (waiting_spans h) =
      ap of_spans (waiting-kept h x z q) in
      let i : of_spans (in_hand_spans (h ++ x ∷ [])) ≡ of_spans hand = ap of_spans e in
      let g : of_spans (handed_spans (h ++ x ∷ []))
      ≡ of_spans (handed_spans h) + of_spans (spans_handed_by h x) =
      ap of_spans (gather-more spans_handed_by h x)
      ∙ spans-append (handed_spans h) (spans_handed_by h x) in
      let d : of_entries (drops (h ++ x ∷ []))
      ≡ of_entries (drops h) + of_entries (entries_by h x) =
      ap of_entries (gather-more entries_by h x) ∙ entries-append (drops h) (entries_by h x) in
      let n : count (tickets (h ++ x ∷ [])) ≡ count (tickets h) = ap count (tickets-kept h x t) in
      omega (arith, w, i, g, d, n, sums, k)

  -- An event that takes no batch, queues no span and says nothing of the batch leaves it in hand.
  hand-kept : (h : List DeskEvent) (x : DeskEvent) → size_of_take x ≡ None → queued_span x ≡ None
      → stage_by x ≡ None → in_hand_spans (h ++ x ∷ []) ≡ in_hand_spans h
  hand-kept h x z q s = λ i. in_hand_as (stage-kept h x s i) (last-kept h x z q i)

  still : (h : List DeskEvent) (x : DeskEvent) → ticket_of x ≡ None → size_of_take x ≡ None
      → queued_span x ≡ None → stage_by x ≡ None → spans_handed_by h x ≡ [] → entries_by h x ≡ []
      → Matches h → Matches (h ++ x ∷ [])
  still h x t z q s g d k = moved h x (in_hand_spans h) t z q (hand-kept h x z q s)
      (let a : of_spans (spans_handed_by h x) ≡ 0 = ap of_spans g in
      let b : of_entries (entries_by h x) ≡ 0 = ap of_entries d in
      let e : of_spans (in_hand_spans h)
      ≡ of_spans (in_hand_spans h) + of_spans (spans_handed_by h x) + of_entries (entries_by h x) =
      omega (arith, a, b) in
      e)
      k

  -- The spans in hand are known from the stage of the batch.
  in-hand-at : (h : List DeskEvent) (s : Stage) → stage h ≡ s
      → in_hand_spans h ≡ in_hand_as s (last_spans h)
  in-hand-at h s e = ap (λ r. in_hand_as r (last_spans h)) e

  step : (config : DeskConfig) (made : ℕ) (h : List DeskEvent) (x : DeskEvent) → IsWithin h
      → Allowed (desk_of config made h) x → Matches h → Matches (h ++ x ∷ [])
  unfolding desk_of
  step config made h (queued s) v a k =
      let w : of_spans (waiting_spans (h ++ queued s ∷ []))
      ≡ of_spans (waiting_spans h) + count (s.ticket ∷ []) =
      ap of_spans (waiting-queued h s v) ∙ spans-append (waiting_spans h) (s ∷ []) in
      let i : of_spans (in_hand_spans (h ++ queued s ∷ [])) ≡ of_spans (in_hand_spans h) =
      (λ j. of_spans (in_hand_as (stage-kept h (queued s) refl j) (last-queued h s v j))) in
      let g : of_spans (handed_spans (h ++ queued s ∷ [])) ≡ of_spans (handed_spans h) =
      ap of_spans (handed-kept h (queued s) refl) in
      let d : of_entries (drops (h ++ queued s ∷ [])) ≡ of_entries (drops h) =
      ap of_entries (drops-kept h (queued s) refl) in
      omega (arith, w, i, g, d, tickets-given h (queued s) s.ticket refl, k)
  step config made h (full s) v a k =
      let w : of_spans (waiting_spans (h ++ full s ∷ [])) ≡ of_spans (waiting_spans h) =
      ap of_spans (waiting-kept h (full s) refl refl) in
      let i : of_spans (in_hand_spans (h ++ full s ∷ [])) ≡ of_spans (in_hand_spans h) =
      ap of_spans (hand-kept h (full s) refl refl refl) in
      let g : of_spans (handed_spans (h ++ full s ∷ [])) ≡ of_spans (handed_spans h) =
      ap of_spans (handed-kept h (full s) refl) in
      let d : of_entries (drops (h ++ full s ∷ [])) ≡ of_entries (drops h) + count (s.ticket ∷ []) =
      ap of_entries (gather-more entries_by h (full s))
      ∙ entries-append (drops h) (entries_by h (full s)) in
      omega (arith, w, i, g, d, tickets-given h (full s) s.ticket refl, k)
  step config made h (taken now size) v a k =
      let w : of_spans (waiting_spans (h ++ taken now size ∷ []))
      ≡ of_spans (drop size (waiting_spans h)) =
      ap of_spans (waiting-taken h now size) in
      let i : of_spans (in_hand_spans (h ++ taken now size ∷ []))
      ≡ of_spans (take size (waiting_spans h)) =
      (λ j. of_spans
      (in_hand_as (stage-told h (taken now size) in_hand refl j) (last-taken h now size v j))) in
      let before : of_spans (in_hand_spans h) ≡ 0 =
      ap of_spans (in-hand-at h not_out (not-out (stage h) (last_batch h) (last_size h) a.1)) in
      let g : of_spans (handed_spans (h ++ taken now size ∷ [])) ≡ of_spans (handed_spans h) =
      ap of_spans (handed-kept h (taken now size) refl) in
      let d : of_entries (drops (h ++ taken now size ∷ [])) ≡ of_entries (drops h) =
      ap of_entries (drops-kept h (taken now size) refl) in
      let n : count (tickets (h ++ taken now size ∷ [])) ≡ count (tickets h) =
      ap count (tickets-kept h (taken now size) refl) in
      omega (arith, w, i, before, g, d, n, split size (waiting_spans h), k)
  step config made h handed v a k = moved h handed [] refl refl refl
      (ap (λ r. in_hand_as r (last_spans (h ++ handed ∷ [])))
      (stage-told h handed with_exporter refl))
      (let b : of_spans (in_hand_spans h) ≡ of_spans (last_spans h) =
      ap of_spans (in-hand-at h in_hand (is-in-hand (stage h) (last_batch h) (last_size h) a)) in
      let e : of_spans (in_hand_spans h) ≡ 0 + of_spans (last_spans h) + 0 = omega (arith, b) in
      e)
      k
  step config made h (dropped r) v a k = moved h (dropped r) [] refl refl refl
      (ap (λ q. in_hand_as q (last_spans (h ++ dropped r ∷ [])))
      (stage-told h (dropped r) not_out refl))
      (let b : of_spans (in_hand_spans h) ≡ of_spans (last_spans h) =
      ap of_spans (in-hand-at h in_hand (is-in-hand (stage h) (last_batch h) (last_size h) a.0)) in
      let c : of_entries (entries_by h (dropped r)) ≡ of_spans (last_spans h) =
      ap count (named r (last_spans h)) in
      let e : of_spans (in_hand_spans h) ≡ 0 + 0 + of_entries (entries_by h (dropped r)) =
      omega (arith, b, c) in
      e)
      k
  step config made h (settled f) v a k = moved h (settled f) [] refl refl refl
      (ap (λ r. in_hand_as r (last_spans (h ++ settled f ∷ [])))
      (stage-told h (settled f) not_out refl))
      (let b : of_spans (in_hand_spans h) ≡ 0 =
      ap of_spans
      (in-hand-at h with_exporter (is-with-exporter (stage h) (last_batch h) (last_size h) a)) in
      b)
      k
  step config made h late v a k = still h late refl refl refl refl refl refl k
  step config made h flush v a k = still h flush refl refl refl refl refl refl k
  step config made h shutdown v a k = still h shutdown refl refl refl refl refl refl k
  step config made h popped v a k = still h popped refl refl refl refl refl refl k
  step config made h popped_lost v a k = still h popped_lost refl refl refl refl refl refl k

  -- The count of tickets in all places is the sum of the counts in each place.
  pub in-places : (h : List DeskEvent)
      → count (places h) ≡ total (waiting_spans h) (in_hand_spans h) (handed_spans h) (drops h)
  in-places h =
      let ws : List ℕ = map own (waiting_spans h) in
      let is : List ℕ = map own (in_hand_spans h) in
      let hs : List ℕ = map own (handed_spans h) in
      let ds : List ℕ = map own_entry (drops h) in
      append (ws ++ is ++ hs) ds
      ∙ ap (λ (n : ℕ). n + count ds)
      (append (ws ++ is) hs ∙ ap (λ (n : ℕ). n + count hs) (append ws is))

record Account (p : ℕ → Bool) (h : List DeskEvent) : Type 0 where
  within : IsWithin h
  matches : Matches p h

account : (p : ℕ → Bool) (config : DeskConfig) (made : ℕ) (h : List DeskEvent) (x : DeskEvent)
    → Account p h → Allowed (desk_of config made h) x → Account p (h ++ x ∷ [])
account p config made h x k a = record {
  within = within-step config made h x k.within a;
  matches = step p config made h x k.within a k.matches;
}

-- ---- once

next-once : (t n : ℕ)
    → (if nat_lt t n then 1 else 0) + (0 + (if n == t then 1 else 0))
    ≡ (if nat_lt t (suc n) then 1 else 0)
next-once t n = go (cases_order t n)
  where
    go : (t ≡ n) ⊎ ((t < n) ⊎ (n < t))
        → (if nat_lt t n then 1 else 0) + (0 + (if n == t then 1 else 0))
        ≡ (if nat_lt t (suc n) then 1 else 0)
    go (inl e) =
        let a : t < suc n = omega arith in
        let b : n ≤ t = omega arith in
        rw (lt-ltb t (suc n) a, le-ltb t n b, eq-eqb n t (sym e)) refl
    go (inr (inl h)) =
        let a : t < suc n = omega arith in
        rw (lt-ltb t (suc n) a, lt-ltb t n h, ne_eqb n t (λ q. absurd (omega (arith, h, q)))) refl
    go (inr (inr h)) =
        let a : suc n ≤ t = omega arith in
        let b : n ≤ t = omega arith in
        rw (le-ltb t (suc n) a, le-ltb t n b, ne_eqb n t (λ q. absurd (omega (arith, h, q)))) refl

-- A number is once among those below a bound if it is below the bound, else not at all.
pub times-below : (t n : ℕ) → times t (range_with_len 0 n) ≡ (if nat_lt t n then 1 else 0)
times-below t zero = let a : 0 ≤ t = omega arith in rw (le-ltb t 0 a) refl
times-below t (suc n) =
    ap (times t)
    (range-more 0 n
    ∙ ap (λ (k : ℕ). range_with_len 0 n ++ k ∷ []) (let z : 0 + n ≡ n = omega arith in z))
    ∙ sum_by-append (λ (u : ℕ). cond (u == t) 1 0) (range_with_len 0 n) (n ∷ [])
    ∙ ap (λ (k : ℕ). k + (0 + (if n == t then 1 else 0))) (times-below t n) ∙ next-once t n

-- Each ticket that was given is in one of the places, once, and no other ticket is.
pub each-once : EachTicketOnce
each-once config made h w ticket =
    let p : ℕ → Bool = λ t. t == ticket in
    let k : Account p h =
    by-steps config made (Account p) (account p config made) h
    (record { within = omega arith; matches = refl }) w in
    in-places p h ∙ k.matches ∙ ap (times ticket) (tickets-in-order config made h w)
    ∙ times-below ticket (length (tickets h))
