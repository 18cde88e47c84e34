-- The counts that a desk shows add up.
use Rattle.std.proofs.Common.{◌≡◌, refl, sym, ap, ◌∙◌, subst, ℕ, ◌+◌, ◌<◌, ◌≤◌, arith, List, []}
use Rattle.std.proofs.Common.{◌∷◌, ◌++◌, length, true, true≢false, length-append}
use Rattle.std.proofs.Common.{length-drop}
use Rattle.model_span.specs.Spans.{SpanData}
use Rattle.model_span.specs.Dropped.{Reason, can_drop_batch}
use Rattle.model_desk.specs.Queue.{DeskEvent, queued, full, late, flush, shutdown, taken, handed}
use Rattle.model_desk.specs.Queue.{dropped, settled, popped, popped_lost, accepted_spans}
use Rattle.model_desk.specs.Queue.{taken_count, waiting_spans, last_batch, last_spans, last_size}
use Rattle.model_desk.specs.Queue.{handed_spans, stage, Stage, not_out, in_hand, with_exporter}
use Rattle.model_desk.specs.Queue.{drops}
use Rattle.model_desk.specs.Desks.{DeskConfig, DropCounts, Desk, with_drops, worker_drops}
use Rattle.model_desk.specs.Desks.{in_hand_size, out_as, is_in_hand, is_with_exporter, drop_counts}
use Rattle.model_desk.specs.Desks.{desk_of, Allowed}
use Rattle.model_desk.proofs.Steps.{IsWithin, accepted-kept, waiting-kept, accepted-queued}
use Rattle.model_desk.proofs.Steps.{waiting-queued, waiting-taken, accepted-adds, length-last}
use Rattle.model_desk.proofs.Steps.{by-steps, within-step, allowed-within}
use Rattle.model_desk.proofs.Events.{queued-makes, full-makes, late-makes, flush-makes}
use Rattle.model_desk.proofs.Events.{shutdown-makes, taken-makes, handed-makes, dropped-makes}
use Rattle.model_desk.proofs.Events.{settled-makes, popped-makes, popped-lost-makes}
use Rattle.model_run.specs.Queues.{TicketsAddUp, AcceptedAddUp, TakenAddUp, QueueIsBounded}

-- The accepted spans are as many as the taken and the waiting ones together.
pub accepted-add-up : AcceptedAddUp
unfolding desk_of
accepted-add-up config made h w = accepted-adds h (allowed-within config made h w)

-- ---- the taken spans

abbrev AddsUp : Desk → Type 0
AddsUp d = d.taken ≡ d.handed + worker_drops d.dropped + in_hand_size d.out

in-hand-of : (s : Stage) (number size : ℕ) → is_in_hand (out_as s number size) ≡ true
    → in_hand_size (out_as s number size) ≡ size
in-hand-of not_out number size e = absurd (true≢false (sym e))
in-hand-of in_hand number size e = refl
in-hand-of with_exporter number size e = absurd (true≢false (sym e))

handed-none : (s : Stage) (number size : ℕ) → is_with_exporter (out_as s number size) ≡ true
    → in_hand_size (out_as s number size) ≡ 0
handed-none not_out number size e = absurd (true≢false (sym e))
handed-none in_hand number size e = absurd (true≢false (sym e))
handed-none with_exporter number size e = refl

worker-more : (reason : Reason) (n : ℕ) (counts : DropCounts) → can_drop_batch reason ≡ true
    → worker_drops (with_drops reason n counts) ≡ worker_drops counts + n
worker-more Reason.encode_memory n counts e = omega arith
worker-more Reason.too_large n counts e = omega arith
worker-more Reason.abandoned n counts e = omega arith
worker-more reason n counts e = cc

record Adds (config : DeskConfig) (made : ℕ) (h : List DeskEvent) : Type 0 where
  within : IsWithin h
  adds : AddsUp (desk_of config made h)

adds-step : (config : DeskConfig) (made : ℕ) (h : List DeskEvent) (x : DeskEvent) → IsWithin h
    → AddsUp (desk_of config made h) → Allowed (desk_of config made h) x
    → AddsUp (desk_of config made (h ++ x ∷ []))
unfolding desk_of
adds-step config made h (queued s) w k a = subst AddsUp (sym (queued-makes config made h s w a.0)) k
adds-step config made h (full s) w k a = subst AddsUp (sym (full-makes config made h s w a.0)) k
adds-step config made h late w k a = subst AddsUp (sym (late-makes config made h w)) k
adds-step config made h flush w k a = subst AddsUp (sym (flush-makes config made h w)) k
adds-step config made h shutdown w k a = subst AddsUp (sym (shutdown-makes config made h w)) k
adds-step config made h (taken now size) w k a =
    let none : in_hand_size (out_as (stage h) (last_batch h) (last_size h)) ≡ 0 =
    ap in_hand_size a.1 in
    let sums : taken_count h + size
    ≡ length (handed_spans h) + worker_drops (drop_counts (drops h)) + size =
    omega (arith, none, k) in
    subst AddsUp (sym (taken-makes config made h now size w)) sums
adds-step config made h handed w k a =
    let all : in_hand_size (out_as (stage h) (last_batch h) (last_size h)) ≡ last_size h =
    in-hand-of (stage h) (last_batch h) (last_size h) a in
    let sums : taken_count h
    ≡ length (handed_spans h) + last_size h + worker_drops (drop_counts (drops h)) + 0 =
    omega (arith, all, k) in
    subst AddsUp (sym (handed-makes config made h w)) sums
adds-step config made h (dropped reason) w k a =
    let all : in_hand_size (out_as (stage h) (last_batch h) (last_size h)) ≡ last_size h =
    in-hand-of (stage h) (last_batch h) (last_size h) a.0 in
    let more : worker_drops (with_drops reason (length (last_spans h)) (drop_counts (drops h)))
    ≡ worker_drops (drop_counts (drops h)) + length (last_spans h) =
    worker-more reason (length (last_spans h)) (drop_counts (drops h)) a.1 in
    let sums : taken_count h
    ≡ length (handed_spans h)
    + worker_drops (with_drops reason (length (last_spans h)) (drop_counts (drops h))) + 0 =
    omega (arith, all, more, length-last h w, k) in
    subst AddsUp (sym (dropped-makes config made h reason w)) sums
adds-step config made h (settled fate) w k a =
    let none : in_hand_size (out_as (stage h) (last_batch h) (last_size h)) ≡ 0 =
    handed-none (stage h) (last_batch h) (last_size h) a in
    let sums : taken_count h ≡ length (handed_spans h) + worker_drops (drop_counts (drops h)) + 0 =
    omega (arith, none, k) in
    subst AddsUp (sym (settled-makes config made h fate w)) sums
adds-step config made h popped w k a = subst AddsUp (sym (popped-makes config made h w)) k
adds-step config made h popped_lost w k a = subst AddsUp (sym (popped-lost-makes config made h w)) k

adds-none : (config : DeskConfig) (made : ℕ) → Adds config made []
unfolding desk_of
adds-none config made = record { within = omega arith; adds = refl }

-- The taken spans are as many as those handed, those dropped from batches and those in hand.
pub taken-add-up : TakenAddUp
taken-add-up config made h w =
    let k : Adds config made h =
    by-steps config made (Adds config made)
    (λ g x b a. record {
      within = within-step config made g x b.within a;
      adds = adds-step config made g x b.within b.adds a;
    })
    h
    (adds-none config made) w in
    k.adds

-- ---- tickets

abbrev Given : List SpanData → Desk → Type 0
Given accepted d = d.next_ticket ≡ length accepted + d.dropped.queue_full

record Gives (config : DeskConfig) (made : ℕ) (h : List DeskEvent) : Type 0 where
  within : IsWithin h
  gives : Given (accepted_spans h) (desk_of config made h)

given-same : (config : DeskConfig) (made : ℕ) (h : List DeskEvent) (x : DeskEvent) (d : Desk)
    → accepted_spans (h ++ x ∷ []) ≡ accepted_spans h → desk_of config made (h ++ x ∷ []) ≡ d
    → Given (accepted_spans h) d
    → Given (accepted_spans (h ++ x ∷ [])) (desk_of config made (h ++ x ∷ []))
given-same config made h x d e f k =
    subst (λ ss. Given ss (desk_of config made (h ++ x ∷ []))) (sym e)
    (subst (Given (accepted_spans h)) (sym f) k)

queue-full-same : (reason : Reason) (n : ℕ) (counts : DropCounts) → can_drop_batch reason ≡ true
    → (with_drops reason n counts).queue_full ≡ counts.queue_full
queue-full-same Reason.encode_memory n counts e = refl
queue-full-same Reason.too_large n counts e = refl
queue-full-same Reason.abandoned n counts e = refl
queue-full-same reason n counts e = cc

given-step : (config : DeskConfig) (made : ℕ) (h : List DeskEvent) (x : DeskEvent) → IsWithin h
    → Given (accepted_spans h) (desk_of config made h) → Allowed (desk_of config made h) x
    → Given (accepted_spans (h ++ x ∷ [])) (desk_of config made (h ++ x ∷ []))
unfolding desk_of
given-step config made h (queued s) w k a =
    let one : length (accepted_spans (h ++ queued s ∷ [])) ≡ length (accepted_spans h) + 1 =
    ap length (accepted-queued h s) ∙ length-append (accepted_spans h) (s ∷ []) in
    subst (Given (accepted_spans (h ++ queued s ∷ []))) (sym (queued-makes config made h s w a.0))
    (omega (arith, one, k))
given-step config made h (full s) w k a =
    given-same config made h (full s) _ (accepted-kept h (full s) refl)
    (full-makes config made h s w a.0) (omega (arith, k))
given-step config made h late w k a =
    given-same config made h late _ (accepted-kept h late refl) (late-makes config made h w) k
given-step config made h flush w k a =
    given-same config made h flush _ (accepted-kept h flush refl) (flush-makes config made h w) k
given-step config made h shutdown w k a =
    given-same config made h shutdown _ (accepted-kept h shutdown refl)
    (shutdown-makes config made h w) k
given-step config made h (taken now size) w k a =
    given-same config made h (taken now size) _ (accepted-kept h (taken now size) refl)
    (taken-makes config made h now size w) k
given-step config made h handed w k a =
    given-same config made h handed _ (accepted-kept h handed refl) (handed-makes config made h w) k
given-step config made h (dropped reason) w k a =
    given-same config made h (dropped reason) _ (accepted-kept h (dropped reason) refl)
    (dropped-makes config made h reason w)
    (k
    ∙ ap (λ (n : ℕ). length (accepted_spans h) + n)
    (sym (queue-full-same reason (length (last_spans h)) (drop_counts (drops h)) a.1)))
given-step config made h (settled fate) w k a =
    given-same config made h (settled fate) _ (accepted-kept h (settled fate) refl)
    (settled-makes config made h fate w) k
given-step config made h popped w k a =
    given-same config made h popped _ (accepted-kept h popped refl) (popped-makes config made h w) k
given-step config made h popped_lost w k a =
    given-same config made h popped_lost _ (accepted-kept h popped_lost refl)
    (popped-lost-makes config made h w) k

gives-none : (config : DeskConfig) (made : ℕ) → Gives config made []
unfolding desk_of
gives-none config made = record { within = omega arith; gives = refl }

-- The next ticket is the number of accepted spans plus that of spans that found the queue full.
pub tickets-add-up : TicketsAddUp
tickets-add-up config made h w =
    let k : Gives config made h =
    by-steps config made (Gives config made)
    (λ g x b a. record {
      within = within-step config made g x b.within a;
      gives = given-step config made g x b.within b.gives a;
    })
    h
    (gives-none config made) w in
    k.gives

-- ---- the queue's bound

bounded-same : (config : DeskConfig) (h : List DeskEvent) (ws : List SpanData) (x : DeskEvent)
    → waiting_spans (h ++ x ∷ []) ≡ ws → length ws ≤ config.queue
    → length (waiting_spans (h ++ x ∷ [])) ≤ config.queue
bounded-same config h ws x e k = omega (arith, ap length e, k)

record Bounded (config : DeskConfig) (h : List DeskEvent) : Type 0 where
  within : IsWithin h
  bound : length (waiting_spans h) ≤ config.queue

bound-step : (config : DeskConfig) (made : ℕ) (h : List DeskEvent) (x : DeskEvent) → IsWithin h
    → length (waiting_spans h) ≤ config.queue → Allowed (desk_of config made h) x
    → length (waiting_spans (h ++ x ∷ [])) ≤ config.queue
unfolding desk_of
bound-step config made h (queued s) w k a =
    let room : length (waiting_spans h) < config.queue = a.1 in
    omega (arith, room, ap length (waiting-queued h s w), length-append (waiting_spans h) (s ∷ []))
bound-step config made h (taken now size) w k a =
    omega (arith, k, ap length (waiting-taken h now size), length-drop size (waiting_spans h))
bound-step config made h (full s) w k a =
    bounded-same config h (waiting_spans h) (full s) (waiting-kept h (full s) refl refl) k
bound-step config made h late w k a =
    bounded-same config h (waiting_spans h) late (waiting-kept h late refl refl) k
bound-step config made h flush w k a =
    bounded-same config h (waiting_spans h) flush (waiting-kept h flush refl refl) k
bound-step config made h shutdown w k a =
    bounded-same config h (waiting_spans h) shutdown (waiting-kept h shutdown refl refl) k
bound-step config made h handed w k a =
    bounded-same config h (waiting_spans h) handed (waiting-kept h handed refl refl) k
bound-step config made h (dropped reason) w k a =
    bounded-same config h (waiting_spans h) (dropped reason)
    (waiting-kept h (dropped reason) refl refl) k
bound-step config made h (settled fate) w k a =
    bounded-same config h (waiting_spans h) (settled fate)
    (waiting-kept h (settled fate) refl refl) k
bound-step config made h popped w k a =
    bounded-same config h (waiting_spans h) popped (waiting-kept h popped refl refl) k
bound-step config made h popped_lost w k a =
    bounded-same config h (waiting_spans h) popped_lost (waiting-kept h popped_lost refl refl) k

-- No more spans wait than the configuration allows.
pub queue-bounded : QueueIsBounded
queue-bounded config made h w =
    let k : Bounded config h =
    by-steps config made (Bounded config)
    (λ g x b a. record {
      within = within-step config made g x b.within a;
      bound = bound-step config made g x b.within b.bound a;
    })
    h
    (record { within = omega arith; bound = omega arith }) w in
    k.bound
