-- Accepted spans are flushed once their batches are settled, and a shutdown asks for all of them.
use Rattle.std.proofs.Common.{◌≡◌, refl, sym, ap, ◌∙◌, ℕ, ◌+◌, ◌-◌, ◌<◌, ◌≤◌, nat_lt, min, arith}
use Rattle.std.proofs.Common.{None, List, [], ◌∷◌, ◌++◌, length, take, Bool, true, false}
use Rattle.std.proofs.Common.{true≢false, cond, not, ◌&&◌, ◌||◌, ◌⊎◌, inl, inr, length-append}
use Rattle.std.proofs.Common.{length-take}
use Rattle.std.specs.Prelude.{nat_le, flat_map}
use Rattle.std.specs.List.{list_any, range_with_len}
use Rattle.std.proofs.lemmas.List.{append-nil, take-take, take_at}
use Rattle.std.proofs.lemmas.List.Concat.{flat_map-append}
use Rattle.std.proofs.lemmas.Bool.{cases_lt, lt-ltb, le-ltb, le-leb, lt-leb}
use Rattle.model_span.specs.Spans.{SpanData}
use Rattle.model_desk.specs.Queue.{DeskEvent, queued, full, late, flush, shutdown, taken, handed}
use Rattle.model_desk.specs.Queue.{dropped, settled, popped, popped_lost, queued_span}
use Rattle.model_desk.specs.Queue.{accepted_spans, batch_sizes, taken_count, slices, batch_spans}
use Rattle.model_desk.specs.Queue.{last_batch, last_spans, last_size, Stage, not_out, in_hand}
use Rattle.model_desk.specs.Queue.{with_exporter, stage, asks, asked_count, is_shutdown}
use Rattle.model_desk.specs.Desks.{DeskConfig, is_out_before, out_as, desk_of, Allowed, AreAllowed}
use Rattle.model_desk.proofs.Lists.{length-slices}
use Rattle.model_desk.proofs.Steps.{IsWithin, accepted-kept, asked-kept, asked-told, shut-kept}
use Rattle.model_desk.proofs.Steps.{accepted-adds, length-last, by-steps, allowed-within}
use Rattle.model_desk.proofs.Events.{flush-makes}
use Rattle.model_run.specs.Queues.{is_out, settled_spans, SettledAreTheFirst, FlushedAreSettled}
use Rattle.model_run.specs.Queues.{ShutdownAsksForAll}
use Rattle.model_run.proofs.Batches.{range-more, piece, all-pieces, batches-are-taken}

-- ---- all batches but the last

but-last : {A : Type 0} (ls : List (List A))
    → flat_map (piece ls) (range_with_len 1 (length ls - 1)) ++ piece ls (length ls)
    ≡ flat_map (λ l. l) ls
but-last [] = refl
but-last (l ∷ ls) =
    let k : length (l ∷ ls) - 1 ≡ length ls = omega arith in
    let n : length (l ∷ ls) ≡ 1 + length ls = omega arith in
    (λ i. flat_map (piece (l ∷ ls)) (range_with_len 1 (k i)) ++ piece (l ∷ ls) (n i))
    ∙ ap (λ m. flat_map (piece (l ∷ ls)) (range_with_len 1 (length ls)) ++ m)
    (sym (append-nil (piece (l ∷ ls) (1 + length ls))))
    ∙ sym (flat_map-append (piece (l ∷ ls)) (range_with_len 1 (length ls)) ((1 + length ls) ∷ []))
    ∙ ap (flat_map (piece (l ∷ ls))) (sym (range-more 1 (length ls)))
    ∙ all-pieces [] (l ∷ ls)

-- The batches but the last, and the last one after them, have the spans that were taken.
settled-and-last : (config : DeskConfig) (made : ℕ) (h : List DeskEvent) → AreAllowed config made h
    → flat_map (batch_spans h) (range_with_len 1 (last_batch h - 1)) ++ last_spans h
    ≡ take (taken_count h) (accepted_spans h)
settled-and-last config made h w =
    let ls : List (List SpanData) = slices (batch_sizes h) (accepted_spans h) in
    let n : length ls ≡ last_batch h = length-slices (batch_sizes h) (accepted_spans h) in
    (λ i. flat_map (piece ls) (range_with_len 1 (sym n i - 1)) ++ piece ls (sym n i))
    ∙ but-last ls ∙ sym (all-pieces [] ls)
    ∙ ap (λ (k : ℕ). flat_map (piece ls) (range_with_len 1 k)) n
    ∙ batches-are-taken config made h w

record IsSettled (h : List DeskEvent) (spans : List SpanData) (out : ℕ) : Type 0 where
  first : spans ≡ take (length spans) (accepted_spans h)
  count : length spans + out ≡ taken_count h

settled-of : (config : DeskConfig) (made : ℕ) (h : List DeskEvent) → AreAllowed config made h
    → (spans last : List SpanData) → spans ++ last ≡ take (taken_count h) (accepted_spans h)
    → IsSettled h spans (length last)
settled-of config made h w spans last e =
    let v : IsWithin h = allowed-within config made h w in
    let all : length spans + length last ≡ min (taken_count h) (length (accepted_spans h)) =
    sym (length-append spans last) ∙ ap length e ∙ length-take (taken_count h) (accepted_spans h) in
    let sums : length spans + length last ≡ taken_count h = omega (arith, all, v) in
    let few : length spans ≤ taken_count h = omega (arith, sums) in
    record {
      first =
          sym (take_at spans last (length spans) refl) ∙ ap (take (length spans)) e
          ∙ take-take (length spans) (taken_count h) (accepted_spans h) few;
      count = sums;
    }

-- how many spans are out
abbrev out_count : Stage → List SpanData → ℕ
out_count not_out last = 0
out_count in_hand last = length last
out_count with_exporter last = length last

is-settled : (config : DeskConfig) (made : ℕ) (h : List DeskEvent) → AreAllowed config made h
    → (s : Stage)
    → IsSettled h
    (flat_map (batch_spans h)
    (range_with_len 1 (cond (is_out s) (last_batch h - 1) (last_batch h))))
    (out_count s (last_spans h))
is-settled config made h w not_out =
    settled-of config made h w (flat_map (batch_spans h) (range_with_len 1 (last_batch h))) []
    (append-nil (flat_map (batch_spans h) (range_with_len 1 (last_batch h)))
    ∙ batches-are-taken config made h w)
is-settled config made h w in_hand =
    settled-of config made h w (flat_map (batch_spans h) (range_with_len 1 (last_batch h - 1)))
    (last_spans h) (settled-and-last config made h w)
is-settled config made h w with_exporter =
    settled-of config made h w (flat_map (batch_spans h) (range_with_len 1 (last_batch h - 1)))
    (last_spans h) (settled-and-last config made h w)

-- The spans of settled batches are the first accepted ones.
pub settled-first : SettledAreTheFirst
settled-first config made h w = let k = is-settled config made h w (stage h) in k.first

-- ---- flushed

and-true : (b : Bool) → (b && true) ≡ b
and-true true = refl
and-true false = refl

-- A mark is flushed just where it is within the settled spans: those taken without those out.
flushed-none : (n mark count : ℕ) → count + 0 ≡ n → (nat_le mark n && true) ≡ nat_le mark count
flushed-none n mark count e =
    and-true (nat_le mark n) ∙ ap (nat_le mark) (let k : n ≡ count = omega (arith, e) in k)

flushed-some : (n size mark count : ℕ) → count + size ≡ n
    → (nat_le mark n && not (nat_lt (n - size) mark)) ≡ nat_le mark count
flushed-some n size mark count e = go (cases_lt count mark)
  where
    go : ((count < mark) ⊎ (mark ≤ count))
        → (nat_le mark n && not (nat_lt (n - size) mark)) ≡ nat_le mark count
    go (inl l) =
        let a : n - size < mark = omega (arith, e, l) in
        rw (lt-ltb (n - size) mark a, lt-leb mark count l) (and-false (nat_le mark n))
      where
        and-false : (b : Bool) → (b && false) ≡ false
        and-false true = refl
        and-false false = refl
    go (inr l) =
        let a : mark ≤ n - size = omega (arith, e, l) in
        let b : mark ≤ n = omega (arith, e, l) in
        rw (le-ltb (n - size) mark a, le-leb mark n b, le-leb mark count l) refl

flushed-at : (h : List DeskEvent) (s : Stage) (mark count : ℕ) → length (last_spans h) ≡ last_size h
    → count + out_count s (last_spans h) ≡ taken_count h
    → (nat_le mark (taken_count h)
    && not (is_out_before (taken_count h) (out_as s (last_batch h) (last_size h)) mark))
    ≡ nat_le mark count
flushed-at h not_out mark count l e = flushed-none (taken_count h) mark count e
flushed-at h in_hand mark count l e =
    flushed-some (taken_count h) (last_size h) mark count (omega (arith, l, e))
flushed-at h with_exporter mark count l e =
    flushed-some (taken_count h) (last_size h) mark count (omega (arith, l, e))

-- The desk's test of what is flushed agrees with the count of spans in settled batches.
pub flushed-settled : FlushedAreSettled
unfolding desk_of
flushed-settled config made h w mark =
    let k = is-settled config made h w (stage h) in
    flushed-at h (stage h) mark (length (settled_spans h))
    (length-last h (allowed-within config made h w)) k.count

-- ---- shutdown

abbrev AsksForAll : List DeskEvent → Type 0
AsksForAll h = list_any is_shutdown h ≡ true → asked_count h ≡ length (accepted_spans h)

asks-kept : (h : List DeskEvent) (x : DeskEvent) → asks x ≡ false → is_shutdown x ≡ false
    → queued_span x ≡ None → AsksForAll h → AsksForAll (h ++ x ∷ [])
asks-kept h x e s q k shut =
    asked-kept h x e ∙ k (sym (shut-kept h x s) ∙ shut) ∙ ap length (sym (accepted-kept h x q))

asks-told : (h : List DeskEvent) (x : DeskEvent) → asks x ≡ true → queued_span x ≡ None
    → AsksForAll (h ++ x ∷ [])
asks-told h x e q shut = asked-told h x e ∙ ap length (sym (accepted-kept h x q))

or-none : (b c : Bool) → (b || c) ≡ false → b ≡ false
or-none true c e = absurd (true≢false e)
or-none false c e = refl

asks-step : (config : DeskConfig) (made : ℕ) (h : List DeskEvent) (x : DeskEvent) → AsksForAll h
    → Allowed (desk_of config made h) x → AsksForAll (h ++ x ∷ [])
unfolding desk_of
asks-step config made h (queued s) k a = λ shut.
    let open_yet : list_any is_shutdown h ≡ false = or-none (list_any is_shutdown h) _ a.0 in
    absurd (true≢false (sym shut ∙ shut-kept h (queued s) refl ∙ open_yet))
asks-step config made h flush k a = asks-told h flush refl refl
asks-step config made h shutdown k a = asks-told h shutdown refl refl
asks-step config made h (full s) k a = asks-kept h (full s) refl refl refl k
asks-step config made h late k a = asks-kept h late refl refl refl k
asks-step config made h (taken now size) k a = asks-kept h (taken now size) refl refl refl k
asks-step config made h handed k a = asks-kept h handed refl refl refl k
asks-step config made h (dropped reason) k a = asks-kept h (dropped reason) refl refl refl k
asks-step config made h (settled fate) k a = asks-kept h (settled fate) refl refl refl k
asks-step config made h popped k a = asks-kept h popped refl refl refl k
asks-step config made h popped_lost k a = asks-kept h popped_lost refl refl refl k

-- A flush after a shutdown changes nothing at the desk.
pub shutdown-asks : ShutdownAsksForAll
unfolding desk_of
shutdown-asks config made h w shut =
    let v : IsWithin h = allowed-within config made h w in
    let all : asked_count h ≡ length (accepted_spans h) =
    by-steps config made AsksForAll (asks-step config made) h
    (λ e. absurd (true≢false (sym e))) w shut in
    flush-makes config made h v
    ∙ ap (λ (n : ℕ). record (desk_of config made h) { asked = n })
    (sym (accepted-adds h v) ∙ sym all)
