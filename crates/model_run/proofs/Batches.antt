-- Batches are slices of the accepted spans.
use Rattle.std.proofs.Common.{◌≡◌, add-zero, zero, suc, refl, sym, ap, ◌∙◌, subst, ℕ, ◌+◌, ◌-◌, min}
use Rattle.std.proofs.Common.{arith, List, [], ◌∷◌, ◌++◌, length, take, drop, append_assoc, None}
use Rattle.std.proofs.Common.{slice_get, length-append}
use Rattle.std.specs.Prelude.{unwrap_or, sum, flat_map}
use Rattle.std.specs.List.{range_with_len}
use Rattle.std.proofs.lemmas.List.{append-nil, take-append-drop, take-take, drop-take}
use Rattle.std.proofs.lemmas.List.{take-append-le}
use Rattle.std.proofs.lemmas.List.Elements.{filter_map-append}
use Rattle.model_span.specs.Spans.{SpanData}
use Rattle.model_span.specs.Attributes.{last_or}
use Rattle.model_desk.specs.Queue.{DeskEvent, queued, full, late, flush, shutdown, taken, handed}
use Rattle.model_desk.specs.Queue.{dropped, settled, popped, popped_lost, queued_span}
use Rattle.model_desk.specs.Queue.{accepted_spans, size_of_take, batch_sizes, taken_count}
use Rattle.model_desk.specs.Queue.{waiting_spans, slices, batch_spans, last_spans, last_size}
use Rattle.model_desk.specs.Desks.{DeskConfig, desk_of, Allowed, AreAllowedAfter, AreAllowed}
use Rattle.model_desk.proofs.Lists.{sum-cons, slice-stays, length-slices, get-at, get-front}
use Rattle.model_desk.proofs.Steps.{IsWithin, sizes-kept, accepted-kept, last-kept, accepted-queued}
use Rattle.model_desk.proofs.Steps.{last-queued, length-last, count-taken, last-taken, number-taken}
use Rattle.model_desk.proofs.Steps.{size-taken, by-steps, within-step, allowed-within}
use Rattle.model_run.specs.Queues.{BatchesAreTheFirst, BatchesStay, BatchesAreTheTaken}
use Rattle.model_run.specs.Queues.{LastBatchIsTakenLast}

-- ---- parts of a history

front-after : (config : DeskConfig) (made : ℕ) (before xs ys : List DeskEvent)
    → AreAllowedAfter config made before (xs ++ ys) → AreAllowedAfter config made before xs
front-after config made before [] ys w = tt
front-after config made before (x ∷ xs) ys w =
    (w.0, front-after config made (before ++ x ∷ []) xs ys w.1)

-- If a history is allowed, so is each front part of it.
pub front-allowed : (config : DeskConfig) (made : ℕ) (xs ys : List DeskEvent)
    → AreAllowed config made (xs ++ ys) → AreAllowed config made xs
unfolding AreAllowed
front-allowed config made xs ys w = front-after config made [] xs ys w

last-after : (config : DeskConfig) (made : ℕ) (before xs : List DeskEvent) (x : DeskEvent)
    → AreAllowedAfter config made before (xs ++ x ∷ [])
    → Allowed (desk_of config made (before ++ xs)) x
last-after config made before [] x w =
    subst (λ b. Allowed (desk_of config made b) x) (sym (append-nil before)) w.0
last-after config made before (y ∷ xs) x w =
    subst (λ b. Allowed (desk_of config made b) x) (append_assoc before (y ∷ []) xs)
    (last-after config made (before ++ y ∷ []) xs x w.1)

-- The last event of an allowed history is allowed at the desk that those before it made.
pub last-allowed : (config : DeskConfig) (made : ℕ) (h : List DeskEvent) (x : DeskEvent)
    → AreAllowed config made (h ++ x ∷ []) → Allowed (desk_of config made h) x
unfolding AreAllowed
last-allowed config made h x w = last-after config made [] h x w

-- ---- a batch that is taken

-- A taken batch has the next number and the first waiting spans, as many as a batch may have.
pub batches-first : BatchesAreTheFirst
unfolding desk_of
batches-first config made h now size w =
    let a : Allowed (desk_of config made h) (taken now size) =
    last-allowed config made h (taken now size) w in
    let e : size ≡ min config.batch (length (waiting_spans h)) = a.2 in (
      number-taken h now size,
      last-taken h now size
          (allowed-within config made h (front-allowed config made h (taken now size ∷ []) w))
          ∙ ap (λ (n : ℕ). take n (waiting_spans h)) e,
    )

-- A batch keeps its spans, whatever events follow.
pub batches-stay : BatchesStay
batches-stay config made h more zero w a b = refl
batches-stay config made h more (suc n) w a b =
    (λ i. unwrap_or (slice_get
    (slices (filter_map-append size_of_take h more i) (filter_map-append queued_span h more i)) n)
    [])
    ∙ ap (λ o. unwrap_or o [])
    (slice-stays (batch_sizes h) (batch_sizes more) (accepted_spans h) (accepted_spans more) n
    (allowed-within config made h (front-allowed config made h more w)) (omega (arith, b)))

-- ---- all batches

-- A range with one more number has this number at its end.
pub range-more : (a n : ℕ) → range_with_len a (suc n) ≡ range_with_len a n ++ (a + n) ∷ []
range-more a zero = ap (λ (k : ℕ). k ∷ []) (sym (add-zero a))
range-more a (suc n) =
    ap (λ l. a ∷ l)
    (range-more (a + 1) n
    ∙ ap (λ (k : ℕ). range_with_len (a + 1) n ++ k ∷ [])
    (let e : a + 1 + n ≡ a + suc n = omega arith in e))

-- the list with this number, from 1 on, or the empty one
abbrev pub piece : {A : Type 0} → List (List A) → ℕ → List A
piece ls n = unwrap_or (slice_get ([] ∷ ls) n) []

at-place : {A : Type 0} (before ls : List (List A)) (l : List A)
    → piece (before ++ l ∷ ls) (length before + 1) ≡ l
at-place before ls l =
    let n : length before + 1 ≡ suc (length before) = omega arith in
    let one : length (before ++ l ∷ []) ≡ length before + 1 = length-append before (l ∷ []) in
    ap (piece (before ++ l ∷ ls)) n
    ∙ ap (λ ms. unwrap_or (slice_get ms (length before)) []) (sym (append_assoc before (l ∷ []) ls))
    ∙ ap (λ o. unwrap_or o [])
    (get-front (before ++ l ∷ []) ls (length before) (omega (arith, one))
    ∙ get-at before l (length before) refl)

-- Some lists, each fetched by its number after those before it, are these lists appended.
pub all-pieces : {A : Type 0} (before ls : List (List A))
    → flat_map (piece (before ++ ls)) (range_with_len (length before + 1) (length ls))
    ≡ flat_map (λ l. l) ls
all-pieces before [] = refl
all-pieces before (l ∷ ls) =
    let n : length (before ++ l ∷ []) ≡ length before + 1 = length-append before (l ∷ []) in
    ap (λ m.
    m ++ flat_map (piece (before ++ l ∷ ls)) (range_with_len (length before + 1 + 1) (length ls)))
    (at-place before ls l)
    ∙ ap (λ m. l ++ m) (
    (λ i. flat_map (piece (sym (append_assoc before (l ∷ []) ls) i))
    (range_with_len (sym n i + 1) (length ls)))
    ∙ all-pieces (before ++ l ∷ []) ls
    )

take-add : {A : Type 0} (n m : ℕ) (xs : List A) → take (n + m) xs ≡ take n xs ++ take m (drop n xs)
take-add n m xs =
    sym (take-append-drop n (take (n + m) xs))
    ∙ (λ i. take-take n (n + m) xs (omega arith) i ++ drop-take n m xs i)

all-slices : {A : Type 0} (ns : List ℕ) (xs : List A)
    → flat_map (λ l. l) (slices ns xs) ≡ take (sum ns) xs
all-slices [] xs = refl
all-slices (n ∷ ns) xs =
    ap (λ l. take n xs ++ l) (all-slices ns (drop n xs)) ∙ sym (take-add n (sum ns) xs)
    ∙ ap (λ (k : ℕ). take k xs) (sym (sum-cons n ns))

-- The batches, one after the other, have the spans that were taken.
pub batches-are-taken : BatchesAreTheTaken
batches-are-taken config made h w =
    ap (λ (n : ℕ). flat_map (batch_spans h) (range_with_len 1 n))
    (sym (length-slices (batch_sizes h) (accepted_spans h)))
    ∙ all-pieces [] (slices (batch_sizes h) (accepted_spans h))
    ∙ all-slices (batch_sizes h) (accepted_spans h)

-- ---- the last batch

abbrev after_others : ℕ → ℕ → List SpanData → List SpanData
after_others size count spans = drop (count - size) (take count spans)

record TakenLast (h : List DeskEvent) : Type 0 where
  within : IsWithin h
  is : last_spans h ≡ after_others (last_size h) (taken_count h) (accepted_spans h)

last-same : (h : List DeskEvent) (x : DeskEvent) → size_of_take x ≡ None → queued_span x ≡ None
    → last_spans h ≡ after_others (last_size h) (taken_count h) (accepted_spans h)
    → last_spans (h ++ x ∷ [])
    ≡ after_others (last_size (h ++ x ∷ [])) (taken_count (h ++ x ∷ []))
    (accepted_spans (h ++ x ∷ []))
last-same h x e q k =
    last-kept h x e q ∙ k
    ∙ sym (λ i. after_others (last_or 0 (sizes-kept h x e i)) (sum (sizes-kept h x e i))
    (accepted-kept h x q i))

last-step : (config : DeskConfig) (made : ℕ) (h : List DeskEvent) (x : DeskEvent) → TakenLast h
    → Allowed (desk_of config made h) x → TakenLast (h ++ x ∷ [])
last-step config made h x k a =
    record { within = within-step config made h x k.within a; is = go x k.is }
  where
    go : (x : DeskEvent)
        → last_spans h ≡ after_others (last_size h) (taken_count h) (accepted_spans h)
        → last_spans (h ++ x ∷ [])
        ≡ after_others (last_size (h ++ x ∷ [])) (taken_count (h ++ x ∷ []))
        (accepted_spans (h ++ x ∷ []))
    go (queued s) e =
        last-queued h s k.within ∙ e
        ∙ ap (drop (taken_count h - last_size h))
        (sym (take-append-le (taken_count h) (accepted_spans h) (s ∷ []) k.within))
        ∙ sym (λ i. after_others (last_or 0 (sizes-kept h (queued s) refl i))
        (sum (sizes-kept h (queued s) refl i)) (accepted-queued h s i))
    go (taken now size) e =
        let n : taken_count h + size - size ≡ taken_count h = omega arith in
        last-taken h now size k.within ∙ sym (drop-take (taken_count h) size (accepted_spans h))
        ∙ ap (λ (m : ℕ). drop m (take (taken_count h + size) (accepted_spans h))) (sym n)
        ∙ sym (λ i. after_others (size-taken h now size i) (count-taken h now size i)
        (accepted-kept h (taken now size) refl i))
    go (full s) e = last-same h (full s) refl refl e
    go late e = last-same h late refl refl e
    go flush e = last-same h flush refl refl e
    go shutdown e = last-same h shutdown refl refl e
    go handed e = last-same h handed refl refl e
    go (dropped r) e = last-same h (dropped r) refl refl e
    go (settled f) e = last-same h (settled f) refl refl e
    go popped e = last-same h popped refl refl e
    go popped_lost e = last-same h popped_lost refl refl e

-- The last batch has the spans that were taken last.
pub last-is-last : LastBatchIsTakenLast
last-is-last config made h w =
    let k : TakenLast h =
    by-steps config made TakenLast (last-step config made) h
    (record { within = omega arith; is = refl }) w in
    k.is
    ∙ ap (λ (n : ℕ). after_others n (taken_count h) (accepted_spans h))
    (sym (length-last h k.within))
