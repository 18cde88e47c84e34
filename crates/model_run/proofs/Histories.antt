-- One more step of a program.
use Rattle.std.proofs.Common.{◌≡◌, refl, sym, ap, ◌∙◌, ℕ, zero, suc, ◌+◌, ◌-◌, ◌%◌, ◌<◌, ◌≤◌, ◌==◌}
use Rattle.std.proofs.Common.{eqb, nat_lt, arith, add-zero, zero-add, List, [], ◌∷◌, ◌++◌, length}
use Rattle.std.proofs.Common.{filter, Bool, true, false, true≢false, not, cond, ◌&&◌, ◌||◌, Option}
use Rattle.std.proofs.Common.{Some, None, option_map, slice_get}
use Rattle.std.specs.Option.{option_and_then, option_to_list}
use Rattle.std.proofs.lemmas.List.Sums.{take_while-cons}
use Rattle.std.specs.List.{cons_option, IsDistinct, AllByRecursion, list_any, filter_map}
use Rattle.std.proofs.lemmas.List.{append-nil}
use Rattle.std.proofs.lemmas.List.{length_push}
use Rattle.std.proofs.lemmas.List.Elements.{filter_map-append}
use Rattle.std.proofs.lemmas.Bool.{eq-eqb, eqb-true, lt-ltb, ltb-true, ltb-false}
use Rattle.std.proofs.lemmas.Map.Steps.{length-le_from_distinct_below}
use Rattle.model_span.specs.Attributes.{distinct_of}
use Rattle.model_span.specs.Spans.{Call, set_attribute, end, Kind, Context, Scope, is_end}
use Rattle.model_span.specs.Spans.{live_calls, end_of, first_or, span, SpanData, with_ticket}
use Rattle.model_span.specs.Sampling.{is_sampled}
use Rattle.model_span.specs.Identifiers.{Words, has_sampled_flag, with_sampled_flag}
use Rattle.model_span.specs.Starts.{StartRequest, Ids, StartedSpan, Tracer, start_request}
use Rattle.model_span.specs.Starts.{decision_of, exported_span, flags_of, ids_of, started_span}
use Rattle.model_span.specs.Starts.{started_span_as}
use Rattle.model_run.specs.Steps.{Parent}
use Rattle.model_run.specs.History.{SpanStep, Setup, StartResult, start, call, start_count}
use Rattle.model_run.specs.History.{unless_refused, start_result, start_result_in, parent_among}
use Rattle.model_run.specs.History.{words_left, start_results_after, start_results, later_start}
use Rattle.model_run.specs.History.{call_on, calls_on, ends_after, ended_numbers, exported_of}
use Rattle.model_run.specs.History.{exported_if_sampled, exported_spans, with_tickets, ended_spans}
pub use Rattle.model_span.proofs.Live.{all-live}
use Rattle.model_span.proofs.Lists.{distinct-more, distinct-all, filter-keeps}

-- The number of starts in two lists of steps, one after the other, is the sum of both numbers.
pub starts-append : (xs ys : List SpanStep)
    → start_count (xs ++ ys) ≡ start_count xs + start_count ys
starts-append [] ys = sym (zero-add (start_count ys))
starts-append (start r sc p k at name ∷ xs) ys =
    let rest = starts-append xs ys in omega (arith, rest)
starts-append (call n c ∷ xs) ys = starts-append xs ys

-- ---- outcomes

outcomes-append : (setup : Setup) (earlier : List StartResult) (xs ys : List SpanStep)
    → start_results_after setup earlier (xs ++ ys)
    ≡ start_results_after setup (start_results_after setup earlier xs) ys
unfolding start_results_after
outcomes-append setup earlier [] ys = refl
outcomes-append setup earlier (start r sc p k at name ∷ xs) ys =
    outcomes-append setup (earlier ++ start_result setup earlier r sc p k at name ∷ []) xs ys
outcomes-append setup earlier (call n c ∷ xs) ys = outcomes-append setup earlier xs ys

-- A call on a span changes nothing of what the starts gave.
pub outcomes-call : (setup : Setup) (done : List SpanStep) (n : ℕ) (c : Call)
    → start_results setup (done ++ call n c ∷ []) ≡ start_results setup done
unfolding start_results_after
outcomes-call setup done n c = outcomes-append setup [] done (call n c ∷ [])

-- One more start adds what it gives to what the starts before it gave.
pub outcomes-start : (setup : Setup) (done : List SpanStep) (r : Bool) (scope : ℕ) (p : Parent)
    (k : Kind) (at : ℕ) (name : List ℕ) →
    start_results setup (done ++ start r scope p k at name ∷ [])
    ≡ start_results setup done
    ++ start_result setup (start_results setup done) r scope p k at name ∷ []
unfolding start_results_after
outcomes-start setup done r scope p k at name =
    outcomes-append setup [] done (start r scope p k at name ∷ [])

outcomes-length : (setup : Setup) (earlier : List StartResult) (steps : List SpanStep)
    → length (start_results_after setup earlier steps) ≡ length earlier + start_count steps
unfolding start_results_after
outcomes-length setup earlier [] = sym (add-zero (length earlier))
outcomes-length setup earlier (start r sc p k at name ∷ steps) =
    outcomes-length setup (earlier ++ start_result setup earlier r sc p k at name ∷ []) steps
    ∙ ap (λ n. n + start_count steps)
    (length_push earlier (start_result setup earlier r sc p k at name))
    ∙ (let e : length earlier + 1 + start_count steps ≡ length earlier + suc (start_count steps) =
    omega arith in
    e)
outcomes-length setup earlier (call n c ∷ steps) = outcomes-length setup earlier steps

-- There are as many results of starts as there are starts.
pub outcomes-many : (setup : Setup) (steps : List SpanStep)
    → length (start_results setup steps) ≡ start_count steps
outcomes-many setup steps = outcomes-length setup [] steps ∙ zero-add (start_count steps)

-- ---- calls

after-within : (n : ℕ) (xs ys : List SpanStep) → n < start_count xs
    → later_start n (xs ++ ys) ≡ later_start n xs ++ ys
after-within n [] ys h = absurd (omega (arith, h))
after-within zero (start r sc p k at name ∷ xs) ys h = refl
after-within (suc n) (start r sc p k at name ∷ xs) ys h = after-within n xs ys (omega (arith, h))
after-within n (call m c ∷ xs) ys h = after-within n xs ys h

after-past : (n : ℕ) (xs : List SpanStep) → start_count xs ≤ n → later_start n xs ≡ []
after-past n [] h = refl
after-past zero (start r sc p k at name ∷ xs) h = absurd (omega (arith, h))
after-past (suc n) (start r sc p k at name ∷ xs) h = after-past n xs (omega (arith, h))
after-past n (call m c ∷ xs) h = after-past n xs h

after-last : (xs : List SpanStep) (r : Bool) (sc : ℕ) (p : Parent) (k : Kind) (at : ℕ)
    (name : List ℕ)
    → later_start (start_count xs) (xs ++ start r sc p k at name ∷ []) ≡ []
after-last [] r sc p k at name = refl
after-last (start r' sc' p' k' at' name' ∷ xs) r sc p k at name = after-last xs r sc p k at name
after-last (call m c ∷ xs) r sc p k at name = after-last xs r sc p k at name

-- One more step adds the call that it makes, if any, to the calls on a span that has started.
pub calls-more : (n : ℕ) (done : List SpanStep) (x : SpanStep) → n < start_count done
    → calls_on n (done ++ x ∷ []) ≡ calls_on n done ++ filter_map (call_on n) (x ∷ [])
calls-more n done x h =
    ap (filter_map (call_on n)) (after-within n done (x ∷ []) h)
    ∙ filter_map-append (call_on n) (later_start n done) (x ∷ [])

-- A span that has not started has no calls.
pub calls-past : (n : ℕ) (done : List SpanStep) → start_count done ≤ n → calls_on n done ≡ []
calls-past n done h = ap (filter_map (call_on n)) (after-past n done h)

-- A span that has just started has no calls.
pub calls-first : (done : List SpanStep) (r : Bool) (sc : ℕ) (p : Parent) (k : Kind) (at : ℕ)
    (name : List ℕ)
    → calls_on (start_count done) (done ++ start r sc p k at name ∷ []) ≡ []
calls-first done r sc p k at name =
    ap (filter_map (call_on (start_count done))) (after-last done r sc p k at name)

-- ---- ends

ends-append : (k : ℕ) (xs ys : List SpanStep)
    → ends_after k (xs ++ ys) ≡ ends_after k xs ++ ends_after (k + start_count xs) ys
ends-append k [] ys = ap (λ n. ends_after n ys) (sym (add-zero k))
ends-append k (start r sc p kind at name ∷ xs) ys =
    ends-append (k + 1) xs ys
    ∙ ap (λ n. ends_after (k + 1) xs ++ ends_after n ys)
    (let e : k + 1 + start_count xs ≡ k + suc (start_count xs) = omega arith in e)
ends-append k (call n c ∷ xs) ys = by (is_end c && nat_lt n k) (ends-append k xs ys)
  where
    by : (b : Bool)
        → ends_after k (xs ++ ys) ≡ ends_after k xs ++ ends_after (k + start_count xs) ys →
        cond b (n ∷ ends_after k (xs ++ ys)) (ends_after k (xs ++ ys))
        ≡ cond b (n ∷ ends_after k xs) (ends_after k xs) ++ ends_after (k + start_count xs) ys
    by true h = ap (λ l. n ∷ l) h
    by false h = h

-- whether a span's number is among these
abbrev among : ℕ → List ℕ → Bool
among n ns = list_any (λ m. m == n) ns

-- A span that has started before is among the ends just if one of its calls is an end.
ends-during : (n k : ℕ) (steps : List SpanStep) → n < k
    → among n (ends_after k steps) ≡ list_any is_end (filter_map (call_on n) steps)
ends-during n k [] h = refl
ends-during n k (start r sc p kind at name ∷ steps) h =
    ends-during n (k + 1) steps (omega (arith, h))
ends-during n k (call m c ∷ steps) h =
    by (is_end c) refl (m == n) refl (nat_lt m k) refl (ends-during n k steps h)
  where
    by : (e : Bool) → is_end c ≡ e → (s : Bool) → (m == n) ≡ s → (l : Bool) → nat_lt m k ≡ l
        → among n (ends_after k steps) ≡ list_any is_end (filter_map (call_on n) steps) →
        among n (ends_after k (call m c ∷ steps))
        ≡ list_any is_end (filter_map (call_on n) (call m c ∷ steps))
    by true d true t true u rest = rw (t, d, u, t) refl
    by true d false t true u rest = rw (t, d, u, t) rest
    by true d true t false u rest =
        absurd (let e : m ≡ n = eqb-true m n t in
        let f : k ≤ m = ltb-false m k u in
        omega (arith, h, e, f))
    by true d false t false u rest = rw (t, d, u) rest
    by false d true t l u rest = rw (t, d) rest
    by false d false t l u rest = rw (t, d) rest

-- A span whose start is still to come, after `i` others, is among the ends just if one of its calls
-- is an end.
ends-from : (n k i : ℕ) (steps : List SpanStep) → n ≡ k + i
    → among n (ends_after k steps) ≡ list_any is_end (filter_map (call_on n) (later_start i steps))
ends-from n k i [] h = refl
ends-from n k zero (start r sc p kind at name ∷ steps) h =
    ends-during n (k + 1) steps (omega (arith, h))
ends-from n k (suc i) (start r sc p kind at name ∷ steps) h =
    ends-from n (k + 1) i steps (omega (arith, h))
ends-from n k i (call m c ∷ steps) h =
    by (is_end c) refl (nat_lt m k) refl (m == n) refl (ends-from n k i steps h)
  where
    by : (e : Bool) → is_end c ≡ e → (l : Bool) → nat_lt m k ≡ l → (s : Bool) → (m == n) ≡ s
        → among n (ends_after k steps)
        ≡ list_any is_end (filter_map (call_on n) (later_start i steps)) →
        among n (ends_after k (call m c ∷ steps))
        ≡ list_any is_end (filter_map (call_on n) (later_start i steps))
    by true d true u true t rest =
        absurd
        (let e : m ≡ n = eqb-true m n t in let f : m < k = ltb-true m k u in omega (arith, h, e, f))
    by true d true u false t rest = rw (d, u, t) rest
    by true d false u s t rest = rw (d, u) rest
    by false d l u s t rest = rw d rest

-- A span has ended just if one of its calls is an end.
pub ends-are : (n : ℕ) (steps : List SpanStep)
    → among n (ends_after 0 steps) ≡ list_any is_end (calls_on n steps)
ends-are n steps = ends-from n 0 n steps (sym (zero-add n))

-- ---- the numbers of those that have ended

abbrev same : ℕ → ℕ → Bool
same n m = n == m

eqb-comm : (n m : ℕ) → eqb n m ≡ eqb m n
eqb-comm n m = by (eqb n m) refl (eqb m n) refl
  where
    by : (a : Bool) → eqb n m ≡ a → (b : Bool) → eqb m n ≡ b → eqb n m ≡ eqb m n
    by true e true f = e ∙ sym f
    by true e false f = absurd (true≢false (sym (eq-eqb m n (sym (eqb-true n m e))) ∙ f))
    by false e true f = absurd (true≢false (sym (eq-eqb n m (sym (eqb-true m n f))) ∙ e))
    by false e false f = e ∙ sym f

among-turned : (n : ℕ) (ns : List ℕ) → list_any (eqb n) ns ≡ among n ns
among-turned n [] = refl
among-turned n (m ∷ ns) = rw (among-turned n ns, eqb-comm n m) refl

all-passed : (n : ℕ) (ns : List ℕ)
    → AllByRecursion (λ m. eqb n m ≡ false) (filter (λ m. not (same n m)) ns)
all-passed n [] = tt
all-passed n (m ∷ ns) = by (eqb n m) refl (all-passed n ns)
  where
    by : (b : Bool) → eqb n m ≡ b
        → AllByRecursion (λ m. eqb n m ≡ false) (filter (λ m. not (same n m)) ns)
        → AllByRecursion (λ m. eqb n m ≡ false)
        (cond (not b) (m ∷ filter (λ m. not (same n m)) ns) (filter (λ m. not (same n m)) ns))
    by true e rest = rest
    by false e rest = (e, rest)

distinct-filter : (keep : ℕ → Bool) (ns : List ℕ) → IsDistinct eqb ns
    → IsDistinct eqb (filter keep ns)
unfolding IsDistinct
distinct-filter keep [] d = tt
distinct-filter keep (n ∷ ns) d =
    by (keep n) (filter-keeps (λ m. eqb n m ≡ false) keep ns d.0) (distinct-filter keep ns d.1)
  where
    by : (b : Bool) → AllByRecursion (λ m. eqb n m ≡ false) (filter keep ns)
        → IsDistinct eqb (filter keep ns)
        → IsDistinct eqb (cond b (n ∷ filter keep ns) (filter keep ns))
    by true a r = (a, r)
    by false a r = r

all-distinct : (ns : List ℕ) → IsDistinct eqb (distinct_of same ns)
unfolding IsDistinct
all-distinct [] = tt
all-distinct (n ∷ ns) = (
  all-passed n (distinct_of same ns),
  distinct-filter (λ m. not (same n m)) (distinct_of same ns) (all-distinct ns),
)

any-filter : (p keep : ℕ → Bool) (ns : List ℕ) → list_any p (filter keep ns) ≡ true
    → list_any p ns ≡ true
any-filter p keep [] h = h
any-filter p keep (n ∷ ns) h = by (p n) refl (keep n) (any-filter p keep ns) h
  where
    by : (a : Bool) → p n ≡ a → (b : Bool)
        → (list_any p (filter keep ns) ≡ true → list_any p ns ≡ true)
        → list_any p (cond b (n ∷ filter keep ns) (filter keep ns)) ≡ true
        → list_any p (n ∷ ns) ≡ true
    by true e b rest k = rw e refl
    by false e true rest k = rw e (rest (rw e at k))
    by false e false rest k = rw e (rest k)

any-distinct : (p : ℕ → Bool) (ns : List ℕ) → list_any p (distinct_of same ns) ≡ true
    → list_any p ns ≡ true
any-distinct p [] h = h
any-distinct p (n ∷ ns) h = by (any-distinct p ns) (p n) refl h
  where
    by : (list_any p (distinct_of same ns) ≡ true → list_any p ns ≡ true) → (a : Bool) → p n ≡ a
        → list_any p (n ∷ filter (λ m. not (same n m)) (distinct_of same ns)) ≡ true
        → list_any p (n ∷ ns) ≡ true
    by rest true e k = rw e refl
    by rest false e k =
        rw e (rest (any-filter p (λ m. not (same n m)) (distinct_of same ns) (rw e at k)))

-- Only a span that has started has ended.
ended-started : (n : ℕ) (steps : List SpanStep) → among n (ends_after 0 steps) ≡ true
    → n < start_count steps
ended-started n steps h = by (nat_lt n (start_count steps)) refl
  where
    by : (b : Bool) → nat_lt n (start_count steps) ≡ b → n < start_count steps
    by true e = ltb-true n (start_count steps) e
    by false e =
        absurd (true≢false (sym h ∙ ends-are n steps
        ∙ ap (list_any is_end) (calls-past n steps (ltb-false n (start_count steps) e))))

-- No more spans end than have started.
pub ended-few : (steps : List SpanStep) → length (ended_numbers steps) ≤ start_count steps
ended-few steps =
    length-le_from_distinct_below (ended_numbers steps) (start_count steps)
    (all-distinct (ends_after 0 steps))
    (λ q h. ended-started q steps
    (any-distinct (same-to q) (ends_after 0 steps)
    (sym (among-turned q (ended_numbers steps)) ∙ h)))
  where
    same-to : ℕ → ℕ → Bool
    same-to q m = m == q

-- ---- what is exported of them

-- The first call counts, with those after it that do, unless it is an end: then none counts.
pub live-cons : (c : Call) (calls : List Call)
    → live_calls (c ∷ calls) ≡ cond (not (is_end c)) (c ∷ live_calls calls) []
live-cons c calls = take_while-cons (λ c. not (is_end c)) c calls

live-past : (calls more : List Call) → list_any is_end calls ≡ true
    → live_calls (calls ++ more) ≡ live_calls calls
live-past [] more h = absurd (true≢false (sym h))
live-past (c ∷ calls) more h =
    live-cons c (calls ++ more) ∙ by (is_end c) refl (live-past calls more) h
    ∙ sym (live-cons c calls)
  where
    by : (b : Bool) → is_end c ≡ b
        → (list_any is_end calls ≡ true → live_calls (calls ++ more) ≡ live_calls calls)
        → (b || list_any is_end calls) ≡ true →
        cond (not (is_end c)) (c ∷ live_calls (calls ++ more)) []
        ≡ cond (not (is_end c)) (c ∷ live_calls calls) []
    by true e rest k = rw e refl
    by false e rest k = rw e (ap (λ l. c ∷ l) (rest k))

end-past : (d : ℕ) (calls more : List Call) → list_any is_end calls ≡ true
    → first_or d (filter_map end_of (calls ++ more)) ≡ first_or d (filter_map end_of calls)
end-past d [] more h = absurd (true≢false (sym h))
end-past d (end at ∷ calls) more h = refl
end-past d (set_attribute p ∷ calls) more h = end-past d calls more h
end-past d (Call.add_event n a p ∷ calls) more h = end-past d calls more h
end-past d (Call.record_exception k m s a p ∷ calls) more h = end-past d calls more h
end-past d (Call.add_link c p ∷ calls) more h = end-past d calls more h
end-past d (Call.set_status s ∷ calls) more h = end-past d calls more h
end-past d (Call.update_name n ∷ calls) more h = end-past d calls more h

-- The calls after the first end change nothing of what is exported.
pub exported-past : (s : StartedSpan) (calls more : List Call) → list_any is_end calls ≡ true
    → exported_span s (calls ++ more) ≡ exported_span s calls
unfolding span
exported-past s calls more h = rw (live-past calls more h, end-past s.start.at calls more h) refl

exported-same : (calls more : List Call) (o : Option StartResult) → list_any is_end calls ≡ true
    → exported_of (calls ++ more) o ≡ exported_of calls o
exported-same calls more None h = refl
exported-same calls more (Some o) h = by o.span
  where
    by : (s : Option StartedSpan)
        → option_and_then (exported_if_sampled (calls ++ more)) s
        ≡ option_and_then (exported_if_sampled calls) s
    by None = refl
    by (Some s) =
        ap (λ e. cond (is_sampled s.decision) (Some e) None) (exported-past s calls more h)

-- One more element at the end changes none of the elements before it.
pub get-first : {A : Type 0} (xs : List A) (y : A) (n : ℕ) → n < length xs
    → slice_get (xs ++ y ∷ []) n ≡ slice_get xs n
get-first [] y n h = absurd (omega (arith, h))
get-first (x ∷ xs) y zero h = refl
get-first (x ∷ xs) y (suc n) h = get-first xs y n (omega (arith, h))

outcome-stays : (setup : Setup) (done : List SpanStep) (x : SpanStep) (n : ℕ) → n < start_count done
    → slice_get (start_results setup (done ++ x ∷ [])) n ≡ slice_get (start_results setup done) n
outcome-stays setup done (start r sc p k at name) n h =
    ap (λ os. slice_get os n) (outcomes-start setup done r sc p k at name)
    ∙ get-first (start_results setup done)
    (start_result setup (start_results setup done) r sc p k at name) n
    (rw (outcomes-many setup done) h)
outcome-stays setup done (call m c) n h = ap (λ os. slice_get os n) (outcomes-call setup done m c)

-- what is exported of a span after some steps, by its number
abbrev exported_at : Setup → List SpanStep → ℕ → Option SpanData
exported_at setup steps n = exported_of (calls_on n steps) (slice_get (start_results setup steps) n)

exported-stays : (setup : Setup) (done : List SpanStep) (x : SpanStep) (n : ℕ)
    → among n (ends_after 0 done) ≡ true
    → exported_at setup (done ++ x ∷ []) n ≡ exported_at setup done n
exported-stays setup done x n h =
    let l : n < start_count done = ended-started n done h in
    ap (exported_of (calls_on n (done ++ x ∷ []))) (outcome-stays setup done x n l)
    ∙ ap (λ cs. exported_of cs (slice_get (start_results setup done) n)) (calls-more n done x l)
    ∙ exported-same (calls_on n done) (filter_map (call_on n) (x ∷ []))
    (slice_get (start_results setup done) n) (sym (ends-are n done) ∙ h)

each-among : (P : ℕ → Type 0) (ns : List ℕ) → ((n : ℕ) → among n ns ≡ true → P n)
    → AllByRecursion P ns
each-among P [] h = tt
each-among P (n ∷ ns) h =
    (h n (rw (eq-eqb n n refl) refl), each-among P ns (λ m k. h m (rw k (or-true (n == m)))))
  where
    or-true : (b : Bool) → (b || true) ≡ true
    or-true true = refl
    or-true false = refl

filter_map-same : {B : Type 0} (f g : ℕ → Option B) (ns : List ℕ)
    → AllByRecursion (λ n. f n ≡ g n) ns → filter_map f ns ≡ filter_map g ns
filter_map-same f g [] h = refl
filter_map-same f g (n ∷ ns) h = rw (h.0, filter_map-same f g ns h.1) refl

-- What is exported of the spans that had ended before is the same after one more step.
ended-before : (setup : Setup) (done : List SpanStep) (x : SpanStep)
    → filter_map (exported_at setup (done ++ x ∷ [])) (ended_numbers done)
    ≡ exported_spans setup done
ended-before setup done x =
    filter_map-same (exported_at setup (done ++ x ∷ [])) (exported_at setup done)
    (ended_numbers done)
    (distinct-all (λ n. exported_at setup (done ++ x ∷ []) n ≡ exported_at setup done n) same
    (ends_after 0 done) (each-among _ (ends_after 0 done) (exported-stays setup done x)))

exported-start : (setup : Setup) (done : List SpanStep) (r : Bool) (sc : ℕ) (p : Parent) (k : Kind)
    (at : ℕ) (name : List ℕ)
    → exported_spans setup (done ++ start r sc p k at name ∷ []) ≡ exported_spans setup done
exported-start setup done r sc p k at name =
    let x : SpanStep = start r sc p k at name in
    ap (filter_map (exported_at setup (done ++ x ∷ [])))
    (ap (distinct_of same) (ends-append 0 done (x ∷ []) ∙ append-nil (ends_after 0 done)))
    ∙ ended-before setup done x

-- A call that isn't the first end of a span that has started adds no ended span.
exported-no-more : (setup : Setup) (done : List SpanStep) (n : ℕ) (c : Call)
    → (is_end c && nat_lt n (start_count done) && not (list_any is_end (calls_on n done))) ≡ false →
    exported_spans setup (done ++ call n c ∷ []) ≡ exported_spans setup done
exported-no-more setup done n c h =
    ap (filter_map (exported_at setup (done ++ call n c ∷ [])))
    (ap (distinct_of same) (ends-append 0 done (call n c ∷ []))
    ∙ by (is_end c) (nat_lt n (start_count done)) refl (list_any is_end (calls_on n done)) refl h)
    ∙ ended-before setup done (call n c)
  where
    by : (e l : Bool) → nat_lt n (start_count done) ≡ l → (b : Bool)
        → list_any is_end (calls_on n done) ≡ b → (e && l && not b) ≡ false →
        distinct_of same
        (ends_after 0 done ++ cond (e && nat_lt n (0 + start_count done)) (n ∷ []) [])
        ≡ ended_numbers done
    by false l u b v k = ap (distinct_of same) (append-nil (ends_after 0 done))
    by true false u b v k =
        rw (zero-add, u) (ap (distinct_of same) (append-nil (ends_after 0 done)))
    by true true u true v k =
        rw (zero-add, u) (distinct-more same (ends_after 0 done) n ∙ rw (ends-are n done, v) refl)
    by true true u false v k = absurd (true≢false k)

-- The first end of a span that has started adds its number to those that have ended.
numbers-more : (done : List SpanStep) (n : ℕ) (c : Call) → is_end c ≡ true → n < start_count done
    → list_any is_end (calls_on n done) ≡ false
    → ended_numbers (done ++ call n c ∷ []) ≡ ended_numbers done ++ n ∷ []
numbers-more done n c e l b =
    let u : nat_lt n (start_count done) ≡ true = lt-ltb n (start_count done) l in
    ap (distinct_of same) (ends-append 0 done (call n c ∷ []))
    ∙ rw (e, zero-add, u) (distinct-more same (ends_after 0 done) n ∙ rw (ends-are n done, b) refl)

filter_map-few : {B : Type 0} (f : ℕ → Option B) (ns : List ℕ)
    → length (filter_map f ns) ≤ length ns
filter_map-few f [] = omega arith
filter_map-few {B = B} f (n ∷ ns) = by (f n) (filter_map-few f ns)
  where
    by : (o : Option B) → length (filter_map f ns) ≤ length ns
        → length (cons_option o (filter_map f ns)) ≤ suc (length ns)
    by None h = omega (arith, h)
    by (Some x) h = omega (arith, h)

one-of : {B : Type 0} (o : Option B) → cons_option o [] ≡ option_to_list o
one-of None = refl
one-of (Some x) = refl

exported-more : (setup : Setup) (done : List SpanStep) (n : ℕ) (c : Call) → is_end c ≡ true
    → n < start_count done → list_any is_end (calls_on n done) ≡ false →
    (exported_spans setup (done ++ call n c ∷ [])
    ≡ exported_spans setup done
    ++ option_to_list
    (exported_of (calls_on n done ++ c ∷ []) (slice_get (start_results setup done) n)))
    × (length (exported_spans setup done) < start_count done)
exported-more setup done n c e l b =
    let x : SpanStep = call n c in
    let f : ℕ → Option SpanData = exported_at setup (done ++ x ∷ []) in
    let numbers : ended_numbers (done ++ x ∷ []) ≡ ended_numbers done ++ n ∷ [] =
    numbers-more done n c e l b in
    let own : filter_map (call_on n) (x ∷ []) ≡ c ∷ [] = rw (eq-eqb n n refl) refl in
    let here : f n
    ≡ exported_of (calls_on n done ++ c ∷ []) (slice_get (start_results setup done) n) =
    ap (exported_of (calls_on n (done ++ x ∷ []))) (outcome-stays setup done x n l)
    ∙ ap (λ cs. exported_of cs (slice_get (start_results setup done) n))
    (calls-more n done x l ∙ ap (λ cs. calls_on n done ++ cs) own) in
    let few : length (ended_numbers (done ++ x ∷ [])) ≤ start_count (done ++ x ∷ []) =
    ended-few (done ++ x ∷ []) in
    let fewer : length (exported_spans setup done) ≤ length (ended_numbers done) =
    filter_map-few (exported_at setup done) (ended_numbers done) in
    let one : length (ended_numbers done ++ n ∷ []) ≡ length (ended_numbers done) + 1 =
    length_push (ended_numbers done) n in
    let all : start_count (done ++ x ∷ []) ≡ start_count done + 0 = starts-append done (x ∷ []) in (
      ap (filter_map f) numbers ∙ filter_map-append f (ended_numbers done) (n ∷ [])
          ∙ ap (λ es. es ++ cons_option (f n) []) (ended-before setup done x)
          ∙ ap (λ es. exported_spans setup done ++ es) (one-of (f n) ∙ ap option_to_list here),
      omega (arith, few, fewer, one, all, ap length numbers),
    )

-- ---- tickets

tickets-append : (n : ℕ) (xs ys : List SpanData)
    → with_tickets n (xs ++ ys) ≡ with_tickets n xs ++ with_tickets (n + length xs) ys
tickets-append n [] ys = rw (add-zero) refl
tickets-append n (x ∷ xs) ys =
    ap (λ l. with_ticket n x ∷ l)
    (tickets-append (n + 1) xs ys
    ∙ ap (λ k. with_tickets (n + 1) xs ++ with_tickets k ys) (omega arith))

tickets-length : (n : ℕ) (xs : List SpanData) → length (with_tickets n xs) ≡ length xs
tickets-length n [] = refl
tickets-length n (x ∷ xs) = ap suc (tickets-length (n + 1) xs)

-- One more start ends no span.
pub ended-start : (setup : Setup) (done : List SpanStep) (r : Bool) (sc : ℕ) (p : Parent) (k : Kind)
    (at : ℕ) (name : List ℕ)
    → ended_spans setup (done ++ start r sc p k at name ∷ []) ≡ ended_spans setup done
ended-start setup done r sc p k at name =
    ap (with_tickets 0) (exported-start setup done r sc p k at name)

-- A call that isn't the first end of a span that has started adds no ended span.
pub ended-no-more : (setup : Setup) (done : List SpanStep) (n : ℕ) (c : Call)
    → (is_end c && nat_lt n (start_count done) && not (list_any is_end (calls_on n done))) ≡ false →
    ended_spans setup (done ++ call n c ∷ []) ≡ ended_spans setup done
ended-no-more setup done n c h = ap (with_tickets 0) (exported-no-more setup done n c h)

-- The first end of a span that has started adds what is exported of it; its ticket is the number of
-- those before it.
pub ended-more : (setup : Setup) (done : List SpanStep) (n : ℕ) (c : Call) → is_end c ≡ true
    → n < start_count done → list_any is_end (calls_on n done) ≡ false →
    (ended_spans setup (done ++ call n c ∷ [])
    ≡ ended_spans setup done
    ++ with_tickets (length (ended_spans setup done))
    (option_to_list
    (exported_of (calls_on n done ++ c ∷ []) (slice_get (start_results setup done) n))))
    × (length (ended_spans setup done) < start_count done)
ended-more setup done n c e l b =
    let more = exported-more setup done n c e l b in
    let many : length (ended_spans setup done) ≡ length (exported_spans setup done) =
    tickets-length 0 (exported_spans setup done) in
    let one : List SpanData =
    option_to_list
    (exported_of (calls_on n done ++ c ∷ []) (slice_get (start_results setup done) n)) in (
      ap (with_tickets 0) more.0 ∙ tickets-append 0 (exported_spans setup done) one
          ∙ ap (λ k. ended_spans setup done ++ with_tickets k one) (zero-add _ ∙ sym many),
      rw many more.1,
    )

-- ---- the sampled flag

with-flag : (sampled : Bool) (flags : ℕ)
    → has_sampled_flag (with_sampled_flag sampled flags) ≡ sampled
with-flag true flags = eq-eqb ((flags - flags % 2 + 1) % 2) 1 (omega arith)
with-flag false flags = let even : (flags - flags % 2 + 0) % 2 ≡ 0 = omega arith in rw even refl

-- The flags of a new context have the sampled flag just if the span is sampled.
pub sampled-flag : (parent : Option Context) (sampled : Bool)
    → has_sampled_flag (flags_of parent sampled) ≡ sampled
sampled-flag None sampled = with-flag sampled 0
sampled-flag (Some parent) sampled = with-flag sampled parent.flags

-- A span that has started has the flag just if it is sampled.
abbrev Flagged : Option StartedSpan → Type 0
Flagged None = Unit {0}
Flagged (Some s) = has_sampled_flag s.start.context.flags ≡ is_sampled s.decision

started-flagged : (tracer : Tracer) (a : StartRequest) (words : Words)
    → Flagged (started_span tracer a words)
unfolding started_span
started-flagged tracer a words = by (ids_of a.parent words)
  where
    by : (o : Option Ids)
        → Flagged
        (option_map (λ ids. started_span_as tracer a ids (decision_of tracer a ids.trace)) o)
    by None = tt
    by (Some ids) = sampled-flag a.parent (is_sampled (decision_of tracer a ids.trace))

outcome-flagged : (setup : Setup) (words : Words) (scope : Option Scope)
    (parent : Option (Option Context)) (k : Kind) (at : ℕ) (name : List ℕ)
    → Flagged (start_result_in setup words scope parent k at name).span
outcome-flagged setup words None parent k at name = tt
outcome-flagged setup words (Some scope) None k at name = tt
outcome-flagged setup words (Some scope) (Some parent) k at name =
    started-flagged (record { provider = setup.provider; scope = scope })
    (start_request parent name k at) words

-- A property of the results of all starts.
module _ (P : Option StartedSpan → Type 0) (setup : Setup)
    (each : (earlier : List StartResult) (r : Bool) (sc : ℕ) (p : Parent) (k : Kind) (at : ℕ)
    (name : List ℕ)
    → P (start_result setup earlier r sc p k at name).span) where
  each-push : (os earlier : List StartResult) (r : Bool) (sc : ℕ) (p : Parent) (k : Kind) (at : ℕ)
      (name : List ℕ)
      → AllByRecursion (λ o. P o.span) os
      → AllByRecursion (λ o. P o.span) (os ++ start_result setup earlier r sc p k at name ∷ [])
  each-push [] earlier r sc p k at name h = (each earlier r sc p k at name, tt)
  each-push (o ∷ os) earlier r sc p k at name h = (h.0, each-push os earlier r sc p k at name h.1)

  each-after : (earlier : List StartResult) (steps : List SpanStep)
      → AllByRecursion (λ o. P o.span) earlier
      → AllByRecursion (λ o. P o.span) (start_results_after setup earlier steps)
  unfolding start_results_after
  each-after earlier [] h = h
  each-after earlier (start r sc p k at name ∷ steps) h =
      each-after (earlier ++ start_result setup earlier r sc p k at name ∷ []) steps
      (each-push earlier earlier r sc p k at name h)
  each-after earlier (call n c ∷ steps) h = each-after earlier steps h

  each-at : (os : List StartResult) → AllByRecursion (λ o. P o.span) os → (n : ℕ) (o : StartResult)
      → slice_get os n ≡ Some o → P o.span
  each-at [] h n o e = cc
  each-at (q ∷ os) h zero o e = let same : q ≡ o = cc in rw same at h.0
  each-at (q ∷ os) h (suc n) o e = each-at os h.1 n o e

  -- What holds of the result of any start holds of the start with this number.
  pub each-outcome : (steps : List SpanStep) (n : ℕ) (o : StartResult)
      → slice_get (start_results setup steps) n ≡ Some o → P o.span
  each-outcome steps n o e = each-at (start_results setup steps) (each-after [] steps tt) n o e

refused-flagged : (refused : Bool) (o : StartResult) → Flagged o.span
    → Flagged (unless_refused refused o).span
refused-flagged true o h = tt
refused-flagged false o h = h

-- A span that a start gave has the sampled flag just if it is sampled.
pub outcome-has-flag : (setup : Setup) (steps : List SpanStep) (n : ℕ) (o : StartResult)
    (s : StartedSpan)
    → slice_get (start_results setup steps) n ≡ Some o → o.span ≡ Some s →
    has_sampled_flag s.start.context.flags ≡ is_sampled s.decision
outcome-has-flag setup steps n o s e f =
    rw f at
    (each-outcome Flagged setup
    (λ earlier r sc p k at name. refused-flagged r _
    (outcome-flagged setup (words_left setup earlier) (slice_get setup.scopes sc)
    (parent_among earlier p) k at name))
    steps n o e)
