-- What a step makes of the spans of a program.
use Rattle.std.proofs.Common.{◌≡◌, refl, sym, ap, ◌∙◌, ℕ, zero, suc, ◌+◌, ◌<◌, ◌≤◌, ◌==◌, nat_lt}
use Rattle.std.proofs.Common.{length, List, [], ◌∷◌, ◌++◌, map, Bool, true, false, true≢false, ◌&&◌}
use Rattle.std.proofs.Common.{◌||◌, Option, Some, None, is_some, option_map, slice_get, arith}
use Rattle.std.proofs.Common.{zero-add, filter_map, Result, Ok, Err, ◌⊎◌, inl, inr}
use mathlib.Core.Path.{fun_ext}
use Rattle.std.specs.List.{slice_set, sum_by}
use Rattle.std.proofs.lemmas.List.{append-nil, length_push}
use Rattle.std.proofs.lemmas.List.Sums.{sum_by_push}
use Rattle.std.proofs.lemmas.Bool.{ltb-true, ltb-false, eqb-true, eq-eqb}
use Rattle.std.proofs.lemmas.Option.{slice_get-map, slice_get_past, slice_get_within}
use Rattle.rand_core.specs.Stream.{Stream}
use Rattle.model_span.specs.Identifiers.{Words, words_after}
use Rattle.model_span.specs.Sampling.{SamplerMeaning, is_recording}
use Rattle.model_span.specs.Spans.{Call, Context, Scope, Kind, span}
use Rattle.model_span.specs.Starts.{Tracer, Provider, HeldSpan, StartedSpan, held_span}
use Rattle.model_span.specs.Starts.{start_request, started_span, ids_words}
use Rattle.model_run.specs.Steps.{Parent, root, numbered, given}
use Rattle.model_run.specs.History.{SpanStep, Setup, StartResult, start, call}
use Rattle.model_run.specs.History.{no_span as nothing_started, start_result, start_result_in}
use Rattle.model_run.specs.History.{start_results_after, start_results, start_count, parent_among}
use Rattle.model_run.specs.History.{unless_refused, words_left, calls_on, call_on}
use Rattle.model_run.specs.History.{context_of_result}
use Rattle.model_run.proofs.Histories.{starts-append, outcomes-call, outcomes-start, outcomes-many}
use Rattle.model_run.proofs.Histories.{calls-more, calls-past, calls-first, get-first}
use Rattle.model_run.specs.Runs.{is_refused}
use Rattle.model_run.specs.Answers.{start_answer, takes_memory}
use Rattle.otlp_ids.specs.WordStream.{words_of}
use Rattle.trace_api.specs.Starts.{ProviderWith, StartTakesMemory, StartsAs, TracerWith}
use Rattle.trace_api.specs.Starts.{tracer_view}
use Rattle.trace_api.specs.declared.provider.StartFault.{StartFault}
use Rattle.trace_api.specs.declared.provider.StartFault.TheVariants as faults
use Rattle.trace_run.specs.Answers.{answer_view}
use Rattle.trace_run.specs.declared.answer.Answer.{Answer}
use Rattle.trace_run.specs.declared.answer.Answer.TheVariants as answers
use Rattle.trace_run.specs.Table.{IsTable, TableWith, context_in, parent_in, span_after}
use Rattle.trace_run.specs.Table.{model_tracers, tracers_of}
use Rattle.trace_run.specs.Opens.{ComesTo, Opens, OpensAs}

-- ---- words

-- The words that one more start leaves are those after the words that all starts spent.
pub words-push : (os : List StartResult) (o : StartResult) (words : Words)
    → words_after o.spent (words_after (sum_by (λ o. o.spent) os) words)
    ≡ words_after (sum_by (λ o. o.spent) (os ++ o ∷ [])) words
words-push os o words =
    fun_ext (λ k. ap words
    (let e = sum_by_push (λ o. o.spent) os o in
    let f : sum_by (λ o. o.spent) os + (o.spent + k) ≡ sum_by (λ o. o.spent) (os ++ o ∷ []) + k =
    omega (arith, e) in
    f))

none-spent : (words : Words) → words ≡ words_after 0 words
none-spent words = fun_ext (λ k. ap words (sym (zero-add k)))

-- ---- lists

get-last : {A : Type 0} (xs : List A) (y : A) → slice_get (xs ++ y ∷ []) (length xs) ≡ Some y
get-last [] y = refl
get-last (x ∷ xs) y = get-last xs y

ne-eqb : (n m : ℕ) → (n ≡ m → ⊥) → (n == m) ≡ false
ne-eqb n m h = by (n == m) refl
  where
    by : (b : Bool) → (n == m) ≡ b → b ≡ false
    by true e = absurd (h (eqb-true n m e))
    by false e = refl

set-own : {A : Type 0} (xs : List A) (n : ℕ) (y : A) → n < length xs
    → slice_get (slice_set xs n y) n ≡ Some y
set-own [] n y h = absurd (omega (arith, h))
set-own (x ∷ xs) zero y h = refl
set-own (x ∷ xs) (suc n) y h = set-own xs n y (omega (arith, h))

set-other : {A : Type 0} (xs : List A) (n m : ℕ) (y : A) → (n == m) ≡ false
    → slice_get (slice_set xs n y) m ≡ slice_get xs m
set-other [] n m y h = refl
set-other (x ∷ xs) zero zero y h = cc
set-other (x ∷ xs) zero (suc m) y h = refl
set-other (x ∷ xs) (suc n) zero y h = refl
set-other (x ∷ xs) (suc n) (suc m) y h =
    set-other xs n m y (ne-eqb n m (λ e. true≢false (sym (eq-eqb (suc n) (suc m) (ap suc e)) ∙ h)))

-- A list in which an element is set to what it is already is unchanged.
pub set-same : {A : Type 0} (xs : List A) (n : ℕ) (y : A) → slice_get xs n ≡ Some y
    → slice_set xs n y ≡ xs
set-same [] n y h = refl
set-same (x ∷ xs) zero y h = let same : x ≡ y = cc in rw same refl
set-same (x ∷ xs) (suc n) y h = ap (λ zs. x ∷ zs) (set-same xs n y h)

-- A list of length 0 is empty.
pub nothing-left : {X : Type 0} (l : List X) → length l ≡ 0 → l ≡ []
nothing-left [] h = refl
nothing-left (x ∷ xs) h = absurd (omega (arith, h))

-- ---- spans

-- the spans of these starts after their calls
abbrev pub AreAfter : (ℕ → List Call) → List StartResult → List (Option HeldSpan) → Type 0
AreAfter calls os spans =
    (n : ℕ) → slice_get spans n ≡ option_map (span_after (calls n)) (slice_get os n)

-- A parent that a start names has the same context in the table and in the history.
pub parent-same : (calls : ℕ → List Call) (os : List StartResult) (spans : List (Option HeldSpan))
    → AreAfter calls os spans → (p : Parent) → parent_in spans p ≡ parent_among os p
unfolding held_span
parent-same calls os spans h root = refl
parent-same calls os spans h (given c) = refl
parent-same calls os spans h (numbered n) = rw (h n) (by (slice_get os n))
  where
    within : (s : Option StartedSpan)
        → context_in (Some (option_map (λ s. held_span s (calls n)) s))
        ≡ option_map (λ s. Some s.start.context) s
    within None = refl
    within (Some s) = refl

    by : (o : Option StartResult)
        → context_in (option_map (span_after (calls n)) o) ≡ context_of_result o
    by None = refl
    by (Some o) = within o.span

-- The slots are right after one more start, with a span or without one.
pub spans-start : (setup : Setup) (done : List SpanStep) (r : Bool) (sc : ℕ) (p : Parent) (k : Kind)
    (at : ℕ) (name : List ℕ) (spans : List (Option HeldSpan)) (span : Option HeldSpan) →
    length spans ≡ length (start_results setup done)
    → AreAfter (λ n. calls_on n done) (start_results setup done) spans
    → span ≡ span_after [] (start_result setup (start_results setup done) r sc p k at name) →
    AreAfter (λ n. calls_on n (done ++ start r sc p k at name ∷ []))
    (start_results setup (done ++ start r sc p k at name ∷ [])) (spans ++ span ∷ [])
spans-start setup done r sc p k at name spans span many h e n =
    rw (outcomes-start setup done r sc p k at name)
    (by (nat_lt n (length os)) refl (n == length os) refl)
  where
    os : List StartResult
    os = start_results setup done

    o : StartResult
    o = start_result setup os r sc p k at name

    x : SpanStep
    x = start r sc p k at name

    by : (l : Bool) → nat_lt n (length os) ≡ l → (s : Bool) → (n == length os) ≡ s
        → slice_get (spans ++ span ∷ []) n
        ≡ option_map (span_after (calls_on n (done ++ x ∷ []))) (slice_get (os ++ o ∷ []) n)
    by true u s v =
        let within : n < length os = ltb-true n (length os) u in
        let started_span : n < start_count done = rw (outcomes-many setup done) at within in
        get-first spans span n (rw many within) ∙ h n
        ∙ ap (λ cs. option_map (span_after cs) (slice_get os n))
        (sym (calls-more n done x started_span ∙ append-nil (calls_on n done)))
        ∙ ap (option_map (span_after (calls_on n (done ++ x ∷ [])))) (sym (get-first os o n within))
    by false u true v =
        let last : n ≡ length os = eqb-true n (length os) v in
        let calls : calls_on (length os) (done ++ x ∷ []) ≡ [] =
        rw (outcomes-many setup done) (calls-first done r sc p k at name) in
        rw (last, calls) (rw (get-last os o) (rw (← many) (get-last spans span) ∙ ap Some e))
    by false u false v =
        let past : length os ≤ n = ltb-false n (length os) u in
        let other : n ≡ length os → ⊥ = λ i. true≢false (sym (eq-eqb n (length os) i) ∙ v) in
        let beyond : length os + 1 ≤ n = omega (arith, past, other) in
        slice_get_past (spans ++ span ∷ []) n
        (let f = length_push spans span in omega (arith, f, many, beyond))
        ∙ sym (ap (option_map (span_after (calls_on n (done ++ x ∷ []))))
        (slice_get_past (os ++ o ∷ []) n (let f = length_push os o in omega (arith, f, beyond))))

-- the calls on other spans
calls-other : (m n : ℕ) (c : Call) (done : List SpanStep) → (n == m) ≡ false
    → calls_on m (done ++ call n c ∷ []) ≡ calls_on m done
calls-other m n c done e = by (nat_lt m (start_count done)) refl
  where
    none : filter_map (call_on m) (call n c ∷ []) ≡ []
    none = rw e refl

    by : (l : Bool) → nat_lt m (start_count done) ≡ l
        → calls_on m (done ++ call n c ∷ []) ≡ calls_on m done
    by true u =
        calls-more m done (call n c) (ltb-true m (start_count done) u)
        ∙ ap (λ cs. calls_on m done ++ cs) none ∙ append-nil (calls_on m done)
    by false u =
        let past : start_count done ≤ m = ltb-false m (start_count done) u in
        calls-past m (done ++ call n c ∷ [])
        (let f = starts-append done (call n c ∷ []) in omega (arith, f, past))
        ∙ sym (calls-past m done past)

calls-own : (n : ℕ) (c : Call) (done : List SpanStep) → n < start_count done
    → calls_on n (done ++ call n c ∷ []) ≡ calls_on n done ++ c ∷ []
calls-own n c done h =
    calls-more n done (call n c) h
    ∙ ap (λ cs. calls_on n done ++ cs)
    (let own : filter_map (call_on n) (call n c ∷ []) ≡ c ∷ [] = rw (eq-eqb n n refl) refl in own)

-- A call on a span that doesn't exist leaves the slots right.
pub spans-same : (setup : Setup) (done : List SpanStep) (n : ℕ) (c : Call)
    (spans : List (Option HeldSpan))
    → AreAfter (λ m. calls_on m done) (start_results setup done) spans →
    ((h : HeldSpan) → slice_get spans n ≡ Some (Some h) → ⊥)
    → AreAfter (λ m. calls_on m (done ++ call n c ∷ []))
    (start_results setup (done ++ call n c ∷ [])) spans
spans-same setup done n c spans h missing m = rw (outcomes-call setup done n c) (by (n == m) refl)
  where
    os : List StartResult
    os = start_results setup done

    later : List Call
    later = calls_on m (done ++ call n c ∷ [])

    none : (o : Option StartResult) → slice_get os m ≡ o → n ≡ m
        → option_map (span_after (calls_on m done)) o ≡ option_map (span_after later) o
    none None e i = refl
    none (Some o) e i = go o.span refl
      where
        go : (s : Option StartedSpan) → o.span ≡ s
            → Some (option_map (λ s. held_span s (calls_on m done)) o.span)
            ≡ Some (option_map (λ s. held_span s later) o.span)
        go None f = rw f refl
        go (Some s) f =
            absurd (missing (held_span s (calls_on m done)) (rw i (h m ∙ rw e (rw f refl))))

    by : (b : Bool) → (n == m) ≡ b
        → slice_get spans m ≡ option_map (span_after later) (slice_get os m)
    by true e = h m ∙ none (slice_get os m) refl (eqb-true n m e)
    by false e =
        h m
        ∙ ap (λ cs. option_map (span_after cs) (slice_get os m)) (sym (calls-other m n c done e))

-- A call on an existing span leaves the slots right, with its effect on this span.
pub spans-called : (setup : Setup) (done : List SpanStep) (n : ℕ) (c : Call)
    (spans : List (Option HeldSpan)) (o : StartResult) (s : StartedSpan) (new : HeldSpan)
    → AreAfter (λ m. calls_on m done) (start_results setup done) spans →
    slice_get (start_results setup done) n ≡ Some o → o.span ≡ Some s
    → new ≡ held_span s (calls_on n done ++ c ∷ [])
    → length spans ≡ length (start_results setup done) →
    AreAfter (λ m. calls_on m (done ++ call n c ∷ [])) (start_results setup (done ++ call n c ∷ []))
    (slice_set spans n (Some new))
spans-called setup done n c spans o s new h e f g many m =
    rw (outcomes-call setup done n c) (by (n == m) refl)
  where
    os : List StartResult
    os = start_results setup done

    within : n < length os
    within = slice_get_within os n o e

    started_span : n < start_count done
    started_span = rw (outcomes-many setup done) at within

    by : (b : Bool) → (n == m) ≡ b
        → slice_get (slice_set spans n (Some new)) m
        ≡ option_map (span_after (calls_on m (done ++ call n c ∷ []))) (slice_get os m)
    by true i =
        let same : n ≡ m = eqb-true n m i in
        rw (← same)
        (rw (e, calls-own n c done started_span)
        (set-own spans n (Some new) (rw many within) ∙ ap Some (ap Some g ∙ rw f refl)))
    by false i =
        set-other spans n m (Some new) i ∙ h m
        ∙ ap (λ cs. option_map (span_after cs) (slice_get os m)) (sym (calls-other m n c done i))

-- ---- the tracer of a scope, and the result of a start

tracer-there : {T : Type 0} (view : T → Tracer) (provider : Provider) (tracers : List T)
    (scopes : List Scope) (n : ℕ) (t : T) →
    map view tracers ≡ model_tracers provider scopes → slice_get tracers n ≡ Some t
    → (scope : Scope) × (slice_get scopes n ≡ Some scope)
    × (view t ≡ record { provider = provider; scope = scope })
tracer-there view provider tracers scopes n t e there = by (slice_get scopes n) refl
  where
    both : Some (view t)
        ≡ option_map (λ scope. record { provider = provider; scope = scope }) (slice_get scopes n)
    both =
        sym (slice_get-map view tracers n ∙ rw there refl) ∙ ap (λ ts. slice_get ts n) e
        ∙ slice_get-map (λ scope. record { provider = provider; scope = scope }) scopes n

    by : (o : Option Scope) → slice_get scopes n ≡ o
        → (scope : Scope) × (slice_get scopes n ≡ Some scope)
        × (view t ≡ record { provider = provider; scope = scope })
    by None f = let no : Some (view t) ≡ None = both ∙ rw f refl in cc
    by (Some scope) f = (
      scope,
      f,
      (let one : Some (view t) ≡ Some (record { provider = provider; scope = scope }) =
          both ∙ rw f refl in
          cc),
    )

tracer-past : {T : Type 0} (view : T → Tracer) (provider : Provider) (tracers : List T)
    (scopes : List Scope) (n : ℕ) →
    map view tracers ≡ model_tracers provider scopes → slice_get tracers n ≡ None
    → slice_get scopes n ≡ None
tracer-past view provider tracers scopes n e none = by (slice_get scopes n) refl
  where
    tracer : Scope → Tracer
    tracer scope = record { provider = provider; scope = scope }

    both : ◌≡◌ {A = Option Tracer} None (option_map tracer (slice_get scopes n))
    both =
        sym (slice_get-map view tracers n ∙ rw none refl) ∙ ap (λ ts. slice_get ts n) e
        ∙ slice_get-map (λ scope. record { provider = provider; scope = scope }) scopes n

    by : (o : Option Scope) → slice_get scopes n ≡ o → o ≡ None
    by None f = refl
    by (Some scope) f =
        let no : ◌≡◌ {A = Option Tracer} None (Some (tracer scope)) = both ∙ rw f refl in cc

-- whether the scope and the parent of a start are there
abbrev pub is_there : Setup → List StartResult → ℕ → Parent → Bool
is_there setup os sc p = is_some (slice_get setup.scopes sc) && is_some (parent_among os p)

-- A start takes no word and gives no span where the scope or the parent doesn't exist.
comes-to-none : (setup : Setup) (os : List StartResult) (sc : ℕ) (p : Parent) (k : Kind) (at : ℕ)
    (name : List ℕ) (words : Words)
    → (slice_get setup.scopes sc ≡ None) ⊎ (parent_among os p ≡ None) →
    ComesTo (start_result setup os false sc p k at name) (is_there setup os sc p) words words
    (Err answers.NoSpan)
comes-to-none setup os sc p k at name words h =
    rw (none h) (record { words = none-spent words; opens = (away h, refl) })
  where
    no-scope : (q : Option (Option Context))
        → start_result_in setup (words_left setup os) None q k at name ≡ nothing_started
    no-scope None = refl
    no-scope (Some q) = refl

    no-parent : (s : Option Scope)
        → start_result_in setup (words_left setup os) s None k at name ≡ nothing_started
    no-parent None = refl
    no-parent (Some s) = refl

    none : (slice_get setup.scopes sc ≡ None) ⊎ (parent_among os p ≡ None)
        → start_result setup os false sc p k at name ≡ nothing_started
    none (inl e) = rw e (no-scope (parent_among os p))
    none (inr e) = rw e (no-parent (slice_get setup.scopes sc))

    neither : (b : Bool) → (b && false) ≡ false
    neither true = refl
    neither false = refl

    away : (slice_get setup.scopes sc ≡ None) ⊎ (parent_among os p ≡ None)
        → is_there setup os sc p ≡ false
    away (inl e) = rw e refl
    away (inr e) = rw e (neither (is_some (slice_get setup.scopes sc)))

-- A start whose scope and parent exist has the result of its tracer.
comes-to : (setup : Setup) (os : List StartResult) (sc : ℕ) (p : Parent) (k : Kind) (at : ℕ)
    (name : List ℕ) (before after : Words) (t : Tracer) (scope : Scope) (parent : Option Context)
    (result : Result HeldSpan Answer) →
    slice_get setup.scopes sc ≡ Some scope → t ≡ record { provider = setup.provider; scope = scope }
    → parent_among os p ≡ Some parent → before ≡ words_left setup os →
    OpensAs true (started_span t (start_request parent name k at) before) result
    → after ≡ words_after (ids_words (start_request parent name k at).parent before) before →
    ComesTo (start_result setup os false sc p k at name)
    (is_there setup os sc p) before after result
comes-to setup os sc p k at name before after t scope parent result there tracer from standing made
    spent =
    rw (there, from, ← tracer, ← standing) (record { words = spent; opens = made })

-- ---- a start

-- A start takes the same words where memory is refused for its span.
spent-same : (r : Bool) (o : StartResult) → (unless_refused r o).spent ≡ o.spent
spent-same true o = refl
spent-same false o = refl

-- The table is that of the steps and one more start, with its slot and its words.
pub started-is : {S R : Type 0} (meaning : S → SamplerMeaning) (stream : R → Stream) (setup : Setup)
    (steps : List SpanStep) (r : Bool) (sc : ℕ) (p : Parent) (k : Kind) (at : ℕ) (name : List ℕ)
    (old new : TableWith S R) (span : Option HeldSpan) →
    IsTable meaning stream setup steps old → new.tracers ≡ old.tracers
    → new.spans ≡ old.spans ++ span ∷ [] →
    words_of (stream new.rng)
    ≡ words_after (start_result setup (start_results setup steps) false sc p k at name).spent
    (words_of (stream old.rng)) →
    span ≡ span_after [] (start_result setup (start_results setup steps) r sc p k at name)
    → IsTable meaning stream setup (steps ++ start r sc p k at name ∷ []) new
started-is meaning stream setup steps r sc p k at name old new span h t items spent is = record {
  tracers = ap (map (tracer_view meaning)) t ∙ h.tracers;
  words =
      spent ∙ ap (words_after plain.spent) h.words
      ∙ ap (λ n. words_after n (words_left setup os)) (sym (spent-same r plain))
      ∙ words-push os o setup.words ∙ ap (words_left setup) (sym more);
  many =
      ap length items ∙ length_push old.spans span ∙ ap (λ n. n + 1) h.many ∙ sym (length_push os o)
      ∙ ap length (sym more);
  spans =
      λ n. rw items (spans-start setup steps r sc p k at name old.spans span h.many h.spans is n);
}
  where
    os : List StartResult
    os = start_results setup steps

    plain : StartResult
    plain = start_result setup os false sc p k at name

    o : StartResult
    o = start_result setup os r sc p k at name

    more : start_results setup (steps ++ start r sc p k at name ∷ []) ≡ os ++ o ∷ []
    more = outcomes-start setup steps r sc p k at name

-- the answer to a start, and the span of its slot
pub record TellsStart (there : Bool) (o : StartResult) (answer : Answer)
    (span : Option HeldSpan) : Type 0 where
  pub answered : answer_view answer ≡ start_answer there (is_refused (answer_view answer)) o.span
  pub slot : span ≡ span_after [] (unless_refused (is_refused (answer_view answer)) o)

-- no span
tells-none : (there : Bool) (o : StartResult) (answer : Answer) → OpensAs there o.span (Err answer)
    → TellsStart there o answer None
tells-none there o (answers.Started trace id) h = absurd h
tells-none there o answers.NoRandomness h =
    record { answered = rw (h.1, h.0) refl; slot = rw h.1 refl }
tells-none there o answers.OutOfMemory h = record { answered = rw (h.1, h.2) refl; slot = refl }
tells-none there o answers.NoSpan h = record { answered = rw (h.1, h.0) refl; slot = rw h.1 refl }
tells-none there o answers.Done h = absurd h
tells-none there o (answers.Ended said) h = absurd h
tells-none there o answers.Flush h = absurd h
tells-none there o answers.Shutdown h = absurd h
tells-none there o (answers.Taken batch spans) h = absurd h
tells-none there o answers.NotTaken h = absurd h
tells-none there o (answers.Encoded batch length) h = absurd h
tells-none there o (answers.Dropped batch reason) h = absurd h
tells-none there o (answers.Sent batch attempt outcome) h = absurd h
tells-none there o (answers.Replied batch next) h = absurd h
tells-none there o answers.Early h = absurd h
tells-none there o answers.Nothing h = absurd h

-- A start without a span has the answer of the model, and an empty slot.
pub comes-none : {there : Bool} {o : StartResult} {before after : Words} (answer : Answer)
    → ComesTo o there before after (Err answer) → TellsStart there o answer None
comes-none {there = there} {o = o} answer h = tells-none there o answer h.opens

-- A start with a span has the answer of the model, and the span in its slot.
pub comes-span : {there : Bool} {o : StartResult} {before after : Words} {span : HeldSpan}
    (trace id : List ℕ)
    → ComesTo o there before after (Ok span) → trace ≡ span.context.trace → id ≡ span.context.span →
    (Rattle.model_run.specs.Runs.started (record { trace = trace; span = id })
    ≡ start_answer there false o.span)
    × (Some span ≡ span_after [] o)
unfolding held_span
comes-span {span = span} trace id h t i =
    let opens = h.opens in
    let place : span.context ≡ opens.0.start.context = ap (λ x. x.context) opens.2 in
    (rw (t, i, place, opens.1) refl, rw (opens.1, opens.2) refl)

-- ---- nothing is done yet

-- A table without spans, with the words of the setup, is the table of no steps.
pub begun : {S R : Type 0} (meaning : S → SamplerMeaning) (stream : R → Stream) (setup : Setup)
    (t : TableWith S R)
    → map (tracer_view meaning) t.tracers ≡ model_tracers setup.provider setup.scopes →
    words_of (stream t.rng) ≡ setup.words → t.spans ≡ [] → IsTable meaning stream setup [] t
unfolding start_results_after
begun meaning stream setup t tracers w s = record {
  tracers = tracers;
  words = w ∙ none-spent setup.words;
  many = ap length s;
  spans = λ n. ap (λ xs. slice_get xs n) s ∙ none n;
}
  where
    none : (n : ℕ) → slice_get [] n ≡ option_map (span_after (calls_on n [])) (slice_get [] n)
    none n = refl

-- The tracers of a provider are in the model the tracers of its meaning, one for each scope.
pub tracers-are : {S : Type 0} (meaning : S → SamplerMeaning) (provider : ProviderWith S)
    (scopes : List Scope) (tracers : List (TracerWith S))
    → tracers ≡ tracers_of provider scopes →
    map (tracer_view meaning) tracers
    ≡ model_tracers (record {
      sampler = meaning provider.sampler;
      resource = provider.resource;
      limits = provider.limits;
    })
    scopes
tracers-are meaning provider scopes tracers e = ap (map (tracer_view meaning)) e ∙ all scopes
  where
    all : (scopes : List Scope)
        → map (tracer_view meaning) (tracers_of provider scopes)
        ≡ model_tracers (record {
          sampler = meaning provider.sampler;
          resource = provider.resource;
          limits = provider.limits;
        })
        scopes
    all [] = refl
    all (s ∷ rest) =
        ap (λ ts. tracer_view meaning (record { provider = provider; scope = s }) ∷ ts) (all rest)

-- ---- how a span opens

-- starting it takes memory
memory-is : (s : StartedSpan) → StartTakesMemory s → takes_memory s ≡ true
memory-is s (inl e) = rw e refl
memory-is s (inr e) = rw e (either (is_recording s.decision))
  where
    either : (b : Bool) → (b || true) ≡ true
    either true = refl
    either false = refl

-- the answer to a start, by the result of the tracer
abbrev pub said_of : Result HeldSpan StartFault → Result HeldSpan Answer
said_of (Ok span) = Ok span
said_of (Err faults.NoRandomness) = Err answers.NoRandomness
said_of (Err faults.OutOfMemory) = Err answers.OutOfMemory

-- A span that a tracer starts, or its fault, opens as the model says where scope and parent exist.
pub opens-as : (there : Option StartedSpan) (r : Result HeldSpan StartFault) → StartsAs there r
    → OpensAs true there (said_of r)
opens-as there (Ok span) h = h
opens-as there (Err faults.NoRandomness) h = (refl, h)
opens-as there (Err faults.OutOfMemory) h = (h.0, h.1, memory-is h.0 h.2)

module _ {S R : Type 0} (meaning : S → SamplerMeaning) (stream : R → Stream) (sc : ℕ) (p : Parent)
    (k : Kind) (at : ℕ) (name : List ℕ) (old : TableWith S R) where
  -- A start in a scope that doesn't exist opens no span and changes nothing.
  pub opens-no-scope : slice_get old.tracers sc ≡ None
      → Opens meaning stream sc p k at name old (Err answers.NoSpan) old
  opens-no-scope e = record {
    tracers = refl;
    spans = refl;
    room = refl;
    comes =
        λ setup steps h. comes-to-none setup (start_results setup steps) sc p k at name
        (words_of (stream old.rng))
        (inl
        (tracer-past (tracer_view meaning) setup.provider old.tracers setup.scopes sc h.tracers e));
  }

  -- A start under a parent that doesn't exist opens no span and changes nothing.
  pub opens-no-parent : parent_in old.spans p ≡ None
      → Opens meaning stream sc p k at name old (Err answers.NoSpan) old
  opens-no-parent e = record {
    tracers = refl;
    spans = refl;
    room = refl;
    comes = λ setup steps h.
        let os = start_results setup steps in
        comes-to-none setup os sc p k at name (words_of (stream old.rng))
        (inr (sym (parent-same (λ n. calls_on n steps) os old.spans h.spans p) ∙ e));
  }

  -- A start in an existing scope, under an existing parent, opens what the tracer starts.
  pub opens-with : (new : TableWith S R) (tracer : TracerWith S) (parent : Option Context)
      (r : Result HeldSpan StartFault) (result : Result HeldSpan Answer)
      → new.tracers ≡ old.tracers → new.spans ≡ old.spans → new.room ≡ old.room →
      slice_get old.tracers sc ≡ Some tracer → parent_in old.spans p ≡ Some parent
      → StartsAs (started_span (tracer_view meaning tracer) (start_request parent name k at)
      (words_of (stream old.rng)))
      r
      → result ≡ said_of r →
      words_of (stream new.rng)
      ≡ words_after (ids_words (start_request parent name k at).parent (words_of (stream old.rng)))
      (words_of (stream old.rng))
      → Opens meaning stream sc p k at name old result new
  opens-with new tracer parent r result t s m there from starts said spent = record {
    tracers = t;
    spans = s;
    room = m;
    comes = λ setup steps h.
        let os = start_results setup steps in
        let found =
        tracer-there
        (tracer_view meaning) setup.provider old.tracers setup.scopes sc tracer h.tracers there in
        let given : parent_among os p ≡ Some parent =
        sym (parent-same (λ n. calls_on n steps) os old.spans h.spans p) ∙ from in
        rw said
        (comes-to setup os sc p k at name (words_of (stream old.rng)) (words_of (stream new.rng))
        (tracer_view meaning tracer) found.0 parent (said_of r) found.1 found.2 given h.words
        (opens-as _ r starts) spent);
  }
