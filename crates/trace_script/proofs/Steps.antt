-- What a step of a script makes of its spans, and of those that are kept for its body.
use Rattle.std.proofs.Common.{◌≡◌, refl, sym, ap, ◌∙◌, ℕ, zero, suc, ◌+◌, ◌<◌, ◌≤◌, ◌^◌}
use Rattle.std.proofs.Common.{nat_lt, length, List, [], ◌∷◌, ◌++◌, map, filter, drop, append_assoc}
use Rattle.std.proofs.Common.{cond, Bool, true, false, not, ◌&&◌, Option, Some, None, IfSome}
use Rattle.std.proofs.Common.{slice_get, arith, add-zero, ◌⊎◌, filter_map, get_or, ⊎_elim, inl, inr}
use mathlib.Core.Path.{fun_ext}
use Rattle.std.specs.List.{list_any, take_while, cons_option}
use Rattle.std.proofs.lemmas.List.Sums.{take_while-cons}
use Rattle.std.specs.Option.{option_to_list, option_and_then}
use Rattle.std.proofs.lemmas.List.{append-nil, get_or-drop}
use Rattle.std.proofs.lemmas.Bool.{lt-ltb, ltb-true}
use Rattle.std.proofs.lemmas.Option.{slice_get_within}
use Rattle.rand_core.specs.Stream.{next_u64}
use Rattle.rand_core.specs.Steps.{steps_u64_high, stream_of}
use Rattle.rand_core.proofs.StepsLemmas.{next_u64-stream_of}
use Rattle.std.proofs.Math.Nat.{min-eq_left}
use Rattle.std.proofs.Math.Seq.{drop-nil, drop-cons}
use Rattle.model_span.specs.Sampling.{is_sampled}
use Rattle.model_span.specs.Spans.{Call, Kind, SpanData, end, end_of, is_end, with_ticket}
use Rattle.model_span.specs.Starts.{StartedSpan, exported_span}
use Rattle.model_run.specs.Steps as program
use Rattle.model_run.specs.Steps.{Parent, Step, is_shutdown}
use Rattle.model_run.specs.History.{SpanStep, Setup, StartResult, start_results, calls_on}
use Rattle.model_run.specs.History.{ended_spans, exported_of, exported_if_sampled, start_count}
use Rattle.model_run.specs.History.{with_tickets, granted_steps, span_step}
use Rattle.model_run.proofs.Histories.{outcomes-many, ended-start, ended-no-more, ended-more}
use Rattle.model_run.specs.Runs.{Answer, is_refused}
use Rattle.trace_script.specs.Scripts.{Script}
use Rattle.trace_script.specs.Parsed.{Means}
use Rattle.trace_script.specs.declared.parse.Script.{Script as CodeScript}
use Rattle.otlp_ids.specs.WordStream.{after_words, words_of}
use Rattle.trace_run.specs.Table.{TableWith, TakesStep, IsTable, span_numbered, calls_so_far}
use Rattle.trace_run.specs.Ends.{EndsAs, EndsBy}
use Rattle.trace_api.specs.Pass.{Body, Admits, counted_spans, with_span}
use Rattle.trace_api.specs.declared.pass.Ended.{Ended as CodeEnded}
use Rattle.trace_run.specs.Steps.{step_view}
use Rattle.trace_run.specs.Answers.{answer_view}
use Rattle.trace_run.specs.declared.answer.Answer.{Answer as CodeAnswer}
use Rattle.trace_api.specs.Words.{next, stream}
use Rattle.trace_script.specs.Recorded.{words_of_list, spans_of}
use Rattle.trace_script.specs.declared.sampler.ScriptSampler.{ScriptSampler}
use Rattle.trace_script.specs.Recorder.{Records, Stands, begins, granted, keeping, meaning}
use Rattle.trace_script.specs.Recorder.{setup_view, start_steps}

-- ---- words

drop-next : (n : ℕ) (ws : List ℕ) → drop 1 (drop n ws) ≡ drop (suc n) ws
drop-next zero ws = refl
drop-next (suc n) [] = rw drop-nil refl
drop-next (suc n) (w ∷ ws) = drop-next n ws

words-after : (ws : List ℕ) (n : ℕ) → after_words n (stream ws) ≡ stream (drop n ws)
unfolding after_words next_u64 stream_of
words-after ws zero = refl
words-after ws (suc n) =
    ap (λ t. (next_u64 t).1) (words-after ws n)
    ∙ ap (λ p. p.1) (next_u64-stream_of (steps_u64_high next) (drop n ws))
    ∙ ap stream (drop-next n ws)

-- The words of a generator's stream are those of the script, and then zeros.
pub words-are : (ws : List ℕ) → words_of (stream ws) ≡ words_of_list ws
unfolding words_of next_u64 stream_of
words-are ws =
    fun_ext (λ n. ap (λ t. (next_u64 t).0) (words-after ws n) ∙ get_or-drop n ws 0 0
    ∙ ap (λ i. get_or ws i 0) (add-zero n))

-- ---- ends

-- a number of spans that is no larger than can be counted
counted-few : (n : ℕ) → n < 2 ^ 64 → counted_spans (n + 0) ≡ n
counted-few n h = rw add-zero (min-eq_left (omega (arith, h)))

exported-by : (calls : List Call) (r : Option StartResult)
    → exported_of calls r
    ≡ option_and_then (exported_if_sampled calls) (option_and_then (λ o. o.span) r)
exported-by calls None = refl
exported-by calls (Some o) = refl

-- an end of the span with this number, after these steps
module _ (setup : Setup) (done : List SpanStep) (n at : ℕ) where
  abbrev calls : List Call
  calls = calls_on n done

  abbrev later-calls : List Call
  later-calls = calls ++ end at ∷ []

  abbrev now : List SpanData
  now = ended_spans setup (done ++ SpanStep.call n (end at) ∷ [])

  -- it isn't its first, or there is nothing to export
  unchanged : (s : Option StartedSpan) → span_numbered setup done n ≡ s
      → (list_any is_end calls ≡ true)
      ⊎ (option_and_then (exported_if_sampled later-calls) s ≡ None)
      → now ≡ ended_spans setup done
  unchanged s e (inl had) = ended-no-more setup done n (end at) (by (nat_lt n (start_count done)))
    where
      by : (b : Bool) → (is_end (end at) && b && not (list_any is_end calls)) ≡ false
      by true = rw had refl
      by false = refl
  unchanged s e (inr none) = by (nat_lt n (start_count done)) refl (list_any is_end calls) refl
    where
      exported : exported_of later-calls (slice_get (start_results setup done) n) ≡ None
      exported =
          exported-by later-calls (slice_get (start_results setup done) n)
          ∙ ap (option_and_then (exported_if_sampled later-calls)) e ∙ none

      by : (l : Bool) → nat_lt n (start_count done) ≡ l → (b : Bool) → list_any is_end calls ≡ b
          → now ≡ ended_spans setup done
      by false f b g = ended-no-more setup done n (end at) (rw f refl)
      by true f true g = ended-no-more setup done n (end at) (rw (f, g) refl)
      by true f false g =
          (ended-more setup done n (end at) refl (ltb-true n (start_count done) f) g).0
          ∙ rw exported (append-nil (ended_spans setup done))

  -- it is the first end of a sampled span
  module _ (s : StartedSpan) (there : span_numbered setup done n ≡ Some s)
      (first : list_any is_end calls ≡ false) (sampled : is_sampled s.decision ≡ true) where
    within : n < start_count done
    within = by (slice_get (start_results setup done) n) refl
      where
        by : (r : Option StartResult) → slice_get (start_results setup done) n ≡ r
            → n < start_count done
        by None e =
            let no : None ≡ Some s = sym (ap (option_and_then (λ o. o.span)) e) ∙ there in cc
        by (Some o) e =
            rw (outcomes-many setup done) at (slice_get_within (start_results setup done) n o e)

    more : (now
        ≡ ended_spans setup done
        ++ with_tickets (length (ended_spans setup done))
        (option_to_list (exported_of later-calls (slice_get (start_results setup done) n))))
        × (length (ended_spans setup done) < start_count done)
    more = ended-more setup done n (end at) refl within first

    gained : now
        ≡ ended_spans setup done
        ++ with_ticket (length (ended_spans setup done)) (exported_span s later-calls) ∷ []
    gained =
        let exported : exported_of later-calls (slice_get (start_results setup done) n)
        ≡ Some (exported_span s later-calls) =
        exported-by later-calls (slice_get (start_results setup done) n)
        ∙ ap (option_and_then (exported_if_sampled later-calls)) there ∙ rw sampled refl in
        more.0
        ∙ ap (λ o.
        ended_spans setup done ++ with_tickets (length (ended_spans setup done)) (option_to_list o))
        exported

    taken : (room : ℕ) (said : CodeEnded) (before after : Body)
        → before ≡ keeping (ended_spans setup done) room → start_count done ≤ room → room < 2 ^ 64
        → Admits before (exported_span s later-calls) said after → after ≡ keeping now room
    taken room said before after standing enough countable admitted =
        let many : ℕ = length (ended_spans setup done) in
        let few : many < room = let f = more.1 in omega (arith, f, enough) in
        let has : nat_lt many room ≡ true = lt-ltb many room few in
        let ticket : counted_spans (many + 0) ≡ many =
        counted-few many (omega (arith, few, countable)) in
        let kept : with_span before (exported_span s later-calls)
        ≡ keeping
        (ended_spans setup done ++ with_ticket many (exported_span s later-calls) ∷ []) room =
        rw (standing, has)
        (ap (λ t.
        keeping (ended_spans setup done ++ with_ticket t (exported_span s later-calls) ∷ []) room)
        ticket) in
        admitted.kept ∙ kept ∙ ap (λ es. keeping es room) (sym gained)

  -- whatever it is
  ended-keeps : (room : ℕ) (answer : CodeAnswer) (before after : Body)
      → before ≡ keeping (ended_spans setup done) room → start_count done ≤ room → room < 2 ^ 64
      → (s : Option StartedSpan) → span_numbered setup done n ≡ s
      → EndsAs Admits s calls at before answer after → after ≡ keeping now room
  ended-keeps room answer before after standing enough countable None there ends =
      ends.untouched ∙ standing ∙ ap (λ es. keeping es room) (sym (unchanged None there (inr refl)))
  ended-keeps room answer before after standing enough countable (Some s) there ends =
      by (list_any is_end calls) refl (is_sampled s.decision) refl ends
    where
      same : (list_any is_end calls ≡ true)
          ⊎ (option_and_then (exported_if_sampled later-calls) (Some s) ≡ None)
          → after ≡ before → after ≡ keeping now room
      same why untouched =
          untouched ∙ standing ∙ ap (λ es. keeping es room) (sym (unchanged (Some s) there why))

      by : (b : Bool) → list_any is_end calls ≡ b → (d : Bool) → is_sampled s.decision ≡ d
          → EndsBy Admits b d (exported_span s later-calls) before answer after
          → after ≡ keeping now room
      by true e d f alone = same (inl e) alone.untouched
      by false e false f alone = same (inr (rw f refl)) alone.untouched
      by false e true f asked =
          taken s there e f room asked.said before after standing enough countable asked.asked

-- ---- steps

abbrev Table : Type 0
Table = TableWith ScriptSampler (List ℕ)

-- A step that starts a span and ends none keeps the record of the spans.
pub started : (sc : ℕ) (p : Parent) (k : Kind) (at : ℕ) (name : List ℕ) (answer : Answer)
    (old new : Table) (before : Body)
    → is_refused answer ≡ false
    → TakesStep meaning stream (program.start sc p k at name) answer old new
    → length old.spans + 1 ≤ old.room → length new.spans ≡ length old.spans + 1
    → new.room ≡ old.room → Records (granted (program.start sc p k at name)) old before new before
started sc p k at name answer old new before granted-it takes enough many room setup done h =
    record {
      spans = rw granted-it at (takes setup done h.spans);
      kept = h.kept ∙ rw (room, ended-start setup done false sc p k at name) refl;
      within = omega (arith, enough, many, room);
      bound = rw room h.bound;
    }

-- a call is an end or it isn't
which : (c : Call) → ((is_end c ≡ false) × (end_of c ≡ None)) ⊎ ((at : ℕ) × (c ≡ end at))
which (Call.set_attribute p) = inl (refl, refl)
which (Call.add_event n a p) = inl (refl, refl)
which (Call.record_exception k m s a p) = inl (refl, refl)
which (Call.add_link x p) = inl (refl, refl)
which (Call.set_status s) = inl (refl, refl)
which (Call.update_name n) = inl (refl, refl)
which (Call.end at) = inr (at, refl)

-- A step that makes a call on a span, be it an end or not, keeps the record of the spans.
pub called : (n : ℕ) (c : Call) (answer : CodeAnswer) (old new : Table) (before after : Body)
    → is_refused (answer_view answer) ≡ false
    → TakesStep meaning stream (program.call n c) (answer_view answer) old new
    → (is_end c ≡ false → after ≡ before)
    → IfSome (end_of c)
    (λ at. (setup : Setup) (steps : List SpanStep) → IsTable meaning stream setup steps old
    → EndsAs Admits (span_numbered setup steps n) (calls_so_far steps n) at before answer after)
    → length new.spans ≡ length old.spans → new.room ≡ old.room
    → Records (granted (program.call n c)) old before new after
called n c answer old new before after granted-it takes other ends many room setup done h = record {
  spans = rw granted-it at (takes setup done h.spans);
  kept = rw room (⊎_elim not-end (λ e. an-end e.0 e.1) (which c));
  within = rw (many, room) h.within;
  bound = rw room h.bound;
}
  where
    enough : start_count done ≤ old.room
    enough =
        let m = h.spans.many ∙ outcomes-many setup done in let w = h.within in omega (arith, m, w)

    not-end : (is_end c ≡ false) × (end_of c ≡ None)
        → after ≡ keeping (ended_spans setup (done ++ SpanStep.call n c ∷ [])) old.room
    not-end e =
        other e.0 ∙ h.kept
        ∙ ap (λ es. keeping es old.room) (sym (ended-no-more setup done n c (rw e.0 refl)))

    an-end : (at : ℕ) → c ≡ end at
        → after ≡ keeping (ended_spans setup (done ++ SpanStep.call n c ∷ [])) old.room
    an-end at e =
        let said : EndsAs Admits (span_numbered setup done n)
        (calls_so_far done n) at before answer after =
        (rw e at ends) setup done h.spans in
        rw e
        (ended-keeps setup done n at old.room answer before after h.kept enough h.bound
        (span_numbered setup done n) refl said)

-- A step that isn't about spans keeps the record of the spans.
pub idle : (old : Table) (before : Body) → Records [] old before old before
idle old before setup done h = rw (append-nil done) h

-- ---- lists of steps

-- Two lists of steps that keep the record of the spans do so one after the other.
pub records-more : (a b : List SpanStep) (t0 t1 t2 : Table) (p0 p1 p2 : Body)
    → Records a t0 p0 t1 p1 → Records b t1 p1 t2 p2 → Records (a ++ b) t0 p0 t2 p2
records-more a b t0 t1 t2 p0 p1 p2 f g setup done h =
    rw (sym (append_assoc done a b)) (g setup (done ++ a) (f setup done h))

-- The steps that count are those of the first step and those after it, if it is no shutdown.
pub granted-cons : (x : Step) (xs : List Step) → is_shutdown x ≡ false
    → granted_steps (x ∷ xs) ≡ granted x ++ granted_steps xs
granted-cons x xs e =
    ap (filter_map (span_step false))
    (take_while-cons (λ y. not (is_shutdown y)) x xs
    ∙ ap (λ b. cond (not b) (x ∷ take_while (λ y. not (is_shutdown y)) xs) []) e)
    ∙ by (span_step false x)
  where
    by : (o : Option SpanStep)
        → cons_option o (granted_steps xs) ≡ option_to_list o ++ granted_steps xs
    by None = refl
    by (Some s) = refl

-- No step counts from a shutdown on.
pub granted-shut : (x : Step) (xs : List Step) → is_shutdown x ≡ true → granted_steps (x ∷ xs) ≡ []
granted-shut x xs e =
    ap (filter_map (span_step false))
    (take_while-cons (λ y. not (is_shutdown y)) x xs
    ∙ ap (λ b. cond (not b) (x ∷ take_while (λ y. not (is_shutdown y)) xs) []) e)

-- The starts among some steps are the one of the first step, if it is one, and those after it.
pub starts-cons : (x : Step) (xs : List Step)
    → start_steps (x ∷ xs) ≡ start_steps (x ∷ []) + start_steps xs
starts-cons x xs = by (begins x)
  where
    by : (b : Bool)
        → length (cond b (x ∷ filter begins xs) (filter begins xs))
        ≡ length (cond b (x ∷ []) []) + length (filter begins xs)
    by true = omega arith
    by false = omega arith

one-more : {X Y : Type 0} (b : Bool) (x : X) (xs : List X) (y : Y) (ys : List Y)
    → length xs ≡ length ys → length (cond b (x ∷ xs) xs) ≡ length (cond b (y ∷ ys) ys)
one-more true x xs y ys e = ap suc e
one-more false x xs y ys e = e

-- The starts among the steps of a script are as many as in the model.
pub starts-among : {X : Type 0} (view : X → Step) (xs : List X)
    → length (filter (λ x. begins (view x)) xs) ≡ start_steps (map view xs)
starts-among view [] = refl
starts-among view (x ∷ xs) =
    one-more (begins (view x)) x (filter (λ y. begins (view y)) xs) (view x)
    (filter begins (map view xs)) (starts-among view xs)

-- At most as many steps are starts as there are steps.
pub starts-few : (steps : List Step) → start_steps steps ≤ length steps
starts-few [] = omega arith
starts-few (x ∷ steps) = by (begins x) (starts-few steps)
  where
    by : (b : Bool) → length (filter begins steps) ≤ length steps
        → length (cond b (x ∷ filter begins steps) (filter begins steps)) ≤ length (x ∷ steps)
    by true h = omega (arith, h)
    by false h = omega (arith, h)

-- Before the first step, a table without spans and an empty body are the record of no steps.
pub begun : (setup : Setup) (steps : List Step) (table : Table) (pass : Body)
    → IsTable meaning stream setup [] table → table.spans ≡ [] → table.room ≡ start_steps steps
    → pass ≡ keeping [] (start_steps steps) → start_steps steps < 2 ^ 64
    → Stands setup [] table pass
begun setup steps table pass is empty room kept bound = record {
  spans = is;
  kept = kept ∙ rw room refl;
  within = rw empty (omega arith);
  bound = rw room bound;
}

-- A list from a place on begins with the item at this place.
pub next-item : {X : Type 0} (xs : List X) (i : ℕ) (x : X) → i < length xs → x ≡ get_or xs i x
    → drop i xs ≡ x ∷ drop (i + 1) xs
next-item xs i x small is =
    drop-cons xs i x small ∙ ap (λ y. y ∷ drop (suc i) xs) (sym is)
    ∙ (let e : suc i ≡ i + 1 = omega arith in ap (λ j. x ∷ drop j xs) e)

-- A list from its end on is empty.
pub none-left : {X : Type 0} (xs : List X) (i : ℕ) → length xs ≤ i → drop i xs ≡ []
none-left [] i h = drop-nil i
none-left (x ∷ xs) zero h = absurd (omega (arith, h))
none-left (x ∷ xs) (suc i) h = none-left xs i (omega (arith, h))

-- ---- scripts

-- The spans that end in the script of the code are those of the script that was read.
pub same-script : {A : Type 0} (c : CodeScript A) (read : Script) → Means c read
    → ended_spans (setup_view c) (granted_steps (map step_view c.steps.items)) ≡ spans_of read
same-script c read m = rw (m.words, m.sampler, m.limits, m.resource, m.scopes, m.steps) refl
