-- One more step of a run.
use Rattle.std.proofs.Common.{◌≡◌, refl, sym, ap, subst, ◌∙◌, ℕ, List, [], ◌∷◌, ◌++◌, append_assoc}
use Rattle.std.proofs.Common.{Bool, true, false, true≢false, not, cond, ◌||◌, Option, Some, None}
use Rattle.std.proofs.Common.{slice_get, filter_map, option_map}
use Rattle.std.specs.List.{list_any, cons_option}
use Rattle.std.specs.Option.{option_and_then, option_to_list}
use Rattle.std.proofs.lemmas.List.{append-nil}
use Rattle.std.proofs.lemmas.List.Sums.{take_while-cons}
use Rattle.model_span.specs.Sampling.{is_sampled}
use Rattle.model_span.specs.Spans.{Call, with_ticket}
use Rattle.model_span.specs.Starts.{StartedSpan, exported_span}
use Rattle.model_desk.specs.Queue.{DeskEvent}
use Rattle.model_desk.proofs.Lists.{none-more, some-more, last-more, any-more}
use Rattle.model_run.specs.Steps.{Step, is_shutdown}
use Rattle.model_run.specs.History.{Setup, SpanStep, StartResult, span_step, exported_of}
use Rattle.model_run.specs.History.{exported_if_sampled, ended_spans}
use Rattle.model_run.specs.Runs.{Answer, started, no_randomness, no_span, out_of_memory, done}
use Rattle.model_run.specs.Runs.{ended, taken, not_taken, encoded, sent, early, replied, nothing}
use Rattle.model_run.specs.Runs.{Answered, is_refused, span_steps, starts_so_far, span_at}
use Rattle.model_run.specs.Runs.{calls_so_far, before_shutdown, ended_by, span_of_end, event_by}
use Rattle.model_run.specs.Runs.{events_after, desk_events}
use Rattle.model_span.specs.Attributes.{last_or}
use Rattle.model_run.specs.Answers.{RunConfig, Progress, progress_by, progress, attempts_by}
use Rattle.model_run.specs.Answers.{last_attempt, IsAnswer, AreAnswers, AreAnswersAfter}
use Rattle.model_run.specs.Headline.{Attempt, attempt_by, attempts}

-- ---- the steps that count for the spans

abbrev counted : Answered → Option SpanStep
counted x = span_step (is_refused x.answer) x.step

-- An answered step that is nothing for the spans adds no step for them.
pub steps-none : (h : List Answered) (x : Answered) → counted x ≡ None
    → span_steps (h ++ x ∷ []) ≡ span_steps h
steps-none h x e = none-more counted h x e

-- An answered step that counts for the spans adds that step for them.
pub steps-some : (h : List Answered) (x : Answered) (s : SpanStep) → counted x ≡ Some s
    → span_steps (h ++ x ∷ []) ≡ span_steps h ++ s ∷ []
steps-some h x s e = some-more counted h x s e

-- ---- before the shutdown

-- there was a shutdown
abbrev pub is_shut : List Answered → Bool
is_shut h = list_any (λ x. is_shutdown x.step) h

before-open : (h : List Answered) → is_shut h ≡ false → before_shutdown h ≡ h
before-open [] e = refl
before-open (x ∷ h) e =
    take_while-cons (λ x. not (is_shutdown x.step)) x h ∙ by (is_shutdown x.step) (before-open h) e
  where
    by : (b : Bool) → (is_shut h ≡ false → before_shutdown h ≡ h) → (b || is_shut h) ≡ false
        → cond (not b) (x ∷ before_shutdown h) [] ≡ x ∷ h
    by true rest k = absurd (true≢false k)
    by false rest k = ap (λ l. x ∷ l) (rest k)

before-shut : (h more : List Answered) → is_shut h ≡ true
    → before_shutdown (h ++ more) ≡ before_shutdown h
before-shut [] more e = absurd (true≢false (sym e))
before-shut (x ∷ h) more e =
    take_while-cons (λ x. not (is_shutdown x.step)) x (h ++ more)
    ∙ by (is_shutdown x.step) (before-shut h more) e
    ∙ sym (take_while-cons (λ x. not (is_shutdown x.step)) x h)
  where
    by : (b : Bool) → (is_shut h ≡ true → before_shutdown (h ++ more) ≡ before_shutdown h)
        → (b || is_shut h) ≡ true
        → cond (not b) (x ∷ before_shutdown (h ++ more)) []
        ≡ cond (not b) (x ∷ before_shutdown h) []
    by true rest k = refl
    by false rest k = ap (λ l. x ∷ l) (rest k)

-- The steps before a first shutdown are all steps so far.
before-last : (h : List Answered) (x : Answered) → is_shut h ≡ false → is_shutdown x.step ≡ true
    → before_shutdown (h ++ x ∷ []) ≡ h
before-last [] x e f = take_while-cons (λ x. not (is_shutdown x.step)) x [] ∙ rw f refl
before-last (y ∷ h) x e f =
    take_while-cons (λ x. not (is_shutdown x.step)) y (h ++ x ∷ [])
    ∙ by (is_shutdown y.step) (λ k. before-last h x k f) e
  where
    by : (b : Bool) → (is_shut h ≡ false → before_shutdown (h ++ x ∷ []) ≡ h)
        → (b || is_shut h) ≡ false → cond (not b) (y ∷ before_shutdown (h ++ x ∷ [])) [] ≡ y ∷ h
    by true rest k = absurd (true≢false k)
    by false rest k = ap (λ l. y ∷ l) (rest k)

-- After one more step there was a shutdown just if there was one before or the step is one.
pub shut-more : (h : List Answered) (x : Answered)
    → is_shut (h ++ x ∷ []) ≡ (is_shut h || is_shutdown x.step)
shut-more h x = any-more (λ x. is_shutdown x.step) h x

shut-still : (h : List Answered) (x : Answered) → is_shut h ≡ false → is_shutdown x.step ≡ false
    → is_shut (h ++ x ∷ []) ≡ false
shut-still h x e f = shut-more h x ∙ rw (e, f) refl

-- ---- the spans that end

-- Before a shutdown, the spans that end are those that all steps so far end.
pub ended-open : (setup : Setup) (h : List Answered) → is_shut h ≡ false
    → ended_by setup h ≡ ended_spans setup (span_steps h)
unfolding ended_by
ended-open setup h e = ap (λ l. ended_spans setup (span_steps l)) (before-open h e)

-- After a shutdown, one more step ends no span.
pub ended-shut : (setup : Setup) (h : List Answered) (x : Answered) → is_shut h ≡ true
    → ended_by setup (h ++ x ∷ []) ≡ ended_by setup h
unfolding ended_by
ended-shut setup h x e = ap (λ l. ended_spans setup (span_steps l)) (before-shut h (x ∷ []) e)

-- A step that is nothing for the spans ends none of them.
pub ended-none : (setup : Setup) (h : List Answered) (x : Answered) → counted x ≡ None
    → ended_by setup (h ++ x ∷ []) ≡ ended_by setup h
unfolding ended_by
ended-none setup h x e = by (is_shut h) refl (is_shutdown x.step) refl
  where
    by : (b : Bool) → is_shut h ≡ b → (c : Bool) → is_shutdown x.step ≡ c
        → ended_spans setup (span_steps (before_shutdown (h ++ x ∷ [])))
        ≡ ended_spans setup (span_steps (before_shutdown h))
    by true f c k = ap (λ l. ended_spans setup (span_steps l)) (before-shut h (x ∷ []) f)
    by false f true k =
        ap (λ l. ended_spans setup (span_steps l)) (before-last h x f k ∙ sym (before-open h f))
    by false f false k =
        ap (λ l. ended_spans setup (span_steps l)) (before-open (h ++ x ∷ []) (shut-still h x f k))
        ∙ ap (ended_spans setup) (steps-none h x e)
        ∙ ap (λ l. ended_spans setup (span_steps l)) (sym (before-open h f))

-- A step that counts for the spans, before any shutdown, is one more step for the spans that end.
pub ended-some : (setup : Setup) (h : List Answered) (x : Answered) (s : SpanStep)
    → is_shut h ≡ false → is_shutdown x.step ≡ false → counted x ≡ Some s
    → ended_by setup (h ++ x ∷ []) ≡ ended_spans setup (span_steps h ++ s ∷ [])
ended-some setup h x s f k e =
    ended-open setup (h ++ x ∷ []) (shut-still h x f k)
    ∙ ap (ended_spans setup) (steps-some h x s e)

-- ---- what is done at the queue

cons-append : {B : Type 0} (o : Option B) (xs ys : List B)
    → cons_option o (xs ++ ys) ≡ cons_option o xs ++ ys
cons-append None xs ys = refl
cons-append (Some y) xs ys = refl

one-of : {B : Type 0} (o : Option B) → cons_option o [] ≡ option_to_list o
one-of None = refl
one-of (Some x) = refl

events-append : (setup : Setup) (before h : List Answered) (x : Answered)
    → events_after setup before (h ++ x ∷ [])
    ≡ events_after setup before h ++ option_to_list (event_by setup (before ++ h) x.answer x.step)
events-append setup before [] x =
    one-of (event_by setup before x.answer x.step)
    ∙ ap (λ b. option_to_list (event_by setup b x.answer x.step)) (sym (append-nil before))
events-append setup before (y ∷ h) x =
    ap (cons_option (event_by setup before y.answer y.step))
    (events-append setup (before ++ y ∷ []) h x
    ∙ ap (λ b.
    events_after setup (before ++ y ∷ []) h ++ option_to_list (event_by setup b x.answer x.step))
    (append_assoc before (y ∷ []) h))
    ∙ cons-append (event_by setup before y.answer y.step) (events_after setup (before ++ y ∷ []) h)
    (option_to_list (event_by setup (before ++ y ∷ h) x.answer x.step))

-- One more step adds what it does at the queue, if anything.
pub events-more : (setup : Setup) (h : List Answered) (x : Answered) (o : Option DeskEvent)
    → event_by setup h x.answer x.step ≡ o
    → desk_events setup (h ++ x ∷ []) ≡ desk_events setup h ++ option_to_list o
unfolding desk_events
events-more setup h x o e =
    events-append setup [] h x ∙ ap (λ p. events_after setup [] h ++ option_to_list p) e

-- What is exported of a start that gave a span is that span, if it is sampled.
pub exported-found : (calls : List Call) (o : Option StartResult) (s : StartedSpan)
    → option_and_then (λ o. o.span) o ≡ Some s → exported_of calls o ≡ exported_if_sampled calls s
exported-found calls None s e = cc
exported-found calls (Some r) s e = ap (option_and_then (exported_if_sampled calls)) e

-- The end of a sampled span ends it with all its calls, under this ticket.
pub span-of-end : (setup : Setup) (h : List Answered) (n : ℕ) (c : Call) (ticket : ℕ)
    (s : StartedSpan)
    → span_at setup h n ≡ Some s → is_sampled s.decision ≡ true
    → span_of_end setup h (Step.call n c) ticket
    ≡ Some (with_ticket ticket (exported_span s (calls_so_far h n ++ c ∷ [])))
span-of-end setup h n c ticket s e d =
    let one : exported_of (calls_so_far h n ++ c ∷ []) (slice_get (starts_so_far setup h) n)
    ≡ Some (exported_span s (calls_so_far h n ++ c ∷ [])) =
    exported-found (calls_so_far h n ++ c ∷ []) (slice_get (starts_so_far setup h) n) s e
    ∙ rw d refl in
    ap (option_map (with_ticket ticket)) one

-- ---- the last batch and the attempts

-- An answer that says nothing of the batch's progress leaves it as it was.
pub progress-none : (h : List Answered) (x : Answered) → progress_by x.answer ≡ None
    → progress (h ++ x ∷ []) ≡ progress h
unfolding progress
progress-none h x e = ap (last-of) (none-more (λ x. progress_by x.answer) h x e)
  where
    last-of : List Progress → Progress
    last-of ps = Rattle.model_span.specs.Attributes.last_or Progress.not_out ps

-- The progress of the batch is what the last answer says, where it says any.
pub progress-some : (h : List Answered) (x : Answered) (p : Progress)
    → progress_by x.answer ≡ Some p → progress (h ++ x ∷ []) ≡ p
unfolding progress
progress-some h x p e =
    ap (last-of) (some-more (λ x. progress_by x.answer) h x p e)
    ∙ last-more Progress.not_out (filter_map (λ x. progress_by x.answer) h) p
  where
    last-of : List Progress → Progress
    last-of ps = Rattle.model_span.specs.Attributes.last_or Progress.not_out ps

-- An answer that says no number of attempts leaves the last number as it was.
pub last_attempt-none : (h : List Answered) (x : Answered) → attempts_by x.answer ≡ None
    → last_attempt (h ++ x ∷ []) ≡ last_attempt h
unfolding last_attempt
last_attempt-none h x e = ap (last_or 0) (none-more (λ x. attempts_by x.answer) h x e)

-- The last number of attempts is what the last answer says, where it says one.
pub last_attempt-some : (h : List Answered) (x : Answered) (n : ℕ) → attempts_by x.answer ≡ Some n
    → last_attempt (h ++ x ∷ []) ≡ n
unfolding last_attempt
last_attempt-some h x n e =
    ap (last_or 0) (some-more (λ x. attempts_by x.answer) h x n e)
    ∙ last-more 0 (filter_map (λ x. attempts_by x.answer) h) n

-- An answer that says nothing of the batch's progress says nothing of its attempts.
pub quiet-attempts : (a : Answer) → progress_by a ≡ None → attempts_by a ≡ None
quiet-attempts (taken number size) e = cc
quiet-attempts (encoded number size) e = refl
quiet-attempts (sent number attempt outcome) e = cc
quiet-attempts (replied number next) e = refl
quiet-attempts (Answer.dropped number reason) e = refl
quiet-attempts (ended o) e = refl
quiet-attempts (started ids) e = refl
quiet-attempts no_randomness e = refl
quiet-attempts no_span e = refl
quiet-attempts out_of_memory e = refl
quiet-attempts done e = refl
quiet-attempts Answer.flush e = refl
quiet-attempts Answer.shutdown e = refl
quiet-attempts not_taken e = refl
quiet-attempts early e = refl
quiet-attempts nothing e = refl

-- An answer that reports no attempt leaves the attempts as they were.
pub attempts-none : (h : List Answered) (x : Answered) → attempt_by x.answer ≡ None
    → attempts (h ++ x ∷ []) ≡ attempts h
attempts-none h x e = none-more (λ x. attempt_by x.answer) h x e

-- An answer that reports an attempt adds it to the attempts before it.
pub attempts-some : (h : List Answered) (x : Answered) (a : Attempt) → attempt_by x.answer ≡ Some a
    → attempts (h ++ x ∷ []) ≡ attempts h ++ a ∷ []
attempts-some h x a e = some-more (λ x. attempt_by x.answer) h x a e

-- ---- answers

answers-after : (run : RunConfig) (before h : List Answered) (x : Answered)
    → AreAnswersAfter run before h → IsAnswer run (before ++ h) x
    → AreAnswersAfter run before (h ++ x ∷ [])
answers-after run before [] x a i = (rw (append-nil before) at i, tt)
answers-after run before (y ∷ h) x a i =
    (a.0, answers-after run (before ++ y ∷ []) h x a.1 (rw (append_assoc before (y ∷ []) h) i))

-- Where all answers so far are right, and so is one more, all of them are.
pub answers-more : (run : RunConfig) (h : List Answered) (x : Answered) → AreAnswers run h
    → IsAnswer run h x → AreAnswers run (h ++ x ∷ [])
unfolding AreAnswers
answers-more run h x a i = answers-after run [] h x a i

answer-after : (run : RunConfig) (first before later : List Answered) (x : Answered)
    → AreAnswersAfter run first (before ++ x ∷ later) → IsAnswer run (first ++ before) x
answer-after run first [] later x w = subst (λ b. IsAnswer run b x) (sym (append-nil first)) w.0
answer-after run first (y ∷ before) later x w =
    subst (λ b. IsAnswer run b x) (append_assoc first (y ∷ []) before)
    (answer-after run (first ++ y ∷ []) before later x w.1)

-- Each answer is right after the steps before it.
pub answer-at : (run : RunConfig) (before later : List Answered) (x : Answered)
    → AreAnswers run (before ++ x ∷ later) → IsAnswer run before x
unfolding AreAnswers
answer-at run before later x w = answer-after run [] before later x w
