-- A whole run: its state after its first steps, and after all.
use Rattle.std.proofs.Common.{◌≡◌, refl, sym, ap, subst, ◌∙◌, ℕ, suc, ◌+◌, ◌<◌, arith, List, []}
use Rattle.std.proofs.Common.{◌∷◌, ◌++◌, length, take, append_assoc, Option, Some, None, option_map}
use Rattle.std.proofs.Common.{get_or}
use Rattle.std.proofs.Math.Seq.{take-suc}
use Rattle.std.specs.Option.{option_to_list}
use Rattle.std.specs.List.{AllByRecursion}
use Rattle.std.proofs.lemmas.List.{append-nil, map-append, length-take-le}
use Rattle.std.proofs.lemmas.List.Elements.{filter_map-append}
use Rattle.rand_core.specs.Stream.{Stream}
use Rattle.model_span.specs.Sampling.{SamplerMeaning}
use Rattle.model_desk.specs.Desks.{Desk, IsDesk, AreAllowed, new_desk}
use Rattle.model_run.specs.Runs.{Answered, ended_by, desk_events}
use Rattle.model_run.specs.Answers.{RunConfig, AreAnswers}
use Rattle.model_run.specs.Headline.{Attempt, attempt_by, attempts}
use Rattle.model_run.specs.Laws.{OfRuns, IsAllowed}
use Rattle.span_exporter.specs.Handed.{Handed}
use Rattle.trace_run.specs.Table.{IsTable, TableWith}
use Rattle.trace_run.specs.Answers.{answer_view, history_view}
use Rattle.trace_run.specs.Steps.{step_view}
use Rattle.trace_run.specs.declared.answer.Answer.{Answer as CodeAnswer}
use Rattle.trace_run.specs.declared.step.Step.{Step as CodeStep}
use Rattle.trace_run.specs.Out.{Out}
use Rattle.trace_run.specs.State.{Stands, TellsAll}
use Rattle.trace_run.specs.Headline.{told_attempt}

-- ---- histories

-- The history of one more step with its answer is the history before and this step.
pub view-push : {A : Type 0} (steps : List (CodeStep A)) (answers : List CodeAnswer)
    (step : CodeStep A) (answer : CodeAnswer)
    → length answers ≡ length steps
    → history_view (steps ++ step ∷ []) (answers ++ answer ∷ [])
    ≡ history_view steps answers
    ++ record { step = step_view step; answer = answer_view answer } ∷ []
view-push [] [] step answer e = refl
view-push [] (a ∷ answers) step answer e = absurd (omega (arith, e))
view-push (s ∷ steps) [] step answer e = absurd (omega (arith, e))
view-push (s ∷ steps) (a ∷ answers) step answer e =
    ap (λ l. record { step = step_view s; answer = answer_view a } ∷ l)
    (view-push steps answers step answer (omega (arith, e)))

-- A history has as many entries as steps, where each step has an answer.
pub view-length : {A : Type 0} (steps : List (CodeStep A)) (answers : List CodeAnswer)
    → length answers ≡ length steps → length (history_view steps answers) ≡ length steps
view-length [] [] e = refl
view-length [] (a ∷ answers) e = refl
view-length (s ∷ steps) [] e = absurd (omega (arith, e))
view-length (s ∷ steps) (a ∷ answers) e = ap suc (view-length steps answers (omega (arith, e)))

-- ---- what the exporter shows

all-append : (P : Handed → Type 0) (xs ys : List Handed) → AllByRecursion P xs → AllByRecursion P ys
    → AllByRecursion P (xs ++ ys)
all-append P [] ys a b = b
all-append P (x ∷ xs) ys a b = (a.0, all-append P xs ys a.1 b)

-- An exporter still shows the attempts where a fact of their bodies goes on to hold.
pub tells-still : (told : List Attempt) (means still : Handed → Type 0)
    (first second : Option (List Handed))
    → ((handed : Handed) → means handed → still handed) → TellsAll told means first second
    → TellsAll told still first second
tells-still told means still first second go a =
    record { more = a.more; gains = a.gains; are = a.are; bodies = all a.more a.bodies }
  where
    all : (xs : List Handed) → AllByRecursion means xs → AllByRecursion still xs
    all [] h = tt
    all (x ∷ xs) h = (go x h.0, all xs h.1)

-- An exporter that is unchanged has gained no attempt.
pub tells-none : (means : Handed → Type 0) (at : Option (List Handed)) → TellsAll [] means at at
tells-none means at = record { more = []; gains = by at; are = refl; bodies = tt }
  where
    by : (o : Option (List Handed)) → o ≡ option_map (λ had. had ++ []) o
    by None = refl
    by (Some had) = ap Some (sym (append-nil had))

-- The attempts that an exporter gains in two stretches, one after the other, are gained in both.
pub tells-more : (told more : List Attempt) (means : Handed → Type 0)
    (first second third : Option (List Handed))
    → TellsAll told means first second → TellsAll more means second third
    → TellsAll (told ++ more) means first third
tells-more told more means first second third a b = record {
  more = a.more ++ b.more;
  gains = b.gains ∙ ap (option_map (λ had. had ++ b.more)) a.gains ∙ by first;
  are = map-append told_attempt a.more b.more ∙ (λ i. a.are i ++ b.are i);
  bodies = all-append means a.more b.more a.bodies b.bodies;
}
  where
    by : (o : Option (List Handed))
        → option_map (λ had. had ++ b.more) (option_map (λ had. had ++ a.more) o)
        ≡ option_map (λ had. had ++ (a.more ++ b.more)) o
    by None = refl
    by (Some had) = ap Some (append_assoc had a.more b.more)

one-of : {B : Type 0} (o : Option B) → Rattle.std.specs.List.cons_option o [] ≡ option_to_list o
one-of None = refl
one-of (Some x) = refl

-- The attempts of a history with one more step are those before and this step's, if it has one.
pub attempts-push : (h : List Answered) (x : Answered)
    → attempts (h ++ x ∷ []) ≡ attempts h ++ option_to_list (attempt_by x.answer)
attempts-push h x =
    filter_map-append (λ y. attempt_by y.answer) h (x ∷ [])
    ∙ ap (λ l. attempts h ++ l) (one-of (attempt_by x.answer))

-- ---- before the first step and after the last one

module _ {S R : Type 0} (meaning : S → SamplerMeaning) (stream : R → Stream) (run : RunConfig) where
  -- A run's state before its first step is what no steps mean.
  pub stands-first : (table : TableWith S R) (desk : Desk)
      → IsTable meaning stream run.setup [] table → table.spans ≡ [] → desk ≡ new_desk run.desk 0
      → IsDesk 0 [] desk → Stands meaning stream run [] table desk None
  unfolding desk_events ended_by AreAnswers Rattle.model_run.specs.Answers.progress
  stands-first table desk spans none is history = record {
    spans = spans;
    history = history;
    config = ap (λ d. d.config) is;
    tickets = ap (λ d. d.next_ticket) is;
    bound = let z = ap (λ d. d.next_ticket) is in let y = ap length none in omega (arith, z, y);
    closed = ap (λ d. d.closed) is;
    tied = ap (λ d. d.out) is;
    prepared = tt;
    out_is = refl;
    answers = tt;
  }

  -- The steps of a run whose state is what they mean are allowed at its queue.
  pub is-allowed : (h : List Answered) (table : TableWith S R) (desk : Desk) (out : Option Out)
      → Stands meaning stream run h table desk out → IsAllowed run h
  is-allowed h table desk out at =
      subst (λ config. AreAllowed config 0 (desk_events run.setup h)) at.config at.history.allowed

-- A law of each run holds of a run that has taken all its steps.
pub of-law : {A : Type 0} (holds : RunConfig → List Answered → Type 0) → OfRuns holds
    → (run : RunConfig) (steps first : List (CodeStep A)) (answers : List CodeAnswer)
    → first ≡ steps → AreAnswers run (history_view first answers)
    → holds run (history_view steps answers)
of-law holds law run steps first answers all w =
    subst (λ xs. holds run (history_view xs answers)) all (law run (history_view first answers) w)

-- ---- the first steps of a list

-- The history of the answered first steps has as many entries as there are answers.
pub after-length : {A : Type 0} (steps : List (CodeStep A)) (answers : List CodeAnswer) (i : ℕ)
    → length answers ≡ i → i < length steps → length (history_view (take i steps) answers) ≡ i
after-length steps answers i e l =
    let m : length (take i steps) ≡ i = length-take-le i steps (omega (arith, l)) in
    view-length (take i steps) answers (e ∙ sym m) ∙ m

-- The history of the first steps grows by the next step and its answer.
pub after-push : {A : Type 0} (steps : List (CodeStep A)) (answers : List CodeAnswer) (i : ℕ)
    (step : CodeStep A) (answer : CodeAnswer)
    → length answers ≡ i → i < length steps → step ≡ get_or steps i step
    → history_view (take (i + 1) steps) (answers ++ answer ∷ [])
    ≡ history_view (take i steps) answers
    ++ record { step = step_view step; answer = answer_view answer } ∷ []
after-push steps answers i step answer e l s =
    let m : length (take i steps) ≡ i = length-take-le i steps (omega (arith, l)) in
    let next : take (i + 1) steps ≡ take i steps ++ step ∷ [] =
    ap (λ k. take k steps) (let one : i + 1 ≡ suc i = omega arith in one) ∙ take-suc steps i step l
    ∙ ap (λ y. take i steps ++ y ∷ []) (sym s) in
    ap (λ xs. history_view xs (answers ++ answer ∷ [])) next
    ∙ view-push (take i steps) answers step answer (e ∙ sym m)
