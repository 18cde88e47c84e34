-- The lines that are written of a run, with the steps that are left to write.
use Rattle.std.proofs.Common.{◌≡◌, sym, ap, ◌∙◌, ℕ, ◌+◌, ◌-◌, ◌^◌, ◌<◌, arith, List, [], ◌∷◌, ◌++◌}
use Rattle.std.proofs.Common.{length, length-append, append_assoc, append-nil, ◌⊎◌, inl, inr}
use Rattle.trace_run.specs.Answers.{answer_view, history_view}
use Rattle.trace_run.specs.Steps.{step_view}
use Rattle.trace_run.specs.declared.answer.Answer.{Answer}
use Rattle.trace_run.specs.declared.step.Step.{Step}
use Rattle.model_run.specs.Runs.{Answered}
use Rattle.span_exporter.specs.Handed.{Handed}
use Rattle.trace_run.specs.Lines.{line_of, lines_after, answers_text}
use Rattle.trace_run.specs.Places.{IsAfter}
use Rattle.trace_run.proofs.Places.{starts-few, sent-few}
use Rattle.trace_run.specs.declared.text.place.Place.{Place}

-- Some of these steps have their lines after the old text, and the next step is in this place.
pub record Written {A : Type 0} (handed : List Handed) (steps : List (Step A))
    (answers : List Answer) (old new : List ℕ) (place : Place)
    (later : List (Step A)) (rest : List Answer) : Type 0 where
  pub before : List Answered
  pub appended : IsAfter before place
  pub count : length before + length later ≡ length steps
  pub text : new ++ lines_after handed before (history_view later rest)
      ≡ old ++ answers_text handed (history_view steps answers)

module _ {A : Type 0} (handed : List Handed) (steps : List (Step A)) (answers : List Answer)
    (old : List ℕ) where
  -- Before the first line, no step has a line, and all are left to write.
  pub written-first : (place : Place) (later : List (Step A)) (rest : List Answer)
      → IsAfter [] place → later ≡ steps → rest ≡ answers
      → Written handed steps answers old old place later rest
  written-first place later rest is all-steps all-answers = record {
    before = [];
    appended = is;
    count = omega (arith, ap length all-steps);
    text = λ i. old ++ lines_after handed [] (history_view (all-steps i) (all-answers i));
  }

  -- One more line moves the next step to those that have a line.
  pub written-more : (text next : List ℕ) (place after : Place) (step : Step A) (answer : Answer)
      (later : List (Step A)) (rest : List Answer)
      → (w : Written handed steps answers old text place (step ∷ later) (answer ∷ rest))
      → ((before : List Answered) → IsAfter before place
      → next
      ≡ text
      ++ line_of handed before (record { step = step_view step; answer = answer_view answer }))
      → ((before : List Answered) → IsAfter before place
      → IsAfter
      (before ++ record { step = step_view step; answer = answer_view answer } ∷ []) after)
      → Written handed steps answers old next after later rest
  unfolding lines_after
  written-more text next place after step answer later rest w line moves =
      let x : Answered = record { step = step_view step; answer = answer_view answer } in
      record {
        before = w.before ++ x ∷ [];
        appended = moves w.before w.appended;
        count = omega (arith, length-append w.before (x ∷ []), w.count);
        text =
            ap (λ l. l ++ lines_after handed (w.before ++ x ∷ []) (history_view later rest))
            (line w.before w.appended)
            ∙ append_assoc text (line_of handed w.before x) _
            ∙ w.text;
      }

  -- The counts of starts and attempts fit in 64 bits as long as a step is left to write.
  pub room-left : (text : List ℕ) (place : Place) (step : Step A) (left later : List (Step A))
      (rest : List Answer)
      → Written handed steps answers old text place left rest
      → left ≡ step ∷ later → length steps < 2 ^ 64
      → (place.starts < 2 ^ 64 - 1) × (place.sent < 2 ^ 64 - 1)
  room-left text place step left later rest w more few = (
    omega (arith, w.appended.starts, starts-few w.before, w.count, ap length more),
    omega (arith, w.appended.sent, sent-few w.before, w.count, ap length more),
  )

  nothing-left : (text : List ℕ) (before : List Answered)
      → text ≡ text ++ lines_after handed before []
  unfolding lines_after
  nothing-left text before = sym (append-nil text)

  -- The text has all lines once no step or no answer is left.
  pub written-all : (text : List ℕ) (place : Place) (later : List (Step A)) (rest : List Answer)
      → Written handed steps answers old text place later rest
      → (later ≡ []) ⊎ (rest ≡ []) → text ≡ old ++ answers_text handed (history_view steps answers)
  written-all text place [] rest w end = nothing-left text w.before ∙ w.text
  written-all text place (step ∷ later) [] w end = nothing-left text w.before ∙ w.text
  written-all text place (step ∷ later) (answer ∷ rest) w end = elim end [ inl e ↦ cc | inr e ↦ cc ]
