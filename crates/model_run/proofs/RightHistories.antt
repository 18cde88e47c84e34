-- Right histories, step by step.
use Rattle.std.proofs.Common.{◌≡◌, sym, subst, List, [], ◌∷◌, ◌++◌, append_assoc}
use Rattle.std.proofs.lemmas.List.{append-nil}
use Rattle.model_run.specs.Runs.{Answered}
use Rattle.model_run.specs.Answers.{RunConfig, IsAnswer, AreAnswersAfter, AreAnswers}
use Rattle.model_run.proofs.More.{answer-at as right-at}

-- what holds before the first step, and is kept by each right answer, holds after right answers
module _ (run : RunConfig) (P : List Answered → Type 0)
    (step : (h : List Answered) (x : Answered) → P h → IsAnswer run h x → P (h ++ x ∷ [])) where
  by-steps-after : (h later : List Answered) → P h → AreAnswersAfter run h later → P (h ++ later)
  by-steps-after h [] p w = subst P (sym (append-nil h)) p
  by-steps-after h (x ∷ later) p w =
      subst P (append_assoc h (x ∷ []) later)
      (by-steps-after (h ++ x ∷ []) later (step h x p w.0) w.1)

  -- A property that holds before the first step and that each right answer keeps holds after right
  -- answers.
  pub by-steps : (h : List Answered) → P [] → AreAnswers run h → P h
  unfolding AreAnswers
  by-steps h p w = by-steps-after [] h p w

front-after : (run : RunConfig) (first before later : List Answered)
    → AreAnswersAfter run first (before ++ later) → AreAnswersAfter run first before
front-after run first [] later w = tt
front-after run first (y ∷ before) later w =
    (w.0, front-after run (first ++ y ∷ []) before later w.1)

-- The first steps of a right history are a right history.
pub front : (run : RunConfig) (before later : List Answered) → AreAnswers run (before ++ later)
    → AreAnswers run before
unfolding AreAnswers
front run before later w = front-after run [] before later w

later-first : (run : RunConfig) (first before later : List Answered)
    → AreAnswersAfter run first (before ++ later) → AreAnswersAfter run (first ++ before) later
later-first run first [] later w =
    subst (λ b. AreAnswersAfter run b later) (sym (append-nil first)) w
later-first run first (y ∷ before) later w =
    subst (λ b. AreAnswersAfter run b later) (append_assoc first (y ∷ []) before)
    (later-first run (first ++ y ∷ []) before later w.1)

-- The steps after the first ones of a right history are right after those.
pub appended : (run : RunConfig) (before later : List Answered) → AreAnswers run (before ++ later)
    → AreAnswersAfter run before later
unfolding AreAnswers
appended run before later w = later-first run [] before later w

-- Each step of a right history has a right answer after those before it.
pub answer-at : (run : RunConfig) (h : List Answered) → AreAnswers run h
    → (before later : List Answered) (x : Answered) → before ++ x ∷ later ≡ h
    → IsAnswer run before x
answer-at run h w before later x e = right-at run before later x (subst (AreAnswers run) (sym e) w)
