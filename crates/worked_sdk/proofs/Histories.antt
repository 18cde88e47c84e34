-- Histories whose answers are those of the definitions are right.
use Rattle.std.proofs.Common.{refl, ◌==◌, List, [], ◌∷◌, ◌++◌, length, drop, ℕ, if◌then◌else◌}
use Rattle.std.specs.List.{list_any}
use Rattle.model_span.specs.Spans.{first_or}
use Rattle.model_desk.specs.Retries.{Outcome}
use Rattle.model_run.specs.Steps.{Step}
use Rattle.model_run.specs.Runs.{Answered}
use Rattle.model_run.specs.Answers.{RunConfig, Given, answer_to, AreAnswers}
use Rattle.model_run.proofs.More.{answers-more}
use Rattle.worked_sdk.specs.Worked.{is_sent, history_after, history}

-- A history whose answers are right has right answers after more steps of the definition.
pub history-after-right : (run : RunConfig) (scarce : List ℕ) (before : List Answered)
    (outcomes : List Outcome) (steps : List Step)
    → AreAnswers run before → AreAnswers run (history_after run scarce before outcomes steps)
unfolding history_after AreAnswers
history-after-right run scarce before outcomes [] w = w
history-after-right run scarce before outcomes (step ∷ later) w =
    let given : Given =
    record {
      refused = list_any (λ place. place == length before) scarce;
      outcome = first_or Outcome.delivered outcomes;
    } in
    let x : Answered = record { step = step; answer = answer_to run before given step } in
    history-after-right run scarce (before ++ x ∷ [])
    (if is_sent x.answer then drop 1 outcomes else outcomes) later
    (answers-more run before x w (record { given = given; is = refl }))

-- Each answer in a history by the definition is right.
pub history-right : (run : RunConfig) (steps : List Step) → AreAnswers run (history run steps)
unfolding history AreAnswers
history-right run steps = history-after-right run [] [] [] steps tt
