-- What a run of a script is, in the model.
use Rattle.std.proofs.Common.{◌≡◌, refl, sym, ap, subst, ◌∙◌, ℕ, List, [], ◌∷◌, length}
use Rattle.std.proofs.Common.{map, Some}
use Rattle.std.specs.Prelude.{unwrap_or}
use Rattle.model_run.specs.Answers.{RunConfig, AreAnswers, desk_after}
use Rattle.model_run.specs.Runs.{Answered}
use Rattle.model_desk.specs.Desks.{Desk}
use Rattle.span_exporter.specs.Handed.{Handed}
use Rattle.trace_run.specs.Answers.{history_view}
use Rattle.trace_run.specs.Steps.{step_view}
use Rattle.trace_run.specs.declared.answer.Answer.{Answer}
use Rattle.trace_run.specs.declared.step.Step.{Step as CodeStep}
use Rattle.trace_run.specs.Headline.{Headline}
use Rattle.retry_core.specs.Retries.{default_retry}
use Rattle.trace_script.specs.Scripts.{Script}
use Rattle.trace_script.specs.Parsed.{Means}
use Rattle.trace_script.specs.declared.parse.Script.{Script as CodeScript}
use Rattle.batch_desk.specs.Views.{config_view}
use Rattle.trace_script.specs.Recorded.{run_of}
use Rattle.trace_script.specs.Recorder.{setup_view}
use Rattle.trace_script.specs.Printed.{IsRunText, run_text}

-- what a script has before its first step
abbrev pub run_view : {A : Type 0} → CodeScript A → RunConfig
run_view s = record {
  setup = setup_view s;
  desk = config_view s.desk;
  retry = default_retry;
  max_body = unwrap_or s.max_body 4194304;
}

-- The run of a script in the code is the run of the script that the text means.
pub same-run : {A : Type 0} (c : CodeScript A) (read : Script) → Means c read
    → run_view c ≡ run_of read
same-run c read m = rw (m.words, m.sampler, m.limits, m.desk, m.max_body, m.resource, m.scopes) refl

-- The steps of a history in which each step has an answer are the steps of the script.
pub steps-of : {A : Type 0} (steps : List (CodeStep A)) (answers : List Answer)
    → length answers ≡ length steps
    → map (λ (x : Answered). x.step) (history_view steps answers) ≡ map step_view steps
steps-of [] [] h = refl
steps-of [] (y ∷ answers) h = cc
steps-of (x ∷ steps) [] h = cc
steps-of (x ∷ steps) (y ∷ answers) h = ap (λ xs. step_view x ∷ xs) (steps-of steps answers (cc))

-- A text made of a run's answers, its queue and its handed batches is the text of the script's run.
pub run-is : {A : Type 0} (c : CodeScript A) (read : Script) (answers : List Answer) (desk : Desk)
    (handed : List Handed) (text : List ℕ)
    → Means c read → length answers ≡ length c.steps.items
    → AreAnswers (run_view c) (history_view c.steps.items answers)
    → desk ≡ desk_after (run_view c) (history_view c.steps.items answers)
    → Headline (run_view c) (history_view c.steps.items answers) (Some []) (Some handed)
    → text ≡ run_text handed (history_view c.steps.items answers) desk → IsRunText read text
run-is c read answers desk handed text means many answered is headline lines = record {
  history = history_view c.steps.items answers;
  steps = steps-of c.steps.items answers many ∙ means.steps;
  answered = rw (sym (same-run c read means)) answered;
  handed = handed;
  headline =
      subst (λ r. Headline r (history_view c.steps.items answers) (Some []) (Some handed))
      (same-run c read means) headline;
  lines =
      lines
      ∙ ap (run_text handed (history_view c.steps.items answers))
      (is
      ∙ ap (λ (r : RunConfig). desk_after r (history_view c.steps.items answers))
      (same-run c read means));
}
