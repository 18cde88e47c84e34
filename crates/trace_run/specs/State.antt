-- The state of a run after some steps.
use Rattle.std.specs.Prelude.{◌≡◌, ℕ, ◌+◌, ◌-◌, ◌^◌, ◌<◌, ◌≤◌, List, [], ◌∷◌, ◌++◌, length, map}
use Rattle.std.specs.Prelude.{Option}
use Rattle.std.specs.Option.{option_to_list}
use Rattle.std.specs.List.{list_any, AllByRecursion}
use Rattle.rand_core.specs.Stream.{Stream}
use Rattle.model_span.specs.Sampling.{SamplerMeaning}
use Rattle.model_desk.specs.Desks.{Desk, IsDesk}
use Rattle.model_desk.specs.Waits.{RetryConfig}
use Rattle.model_run.specs.Steps.{is_shutdown}
use Rattle.model_run.specs.History.{Setup}
use Rattle.model_run.specs.Runs.{Answer, Answered, span_steps, ended_by, desk_events}
use Rattle.model_run.specs.Answers.{RunConfig, AreAnswers}
use Rattle.model_run.specs.Headline.{Attempt, attempt_by, pending_after}
use Rattle.span_exporter.specs.Handed.{Handed, Gains}
use Rattle.trace_run.specs.Table.{IsTable, TableWith}
use Rattle.trace_run.specs.Out.{Out, shown, IsTied, IsPrepared}
use Rattle.trace_run.specs.Headline.{told_attempt, MeansItsBatch, IsCanonical}

-- After these steps, the spans, the queue and the batch that is out are what the steps mean.
pub record Stands {S R : Type 0} (meaning : S → SamplerMeaning) (stream : R → Stream)
    (run : RunConfig) (h : List Answered) (table : TableWith S R) (desk : Desk)
    (out : Option Out) : Type 0 where
  pub spans : IsTable meaning stream run.setup (span_steps h) table
  pub history : IsDesk 0 (desk_events run.setup h) desk
  pub config : desk.config ≡ run.desk
  pub tickets : desk.next_ticket ≡ length (ended_by run.setup h)
  pub bound : desk.next_ticket + length table.spans ≤ length h
  pub closed : desk.closed ≡ list_any (λ x. is_shutdown x.step) h
  pub tied : IsTied desk out
  pub prepared : IsPrepared run.retry out
  pub out_is : shown out ≡ pending_after run.setup h
  pub answers : AreAnswers run h

-- One more step: whatever steps were before, the state is what these and this one mean.
abbrev pub GoesOn : {S R : Type 0} → (S → SamplerMeaning) → (R → Stream) → RetryConfig → ℕ
    → Answered → TableWith S R → Desk → Option Out → TableWith S R → Desk → Option Out → Type 0
GoesOn meaning stream retry max_body x table desk out table2 desk2 out2 =
    (run : RunConfig) (h : List Answered) → length h < 2 ^ 64 - 1 → run.retry ≡ retry
    → run.max_body ≡ max_body → Stands meaning stream run h table desk out
    → Stands meaning stream run (h ++ x ∷ []) table2 desk2 out2

-- ---- what the exporter shows of a step

-- an attempt whose body is that of its batch
pub record HasItsBody (setup : Setup) (h : List Answered) (handed : Handed) : Type 0 where
  pub means : MeansItsBatch setup h handed
  pub bytes : IsCanonical setup h handed

-- an exporter that shows its attempts has gained these, each with a body that means this
pub record TellsAll (told : List Attempt) (means : Handed → Type 0)
    (old new : Option (List Handed)) : Type 0 where
  pub more : List Handed
  pub gains : Gains more old new
  pub are : map told_attempt more ≡ told
  pub bodies : AllByRecursion means more

-- the attempt that this answer speaks of, if it speaks of one
abbrev pub Tells : Answer → (Handed → Type 0) → Option (List Handed) → Option (List Handed)
    → Type 0
Tells answer means old new = TellsAll (option_to_list (attempt_by answer)) means old new
