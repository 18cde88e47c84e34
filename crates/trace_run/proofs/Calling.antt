-- One more step of a run that is a call on a span: its state after the call.
use Rattle.std.proofs.Common.{◌≡◌, refl, sym, ap, subst, ◌∙◌, ℕ, ◌-◌, ◌^◌, ◌<◌, List, [], ◌∷◌, ◌++◌}
use Rattle.std.proofs.Common.{length, false, Option, None, IfSome}
use Rattle.rand_core.specs.Stream.{Stream}
use Rattle.model_span.specs.Sampling.{SamplerMeaning}
use Rattle.model_span.specs.Spans.{Call, set_attribute, end, end_of, is_end}
use Rattle.model_desk.specs.Desks.{Desk}
use Rattle.model_run.specs.Steps.{Step}
use Rattle.model_run.specs.History.{SpanStep, Setup, calls_on}
use Rattle.model_run.specs.Runs.{Answered, is_refused, span_steps}
use Rattle.model_run.specs.Answers.{RunConfig}
use Rattle.model_run.specs.Headline.{attempt_by}
use Rattle.trace_run.specs.Answers.{answer_view}
use Rattle.trace_run.specs.declared.answer.Answer.{Answer as CodeAnswer}
use Rattle.trace_run.specs.Table.{IsTable, TableWith, TakesStep, answer_to_call, span_numbered}
use Rattle.trace_run.specs.Ends.{EndsAs}
use Rattle.trace_run.specs.Queue.{Admits}
use Rattle.trace_run.specs.Out.{Out}
use Rattle.trace_run.specs.State.{Stands}
use Rattle.trace_run.proofs.Standing.{quiet-call, call-on}
use Rattle.trace_run.proofs.Ending.{end-on}
use Rattle.trace_run.proofs.Telling.{end-tells}

module _ {S R : Type 0} (meaning : S → SamplerMeaning) (stream : R → Stream) (run : RunConfig)
    (h : List Answered) (table : TableWith S R) (desk : Desk) (out : Option Out)
    (at : Stands meaning stream run h table desk out) (n : ℕ) where
  -- what becomes of an end, whatever steps made the table
  abbrev pub EndsWith : Call → CodeAnswer → Desk → Type 0
  EndsWith c answer desk2 =
      IfSome (end_of c)
      (λ now. (setup : Setup) (steps : List SpanStep) → IsTable meaning stream setup steps table
      → EndsAs Admits (span_numbered setup steps n) (calls_on n steps) now desk answer desk2)

  abbrev pub Right : Call → CodeAnswer → Type 0
  Right c answer =
      is_end c ≡ false
      → answer_view answer
      ≡ answer_to_call (is_refused (answer_view answer)) (calls_on n (span_steps h)) c
      (span_numbered run.setup (span_steps h) n)

  no-end : (c : Call) → is_end c ≡ false
      → (answer : CodeAnswer) (table2 : TableWith S R) (desk2 : Desk) → Right c answer
      → desk2 ≡ desk → TakesStep meaning stream (Step.call n c) (answer_view answer) table table2
      → length table2.spans ≡ length table.spans
      → Stands meaning stream run
      (h ++ record { step = Step.call n c; answer = answer_view answer } ∷ []) table2 desk2 out
  no-end c e answer table2 desk2 right same takes many =
      subst (λ d. Stands meaning stream run
      (h ++ record { step = Step.call n c; answer = answer_view answer } ∷ []) table2 d out)
      (sym same)
      (call-on meaning stream run h table desk out at n c (answer_view answer) table2 e
      (right e) takes many)

  -- A run's state is still what its steps mean after a call on a span.
  pub called : (c : Call) (answer : CodeAnswer) (table2 : TableWith S R) (desk2 : Desk)
      → length h < 2 ^ 64 - 1 → Right c answer → (is_end c ≡ false → desk2 ≡ desk)
      → EndsWith c answer desk2
      → TakesStep meaning stream (Step.call n c) (answer_view answer) table table2
      → length table2.spans ≡ length table.spans
      → Stands meaning stream run
      (h ++ record { step = Step.call n c; answer = answer_view answer } ∷ []) table2 desk2 out
  called (end now) answer table2 desk2 small right same ended takes many =
      end-on meaning stream run h table desk out at n now table2 desk2 answer
      (ended run.setup (span_steps h) at.spans) takes many small
  called (set_attribute p) answer table2 desk2 small right same ended takes many =
      no-end (set_attribute p) refl answer table2 desk2 right (same refl) takes many
  called (Call.add_event a b p) answer table2 desk2 small right same ended takes many =
      no-end (Call.add_event a b p) refl answer table2 desk2 right (same refl) takes many
  called (Call.record_exception a b c d p) answer table2 desk2 small right same ended takes many =
      no-end (Call.record_exception a b c d p) refl answer table2 desk2 right (same refl) takes many
  called (Call.add_link x p) answer table2 desk2 small right same ended takes many =
      no-end (Call.add_link x p) refl answer table2 desk2 right (same refl) takes many
  called (Call.set_status s) answer table2 desk2 small right same ended takes many =
      no-end (Call.set_status s) refl answer table2 desk2 right (same refl) takes many
  called (Call.update_name s) answer table2 desk2 small right same ended takes many =
      no-end (Call.update_name s) refl answer table2 desk2 right (same refl) takes many

  quiet : (answer : CodeAnswer) (c : Call) → is_end c ≡ false → Right c answer
      → attempt_by (answer_view answer) ≡ None
  quiet answer c e right =
      ap attempt_by (right e)
      ∙ (quiet-call (is_refused (answer_view answer)) (calls_on n (span_steps h)) c
      (span_numbered run.setup (span_steps h) n) Step.flush).attempt

  -- The answer to a call on a span speaks of no attempt.
  pub called-tells : (c : Call) (answer : CodeAnswer) (desk2 : Desk) → Right c answer
      → EndsWith c answer desk2 → attempt_by (answer_view answer) ≡ None
  called-tells (end now) answer desk2 right ended =
      end-tells (span_numbered run.setup (span_steps h) n)
      (calls_on n (span_steps h)) now desk desk2 answer (ended run.setup (span_steps h) at.spans)
  called-tells (set_attribute p) answer desk2 right ended =
      quiet answer (set_attribute p) refl right
  called-tells (Call.add_event a b p) answer desk2 right ended =
      quiet answer (Call.add_event a b p) refl right
  called-tells (Call.record_exception a b c d p) answer desk2 right ended =
      quiet answer (Call.record_exception a b c d p) refl right
  called-tells (Call.add_link x p) answer desk2 right ended =
      quiet answer (Call.add_link x p) refl right
  called-tells (Call.set_status s) answer desk2 right ended =
      quiet answer (Call.set_status s) refl right
  called-tells (Call.update_name s) answer desk2 right ended =
      quiet answer (Call.update_name s) refl right
