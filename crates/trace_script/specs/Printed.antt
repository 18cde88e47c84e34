-- What the program prints.
use Rattle.std.specs.Prelude.{◌≡◌, ◌≤◌, ◌⊎◌, ℕ, ◌+◌, List, [], ◌∷◌, ◌++◌, length, map, take, Bool}
use Rattle.std.specs.Prelude.{true, false, Option, Some, Ok, Err, IfSome}
use Rattle.std.specs.Io.KnownBytes.{Appends, Keeps}
use Rattle.hex.specs.Hex.{encode_lower}
use Rattle.model_message.specs.Reading.{Reads}
use Rattle.model_message.specs.Messages.{body_meaning}
use Rattle.model_export.specs.Export.{grouped_triples, groups, body_length}
use Rattle.model_desk.specs.Desks.{Desk, in_hand_size}
use Rattle.model_run.specs.Runs.{Answered}
use Rattle.model_run.specs.Answers.{AreAnswers, desk_after}
use Rattle.span_exporter.specs.Handed.{Handed}
use Rattle.trace_run.specs.Headline.{Headline}
use Rattle.trace_run.specs.Lines.{answers_text, report_text}
use Rattle.trace_script.specs.Scripts.{Script, script_read}
use Rattle.trace_script.specs.declared.parse.ScriptError.TheVariants as scripts
use Rattle.trace_script.specs.Recorded.{max_body_of, run_of, spans_of}
use Rattle.trace_script.specs.declared.failure.Failure.{Failure}
use Rattle.trace_script.specs.declared.failure.Failure.TheVariants as failures

-- ---- the body

-- The line is the body that exports the spans which the script ends, in hexadecimal digits, and the
-- end of the line (10). It is no larger than it may be.
pub record IsBodyLine (script : Script) (line : List ℕ) : Type 0 where
  pub body : List ℕ
  pub meaning : Reads (body_meaning body) (grouped_triples (spans_of script))
  pub size : length body ≡ body_length (groups (spans_of script))
  pub fits : length body ≤ max_body_of script
  pub digits : line ≡ encode_lower body ++ 10 ∷ []

-- ---- the run

-- how many spans wait, or are in a batch that was not handed over
abbrev pub queued_count : Desk → ℕ
queued_count desk = length desk.waiting + in_hand_size desk.out

-- the lines of the answers, and the report, where the exporter was handed these
abbrev pub run_text : List Handed → List Answered → Desk → List ℕ
run_text handed history desk =
    answers_text handed history ++ report_text (queued_count desk) desk.ledger desk.lost desk.late

-- The text is that of a run over an exporter that was handed nothing before: each step of the
-- script has its answer, no span is unaccounted for, the lines are of the attempts that the
-- exporter was handed, and the report is of what the queue then shows.
pub record IsRunText (script : Script) (text : List ℕ) : Type 0 where
  pub history : List Answered
  pub steps : map (λ x. x.step) history ≡ script.steps
  pub answered : AreAnswers (run_of script) history
  pub handed : List Handed
  pub headline : Headline (run_of script) history (Some []) (Some handed)
  pub lines : text ≡ run_text handed history (desk_after (run_of script) history)

-- ---- either

-- by whether the body was asked for
abbrev pub IsTextOf : Bool → Script → List ℕ → Type 0
IsTextOf true script text = IsBodyLine script text
IsTextOf false script text = IsRunText script text

-- The input's bytes are a script, and this is printed for it. Of an input that doesn't show its
-- bytes, some are.
pub record IsPrinted (body : Bool) (input : Option (List ℕ)) (text : List ℕ) : Type 0 where
  pub bytes : List ℕ
  pub given : IfSome input (λ known. bytes ≡ known)
  pub script : Script
  pub read : script_read bytes ≡ Ok script
  pub is : IsTextOf body script text

-- what was known of the output has gained such a text
pub record Prints (body : Bool) (input old new : Option (List ℕ)) : Type 0 where
  pub text : List ℕ
  pub is : IsPrinted body input text
  pub gained : Appends old new text

-- what is known has gained a beginning of this text, which may be nothing or all of it
pub record AppendsStart (old new : Option (List ℕ)) (text : List ℕ) : Type 0 where
  pub count : ℕ
  pub gained : Appends old new (take count text)

-- the same of such a text
pub record PrintsTextStart (body : Bool) (input old new : Option (List ℕ)) : Type 0 where
  pub text : List ℕ
  pub is : IsPrinted body input text
  pub start : AppendsStart old new text

-- what was known of the output stays, or has gained a beginning of such a text
abbrev pub PrintsStart : Bool → Option (List ℕ) → Option (List ℕ) → Option (List ℕ) → Type 0
PrintsStart body input old new = Keeps old new ⊎ PrintsTextStart body input old new

-- ---- failures

-- the line with this number is the first bad one of the input's text
pub record IsBadAt (input : Option (List ℕ)) (n : ℕ) : Type 0 where
  pub bad : IfSome input (λ bytes. script_read bytes ≡ Err n)

-- why there is no text: the line that is reported is the first bad one
abbrev pub Explains : Option (List ℕ) → Failure → Type 0
Explains input (failures.Script (scripts.BadLine n)) = IsBadAt input n
Explains input (failures.Script scripts.OutOfMemory) = Unit {0}
Explains input failures.Read = Unit {0}
Explains input failures.Write = ⊥
Explains input failures.OutOfMemory = Unit {0}
Explains input failures.TooLarge = Unit {0}
