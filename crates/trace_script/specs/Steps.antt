-- The steps of a program, by the name of the line and the words after it.
use Rattle.std.specs.Prelude.{ℕ, ◌^◌, List, [], ◌∷◌, if◌then◌else◌, Option, Some, None, option_map}
use Rattle.std.specs.Prelude.{bytes_eq, codes}
use Rattle.model_span.specs.Spans as spans
use Rattle.model_run.specs.Steps.{Step, start, call, flush, shutdown, take, encode, attempt, reply}
use Rattle.otlp_span.specs.declared.parts.Kind.{Kind}
use Rattle.otlp_span.specs.declared.parts.Kind.TheVariants as kinds
use Rattle.otlp_span.specs.Parts.{kind_view}
use Rattle.text_words.specs.Words.{◌>>=◌, number_below, text_of}
use Rattle.trace_script.specs.Calls.{call_of}
use Rattle.trace_script.specs.Contexts.{parent_of}

-- ---- spans

-- (Trace API, SpanKind)
unfoldable pub kind_of : List ℕ → Option Kind
kind_of word =
    if bytes_eq word (codes "internal") then Some kinds.Internal
    else if bytes_eq word (codes "server") then Some kinds.Server
    else if bytes_eq word (codes "client") then Some kinds.Client
    else if bytes_eq word (codes "producer") then Some kinds.Producer
    else if bytes_eq word (codes "consumer") then Some kinds.Consumer
    else None

-- a start, by the number of its scope, its parent, its kind, its moment and its name
unfoldable pub start_step_of : List ℕ → List ℕ → List ℕ → List ℕ → List ℕ → Option Step
start_step_of number parent kind at name = do
  n ← number_below (2 ^ 32) number
  p ← parent_of parent
  k ← kind_of kind
  a ← number_below (2 ^ 64) at
  t ← text_of name
  Some (start n p (kind_view k) a t)

-- `SCOPE PARENT KIND AT NAME`
unfoldable pub start_step : List (List ℕ) → Option Step
start_step (number ∷ parent ∷ kind ∷ at ∷ name ∷ []) = start_step_of number parent kind at name
start_step _ = None

-- an end, by the span's number and the moment
unfoldable pub end_step_of : List ℕ → List ℕ → Option Step
end_step_of span at = do
  n ← number_below (2 ^ 32) span
  a ← number_below (2 ^ 64) at
  Some (call n (spans.end a))

-- `N AT`
unfoldable pub end_step : List (List ℕ) → Option Step
end_step (span ∷ at ∷ []) = end_step_of span at
end_step _ = None

-- any other call of a name, on the span of a number, with the words after that
unfoldable pub call_step_of : List ℕ → List ℕ → List (List ℕ) → Option Step
call_step_of name span others = do
  n ← number_below (2 ^ 32) span
  c ← call_of name others
  Some (call n c)

-- the span's number comes after the name
unfoldable pub call_step : List ℕ → List (List ℕ) → Option Step
call_step name [] = None
call_step name (span ∷ others) = call_step_of name span others

-- a start, an end, or another call
unfoldable pub step_on_span : List ℕ → List (List ℕ) → Option Step
step_on_span name words =
    if bytes_eq name (codes "start") then start_step words
    else if bytes_eq name (codes "end") then end_step words
    else call_step name words

-- ---- the batch processor (Trace SDK, Batching processor)

-- a step that has no words
abbrev pub bare_step : Step → List (List ℕ) → Option Step
bare_step s [] = Some s
bare_step s _ = None

-- `AT`
unfoldable pub take_step : List (List ℕ) → Option Step
take_step (at ∷ []) = option_map take (number_below (2 ^ 64) at)
take_step _ = None

-- `AT`
unfoldable pub attempt_step : List (List ℕ) → Option Step
attempt_step (at ∷ []) = option_map attempt (number_below (2 ^ 64) at)
attempt_step _ = None

-- a reply, by its moment and a random number
unfoldable pub reply_step_of : List ℕ → List ℕ → Option Step
reply_step_of at word = do
  a ← number_below (2 ^ 64) at
  w ← number_below (2 ^ 64) word
  Some (reply a w)

-- `AT WORD`
unfoldable pub reply_step : List (List ℕ) → Option Step
reply_step (at ∷ word ∷ []) = reply_step_of at word
reply_step _ = None

-- a step of this name, and the words after it
unfoldable pub step_of : List ℕ → List (List ℕ) → Option Step
step_of name words =
    if bytes_eq name (codes "flush") then bare_step flush words
    else if bytes_eq name (codes "shutdown") then bare_step shutdown words
    else if bytes_eq name (codes "take") then take_step words
    else if bytes_eq name (codes "encode") then bare_step encode words
    else if bytes_eq name (codes "attempt") then attempt_step words
    else if bytes_eq name (codes "reply") then reply_step words
    else step_on_span name words
