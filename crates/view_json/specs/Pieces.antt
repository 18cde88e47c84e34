-- What is left of a trace's JSON that is written in pieces.
use Rattle.std.specs.Prelude.{◌≡◌, ℕ, Bool, true, false, cond, nat_lt, List, [], ◌∷◌, ◌++◌, drop}
use Rattle.std.specs.List.{flat_map}
use Rattle.std.specs.Str.{IsUtf8}
use Rattle.std.specs.declared.sync.Arc.{Arc}
use Rattle.json.specs.Print.{ArePrintable, print_from}
use Rattle.json.specs.Token.{Token, end_array, end_object}
use Rattle.trace_store.specs.declared.span.ViewSpan.{ViewSpan}
use Rattle.otlp_json.specs.Seen.{Seen, Other, seen}
use Rattle.view_json.specs.Spans.{kept_seen, trace_seen}
use Rattle.view_json.specs.declared.pieces.Stage.{Stage}
use Rattle.view_json.specs.declared.pieces.Stage.TheVariants.{Head, Spans, End}
use Rattle.view_json.specs.declared.pieces.TraceJson.{TraceJson}

-- A text of JSON of which a reader sees this: its tokens, printed with no space. A comma is before
-- the first token if that begins a value, and a value has ended before the text. It is UTF-8
-- (RFC 8259, section 8.1).
pub record IsJsonText (is_after : Bool) (what : List Seen) (text : List ℕ) : Type 0 where
  pub tokens : List Token
  pub are_printable : ArePrintable tokens
  pub printed : text ≡ print_from is_after tokens
  pub seen_is : seen tokens ≡ what
  pub utf8 : IsUtf8 text

-- a piece: with any text that may be left after it, it is a text that may be left before it
abbrev pub IsPieceBetween : (List ℕ → Type 0) → (List ℕ → Type 0) → List ℕ → Type 0
IsPieceBetween before after piece = (more : List ℕ) → after more → before (piece ++ more)

-- a comma (44), where a value has ended
abbrev pub comma_if : Bool → List ℕ
comma_if is_after = cond is_after (44 ∷ []) []

-- whether all is written
abbrev pub is_end : Stage → Bool
is_end Head = false
is_end (Spans at) = false
is_end End = true

-- whether a value has ended
abbrev pub is_after : Stage → Bool
is_after Head = false
is_after (Spans at) = nat_lt 0 at
is_after End = true

-- what a reader sees of what is left: all; the spans from a place on, and the end; nothing
abbrev pub left_seen : {A : Type 0} → List (Arc (ViewSpan A) A) → Stage → List Seen
left_seen spans Head = trace_seen spans
left_seen spans (Spans at) =
    flat_map kept_seen (drop at spans) ++ Other end_array ∷ Other end_object ∷ []
left_seen spans End = []

-- a text that may be left
abbrev pub IsLeft : {A : Type 0} → List (Arc (ViewSpan A) A) → Stage → List ℕ → Type 0
IsLeft spans stage text = IsJsonText (is_after stage) (left_seen spans stage) text

-- a text that may still be written
abbrev pub StillWrites : {A : Type 0} → TraceJson A → List ℕ → Type 0
StillWrites json text = IsLeft json.spans.items json.stage text
