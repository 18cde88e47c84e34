-- What a line of a script says: words with one space (32) between them, the first of which is its
-- name.
use Rattle.std.specs.Prelude.{ℕ, ◌^◌, ◌==◌, nat_le, ◌&&◌, List, [], ◌∷◌, if◌then◌else◌, Option}
use Rattle.std.specs.Prelude.{Some, None, option_map, bytes_eq, codes, string_bytes}
use Rattle.std.specs.List.{slice_split}
use Rattle.model_span.specs.Attributes as attributes
use Rattle.model_span.specs.Spans as spans
use Rattle.model_desk.specs.Desks.{DeskConfig}
use Rattle.model_desk.specs.Retries.{Outcome}
use Rattle.model_run.specs.Steps.{Step}
use Rattle.otlp_value.specs.Value.{attribute_view}
use Rattle.otlp_span.specs.Parts.{limits_view}
use Rattle.span_ring.specs.declared.ring.TheConstants.{MAX_QUEUE}
use Rattle.batch_desk.specs.Views.{config_view}
use Rattle.retry_core.specs.Retries.{outcome_view}
use Rattle.trace_run.specs.Steps.{step_view}
use Rattle.text_words.specs.Words.{◌>>=◌, each_of, number_below, hex_word, text_of}
use Rattle.trace_script.specs.Values.{pair_of}
use Rattle.trace_script.specs.Outcomes.{outcome_of_words}
use Rattle.trace_script.specs.Steps.{step_of}
use Rattle.trace_script.specs.declared.sampler.SamplerName.{SamplerName}
use Rattle.trace_script.specs.declared.sampler.SamplerName.TheVariants as samplers
use Rattle.trace_script.specs.declared.line.Line.{Line as CodeLine}
use Rattle.trace_script.specs.declared.line.Line.TheVariants as lines

pub data Line : Type 0 where
  words : List ℕ → Line
  sampler : SamplerName → Line
  limits : spans.SpanLimits → Line
  desk : DeskConfig → Line
  max_body : ℕ → Line
  resource : attributes.Attribute → Line
  scope : ℕ → spans.Scope → Line
  scope_attribute : ℕ → attributes.Attribute → Line
  outcome : Outcome → Line
  step : Step → Line

-- ---- the types of the code

abbrev pub line_view : {A : Type 0} → CodeLine A → Line
line_view (lines.Words ws) = words ws.items
line_view (lines.Sampler name) = sampler name
line_view (lines.Limits l) = limits (limits_view l)
line_view (lines.Desk c) = desk (config_view c)
line_view (lines.MaxBody n) = max_body n
line_view (lines.Resource key value) = resource (attribute_view (key, value))
line_view (lines.Scope number name version schema) =
    scope number (record {
      name = string_bytes name;
      version = string_bytes version;
      attributes = [];
      schema = string_bytes schema;
    })
line_view (lines.ScopeAttribute number key value) =
    scope_attribute number (attribute_view (key, value))
line_view (lines.Outcome o) = outcome (outcome_view o)
line_view (lines.Step s) = step (step_view s)

-- ---- what the words of a line spell

-- (Trace SDK, Built-in samplers)
unfoldable pub sampler_of : List ℕ → Option SamplerName
sampler_of word =
    if bytes_eq word (codes "on") then Some samplers.AlwaysOn
    else if bytes_eq word (codes "off") then Some samplers.AlwaysOff
    else if bytes_eq word (codes "parent") then Some samplers.ParentBased
    else None

-- `words W ..`
unfoldable pub words_line : List (List ℕ) → Option Line
words_line [] = None
words_line (w ∷ ws) = option_map words (each_of hex_word (w ∷ ws))

-- `sampler NAME`
unfoldable pub sampler_line : List (List ℕ) → Option Line
sampler_line (name ∷ []) = option_map sampler (sampler_of name)
sampler_line _ = None

-- `none`, or how many characters a text may have
unfoldable pub length_of : List ℕ → Option (Option ℕ)
length_of word =
    if bytes_eq word (codes "none") then Some None else option_map Some (number_below (2 ^ 32) word)

-- How many attributes, events and links of a span, and attributes of an event and of a link; and
-- the length of a text in an attribute. (Trace SDK, Span Limits; Common, Attribute Limits)
unfoldable pub limits_of : List ℕ → List ℕ → List ℕ → List ℕ → List ℕ → List ℕ
    → Option spans.SpanLimits
limits_of attributes events links event_attributes link_attributes value_length = do
  a ← number_below (2 ^ 32) attributes
  e ← number_below (2 ^ 32) events
  l ← number_below (2 ^ 32) links
  ea ← number_below (2 ^ 32) event_attributes
  la ← number_below (2 ^ 32) link_attributes
  v ← length_of value_length
  Some (record {
    attributes = a;
    events = e;
    links = l;
    event_attributes = ea;
    link_attributes =
        la;
    value_length = v;
  })

-- `limits A E L EA LA V`
unfoldable pub limits_line : List (List ℕ) → Option Line
limits_line (a ∷ e ∷ l ∷ ea ∷ la ∷ v ∷ []) = option_map limits (limits_of a e l ea la v)
limits_line _ = None

-- `resource KEY VALUE`
unfoldable pub resource_line : List (List ℕ) → Option Line
resource_line (key ∷ value ∷ []) = option_map resource (pair_of key value)
resource_line _ = None

-- a scope without attributes, under its number
unfoldable pub scope_line_of : List ℕ → List ℕ → List ℕ → List ℕ → Option Line
scope_line_of number name version schema = do
  n ← number_below (2 ^ 32) number
  t ← text_of name
  v ← text_of version
  s ← text_of schema
  Some (scope n (record { name = t; version = v; attributes = []; schema = s }))

-- `scope N NAME VERSION SCHEMA`
unfoldable pub scope_line : List (List ℕ) → Option Line
scope_line (number ∷ name ∷ version ∷ schema ∷ []) = scope_line_of number name version schema
scope_line _ = None

-- an attribute of the scope with this number
unfoldable pub scope_attribute_line_of : List ℕ → List ℕ → List ℕ → Option Line
scope_attribute_line_of number key value = do
  n ← number_below (2 ^ 32) number
  p ← pair_of key value
  Some (scope_attribute n p)

-- `sattr N KEY VALUE`
unfoldable pub scope_attribute_line : List (List ℕ) → Option Line
scope_attribute_line (number ∷ key ∷ value ∷ []) = scope_attribute_line_of number key value
scope_attribute_line _ = None

-- a number from 1 on, up to the greatest that may be there
unfoldable pub size_to : ℕ → List ℕ → Option ℕ
size_to greatest word =
    number_below (2 ^ 32) word >>= λ n. if nat_le 1 n && nat_le n greatest then Some n else None

-- How many spans may wait, how many a batch may have, and the delay in milliseconds. (Trace SDK,
-- Batching processor; the greatest queue: profile)
unfoldable pub desk_of : List ℕ → List ℕ → List ℕ → Option DeskConfig
desk_of queue batch delay = do
  q ← size_to MAX_QUEUE queue
  b ← size_to q batch
  d ← number_below (2 ^ 32) delay
  Some (record { queue = q; batch = b; delay_ms = d })

-- `desk Q B D`
unfoldable pub desk_line : List (List ℕ) → Option Line
desk_line (queue ∷ batch ∷ delay ∷ []) = option_map desk (desk_of queue batch delay)
desk_line _ = None

-- `max N`: how many bytes a body may have
unfoldable pub max_body_line : List (List ℕ) → Option Line
max_body_line (greatest ∷ []) = option_map max_body (number_below (2 ^ 64) greatest)
max_body_line _ = None

-- a line of this name and these words after it
unfoldable pub entry : List ℕ → List (List ℕ) → Option Line
entry name arguments =
    if bytes_eq name (codes "words") then words_line arguments
    else if bytes_eq name (codes "sampler") then sampler_line arguments
    else if bytes_eq name (codes "limits") then limits_line arguments
    else if bytes_eq name (codes "desk") then desk_line arguments
    else if bytes_eq name (codes "max") then max_body_line arguments
    else if bytes_eq name (codes "resource") then resource_line arguments
    else if bytes_eq name (codes "scope") then scope_line arguments
    else if bytes_eq name (codes "sattr") then scope_attribute_line arguments
    else if bytes_eq name (codes "answer") then option_map outcome (outcome_of_words arguments)
    else option_map step (step_of name arguments)

abbrev pub entry_of : List (List ℕ) → Option Line
entry_of [] = None
entry_of (name ∷ arguments) = entry name arguments

-- what the bytes of a line say, if it is no bad line by itself
unfoldable pub line_of : List ℕ → Option Line
line_of bytes = entry_of (slice_split (λ b. b == 32) bytes)
