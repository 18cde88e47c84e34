-- Fields of a request that carry a context. (W3C Trace Context, Trace Context HTTP Headers Format;
-- OpenTelemetry Specification, Propagators API)
use Rattle.std.specs.Prelude.{◌≡◌, ◌⊎◌, IsTrue, ℕ, Bool, true, false, if◌then◌else◌}
use Rattle.std.specs.Prelude.{List, [], ◌∷◌, map, flat_map, bytes_eq, codes}
use Rattle.std.specs.Prelude.{Option, Some, None}
use Rattle.std.specs.Char.{to_ascii_lowercase}
use Rattle.model_span.specs.Attributes.{is_empty}
use Rattle.model_span.specs.Spans.{Context, is_valid}
use Rattle.text_words.specs.Words.{◌>>=◌}
use Rattle.trace_context.specs.Traceparent.{traceparent}
use Rattle.trace_context.specs.Tracestate.{tracestate}
use Rattle.trace_context.specs.Outgoing.{HasSizes, as_read, traceparent_text}

-- a name and a value
abbrev pub Field : Type 0
Field = List ℕ × List ℕ

-- letters count in either case (RFC 9110, section 5.1)
unfoldable pub is_same_name : List ℕ → List ℕ → Bool
is_same_name a b = bytes_eq (map to_ascii_lowercase a) (map to_ascii_lowercase b)

-- the value of a field, if it has this name
unfoldable pub value_in : List ℕ → Field → List (List ℕ)
value_in name field = if is_same_name field.0 name then field.1 ∷ [] else []

-- the values of the fields with this name, in order
abbrev pub values_of : List ℕ → List Field → List (List ℕ)
values_of name fields = flat_map (value_in name) fields

-- what there is one of, if there is one and no other
abbrev pub only_one : List (List ℕ) → Option (List ℕ)
only_one (value ∷ []) = Some value
only_one _ = None

-- the context of the only `traceparent`, with no trace state yet (W3C Trace Context, Processing
-- Model)
unfoldable pub parent_in : List Field → Option Context
parent_in fields = only_one (values_of (codes "traceparent") fields) >>= traceparent

-- The context that the fields of a request carry: that of its only `traceparent`, with the trace
-- state of all its `tracestate`. (W3C Trace Context, Processing Model)
unfoldable pub extracted : List Field → Option Context
extracted fields =
    parent_in fields >>= λ c.
    Some (record c { state = tracestate (values_of (codes "tracestate") fields) })

-- the field of a trace state that isn't empty
abbrev pub state_fields : List ℕ → List Field
state_fields [] = []
state_fields (b ∷ bytes) = (codes "tracestate", b ∷ bytes) ∷ []

-- The fields that carry a context: none where it is invalid. Of its trace state what can be read
-- goes out. (Propagators API, Inject; W3C Trace Context)
unfoldable pub outgoing : Context → List Field
outgoing c =
    if is_valid c
    then (codes "traceparent", traceparent_text c) ∷ state_fields (tracestate (c.state ∷ []))
    else []

-- Why memory for the fields of a context may be refused: it is valid, and has a trace state, or the
-- carrier may refuse its `traceparent`. (profile)
abbrev pub OutgoingTakesMemory : (List ℕ → List ℕ → Type 0) → Context → Type 0
OutgoingTakesMemory refuses c =
    (is_valid c ≡ true)
    × ((is_empty c.state ≡ false) ⊎ refuses (codes "traceparent") (traceparent_text c))

-- What goes out of a valid context whose trace state is in its normal form is read as that context.
-- (Propagators API, Inject, Extract)
abbrev pub ContextsAreReadBack : Type 0
ContextsAreReadBack = (c : Context) → HasSizes c → IsTrue (is_valid c)
    → tracestate (c.state ∷ []) ≡ c.state
    → extracted (outgoing c) ≡ Some (record (as_read c) { state = c.state })
