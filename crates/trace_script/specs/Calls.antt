-- The calls on a span, by the name of the line and the words after the span's number.
use Rattle.std.specs.Prelude.{ℕ, ◌^◌, false, List, [], ◌∷◌, if◌then◌else◌, Option, Some, None}
use Rattle.std.specs.Prelude.{option_map, bytes_eq, codes}
use Rattle.model_span.specs.Spans.{Call, Status, set_attribute, add_event, record_exception}
use Rattle.model_span.specs.Spans.{add_link, set_status, update_name, unset, ok, error}
use Rattle.text_words.specs.Words.{◌>>=◌, number_below, text_of}
use Rattle.trace_script.specs.Values.{pair_of, pairs_of}
use Rattle.trace_script.specs.Contexts.{context_of}

-- `KEY VALUE`
unfoldable pub attribute_call : List (List ℕ) → Option Call
attribute_call (key ∷ value ∷ []) = option_map set_attribute (pair_of key value)
attribute_call _ = None

-- the moment of an event, its name and its pairs
unfoldable pub event_call_of : List ℕ → List ℕ → List (List ℕ) → Option Call
event_call_of at name pairs = do
  a ← number_below (2 ^ 64) at
  n ← text_of name
  ps ← pairs_of pairs
  Some (add_event n a ps)

-- `AT NAME PAIRS`
unfoldable pub event_call : List (List ℕ) → Option Call
event_call (at ∷ name ∷ pairs) = event_call_of at name pairs
event_call _ = None

-- the type, the message and the stack trace of an exception, its moment and its pairs
unfoldable pub exception_of : List ℕ → List ℕ → List ℕ → List ℕ → List (List ℕ) → Option Call
exception_of at kind message stack pairs = do
  a ← number_below (2 ^ 64) at
  k ← text_of kind
  m ← text_of message
  s ← text_of stack
  ps ← pairs_of pairs
  Some (record_exception k m s a ps)

-- `AT TYPE MESSAGE STACK PAIRS`
unfoldable pub exception_call : List (List ℕ) → Option Call
exception_call (at ∷ kind ∷ message ∷ stack ∷ pairs) = exception_of at kind message stack pairs
exception_call _ = None

-- `TRACE SPAN FLAGS STATE PAIRS`: the context isn't remote
unfoldable pub link_call : List (List ℕ) → Option Call
link_call (trace ∷ span ∷ flags ∷ state ∷ pairs) = do
  c ← context_of false trace span flags state
  ps ← pairs_of pairs
  Some (add_link c ps)
link_call _ = None

-- a status that has no description
unfoldable pub plain_status_of : List ℕ → Option Status
plain_status_of name =
    if bytes_eq name (codes "unset") then Some unset
    else if bytes_eq name (codes "ok") then Some ok
    else None

-- one that has
unfoldable pub described_status_of : List ℕ → List ℕ → Option Status
described_status_of name description =
    if bytes_eq name (codes "error") then option_map error (text_of description) else None

-- `unset`, `ok` or `error TEXT`
unfoldable pub status_call : List (List ℕ) → Option Call
status_call (name ∷ []) = option_map set_status (plain_status_of name)
status_call (name ∷ description ∷ []) = option_map set_status (described_status_of name description)
status_call _ = None

-- `TEXT`
unfoldable pub name_call : List (List ℕ) → Option Call
name_call (name ∷ []) = option_map update_name (text_of name)
name_call _ = None

-- a call of this name, and the words after the span's number
unfoldable pub call_of : List ℕ → List (List ℕ) → Option Call
call_of name words =
    if bytes_eq name (codes "attr") then attribute_call words
    else if bytes_eq name (codes "event") then event_call words
    else if bytes_eq name (codes "exception") then exception_call words
    else if bytes_eq name (codes "link") then link_call words
    else if bytes_eq name (codes "status") then status_call words
    else if bytes_eq name (codes "name") then name_call words
    else None
