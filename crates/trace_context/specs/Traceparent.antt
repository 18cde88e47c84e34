-- The field `traceparent`, as it is read. (W3C Trace Context, Traceparent Header; Versioning of
-- traceparent)
use Rattle.std.specs.Prelude.{ℕ, ◌%◌, ◌==◌, ◌&&◌, ◌||◌, not, nat_le, Bool, if◌then◌else◌}
use Rattle.std.specs.Prelude.{List, [], length, slice_index, slice_range, Option, Some, None}
use Rattle.std.specs.Prelude.{true}
use Rattle.model_span.specs.Spans.{Context, is_id}
use Rattle.text_words.specs.Words.{◌>>=◌}
use Rattle.trace_context.specs.Digits.{lower_bytes}

-- the only byte of such a list
abbrev pub byte_in : List ℕ → ℕ
byte_in bytes = slice_index bytes 0

-- an identifier, unless all its bytes are zero (W3C Trace Context, trace-id, parent-id)
abbrev pub id_in : List ℕ → Option (List ℕ)
id_in bytes = if is_id bytes then Some bytes else None

-- Whether a text of 55 bytes or more has its dashes (45): after the version, the trace id and the
-- parent id, and, where it goes on, after the flags. (W3C Trace Context, version-format, Versioning
-- of traceparent)
unfoldable pub has_dashes : List ℕ → Bool
has_dashes text =
    slice_index text 2 == 45 && slice_index text 35 == 45 && slice_index text 52 == 45
    && (length text == 55 || slice_index text 55 == 45)

-- Whether a text of this length may have this version: never 255, and of version 0 only with 55
-- bytes. (W3C Trace Context, version, version-format)
unfoldable pub is_version : ℕ → ℕ → Bool
is_version len version = not (version == 255) && (not (version == 0) || len == 55)

-- the flags that are kept: whether the span is sampled (1), and whether the trace id is random (2)
-- (W3C Trace Context level 2, trace-flags, Sampled flag, Random Trace ID Flag, Other Flags)
abbrev pub kept_flags : ℕ → ℕ
kept_flags flags = flags % 4

-- the version at its place, if the text may have it
unfoldable pub version_of : List ℕ → Option ℕ
version_of text =
    lower_bytes 1 (slice_range text 0 2) >>= λ version.
    if is_version (length text) (byte_in version) then Some (byte_in version) else None

-- the identifiers that their digits spell
unfoldable pub trace_of : List ℕ → Option (List ℕ)
trace_of digits = lower_bytes 16 digits >>= id_in

unfoldable pub span_of : List ℕ → Option (List ℕ)
span_of digits = lower_bytes 8 digits >>= id_in

-- the context of the caller, with no trace state yet
abbrev pub remote_context : List ℕ → List ℕ → List ℕ → Context
remote_context trace span flags = record {
  trace = trace;
  span = span;
  flags = kept_flags (byte_in flags);
  remote = true;
  state = [];
}

-- The context that a text gives, if it is a `traceparent`: the version (bytes 0 and 1), the trace
-- id (3 to 34), the parent id (36 to 51) and the flags (53 and 54), in digits of lower case, with
-- dashes between them. What a later version has after them doesn't count. (W3C Trace Context,
-- Traceparent Header, Versioning of traceparent)
unfoldable pub traceparent : List ℕ → Option Context
traceparent text =
    if nat_le 55 (length text) && has_dashes text
    then (version_of text >>= λ version.
    trace_of (slice_range text 3 35) >>= λ trace.
    span_of (slice_range text 36 52) >>= λ span.
    lower_bytes 1 (slice_range text 53 55) >>= λ flags. Some (remote_context trace span flags))
    else None
