-- The field `traceparent`, as it is written. (W3C Trace Context, Traceparent Header)
use Rattle.std.specs.Prelude.{◌≡◌, ℕ, ◌+◌, IsTrue, List, [], ◌∷◌, ◌++◌, length, codes, Some, true}
use Rattle.hex.specs.Hex.{IsBytes, encode_lower}
use Rattle.model_span.specs.Spans.{Context, is_valid}
use Rattle.trace_context.specs.Traceparent.{kept_flags, traceparent}

-- the flags that go out, as two digits, from `00` to `03`: a `0` (48), and the digit of the flags
-- that are kept (W3C Trace Context level 2, trace-flags, Other Flags: they are set to zero)
abbrev pub flags_text : ℕ → List ℕ
flags_text flags = 48 ∷ (48 + kept_flags flags) ∷ []

-- Version 00, the trace id, the parent id and the flags, with a dash (45) between each two. (W3C
-- Trace Context, version-format)
unfoldable pub traceparent_text : Context → List ℕ
traceparent_text c =
    codes "00" ++ (45 ∷ (encode_lower c.trace ++ (45 ∷ (encode_lower c.span
    ++ (45 ∷ flags_text c.flags)))))

-- the identifiers are of the sizes that they have
pub record HasSizes (c : Context) : Type 0 where
  pub trace : (length c.trace ≡ 16) × IsBytes c.trace
  pub span : (length c.span ≡ 8) × IsBytes c.span

-- what the reader of its `traceparent` knows of a context
abbrev pub as_read : Context → Context
as_read c = record c { flags = kept_flags c.flags; remote = true; state = [] }

-- What is written of a valid context is read as that context. (W3C Trace Context, Traceparent
-- Header)
abbrev pub TraceparentsAreReadBack : Type 0
TraceparentsAreReadBack = (c : Context) → HasSizes c → IsTrue (is_valid c)
    → traceparent (traceparent_text c) ≡ Some (as_read c)
