-- How the context of a span, and the parent of one that starts, are spelled.
use Rattle.std.specs.Prelude.{ℕ, ◌^◌, Bool, true, false, List, if◌then◌else◌, Option, Some, None}
use Rattle.std.specs.Prelude.{option_map, bytes_eq, codes}
use Rattle.model_span.specs.Spans.{Context}
use Rattle.model_run.specs.Steps.{Parent, root, numbered, given}
use Rattle.text_words.specs.Words.{◌>>=◌, number_below, hex_bytes, byte_of, text_of}
use Rattle.text_words.specs.Parts.{around_first}

-- ---- what words spell

-- the words TRACE, SPAN and FLAGS, of 32, 16 and 2 hexadecimal digits, and the text STATE
unfoldable pub context_of : Bool → List ℕ → List ℕ → List ℕ → List ℕ → Option Context
context_of remote trace span flags state = do
  t ← hex_bytes 16 trace
  i ← hex_bytes 8 span
  f ← byte_of flags
  s ← text_of state
  Some (record { trace = t; span = i; flags = f; remote = remote; state = s })

-- `TRACE:SPAN:FLAGS:STATE`, in which all after the third colon is the state
unfoldable pub joined_context_of : Bool → List ℕ → Option Context
joined_context_of remote word = do
  trace ← around_first 58 word
  span ← around_first 58 trace.1
  flags ← around_first 58 span.1
  context_of remote trace.0 span.0 flags.0 flags.1

-- whether the context after `remote:` or `local:` is remote (Trace API, IsRemote)
unfoldable pub is_remote_of : List ℕ → Option Bool
is_remote_of side =
    if bytes_eq side (codes "remote") then Some true
    else if bytes_eq side (codes "local") then Some false
    else None

-- a context after one of these
unfoldable pub given_of : List ℕ → List ℕ → Option Parent
given_of side context =
    is_remote_of side >>= λ remote. option_map given (joined_context_of remote context)

-- `root`, or the number of a span
unfoldable pub plain_parent_of : List ℕ → Option Parent
plain_parent_of word =
    if bytes_eq word (codes "root") then Some root
    else option_map numbered (number_below (2 ^ 32) word)

abbrev pub parent_at : List ℕ → Option (List ℕ × List ℕ) → Option Parent
parent_at word None = plain_parent_of word
parent_at word (Some (side, context)) = given_of side context

-- the parent that a word spells
unfoldable pub parent_of : List ℕ → Option Parent
parent_of word = parent_at word (around_first 58 word)
