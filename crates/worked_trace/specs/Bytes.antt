-- Bodies that recur, byte by byte.
use Rattle.std.specs.Prelude.{ℕ, List, [], ◌++◌, replicate}
use Rattle.worked_trace.specs.Hex.{hex}
use Rattle.worked_trace.specs.Samples.{trace_id, span_id}

-- the trace and the span
abbrev pub span_ids : List ℕ
unfolding hex
span_ids = hex "0a 10" ++ trace_id ++ hex "12 08" ++ span_id

-- of no trace and no span
abbrev pub zero_ids : List ℕ
unfolding hex
zero_ids = hex "0a 10" ++ replicate 16 0 ++ hex "12 08" ++ replicate 8 0

-- internal, from 1 to 2
abbrev pub kind_and_times : List ℕ
unfolding hex
kind_and_times =
    hex "30 01" ++
    hex "39 01 00 00 00 00 00 00 00" ++
    hex "41 02 00 00 00 00 00 00 00"

-- the flags of a span that is sampled, of which it is known that no parent is remote
abbrev pub span_flags : List ℕ
unfolding hex
span_flags = hex "85 01 01 01 00 00"

-- likewise, of a link to a local context that is sampled
abbrev pub link_flags : List ℕ
unfolding hex
link_flags = hex "35 01 01 00 00"

-- likewise, of one to a local context that isn't
abbrev pub zero_link_flags : List ℕ
unfolding hex
zero_link_flags = hex "35 00 01 00 00"

-- span a with this name and these fields after its times, in bytes
abbrev pub span_with : List ℕ → List ℕ → List ℕ
unfolding hex
span_with name fields = span_ids ++ name ++ kind_and_times ++ fields ++ span_flags

-- span a with these fields after its times
abbrev pub a_with : List ℕ → List ℕ
unfolding hex
a_with fields = span_with (hex "2a 01 61") fields

-- span a without further calls
abbrev pub plain_span : List ℕ
unfolding hex
plain_span = a_with []

-- span a alone in scope s
abbrev pub plain_body : List ℕ
unfolding hex
plain_body =
    hex "0a 44 0a 00" ++  -- a resource without attributes
    hex "12 40 0a 03 0a 01 73" ++  -- scope s
    hex "12 39" ++ plain_span

-- the same as it was written before flags were: without them
abbrev pub body_without_flags : List ℕ
unfolding hex
body_without_flags =
    hex "0a 3e 0a 00 12 3a 0a 03 0a 01 73" ++
    hex "12 33" ++ span_ids ++ hex "2a 01 61" ++ kind_and_times

-- a span whose fields are in falling number, its status and its name twice, with a field that is
-- unknown
abbrev pub reversed_body : List ℕ
unfolding hex
reversed_body =
    hex "0a 33 12 31 12 2f" ++
    hex "7a 02 18 02" ++  -- status: its code
    hex "7a 03 12 01 78" ++  -- status: its message
    hex "9a 06 01 7a" ++  -- field 99
    hex "2a 01 62 2a 01 61" ++  -- name b, then name a
    hex "12 08" ++ span_id ++
    hex "0a 10" ++ trace_id
