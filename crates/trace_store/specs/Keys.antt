-- Which trace a span belongs to.
use Rattle.std.specs.Prelude.{ℕ, ◌==◌, if◌then◌else◌, List, length}
use Rattle.std.specs.Int.{w128, from_be_bytes}

-- The number of a trace with this identifier: its 16 bytes, the most significant first; 0 where it
-- hasn't 16. (W3C Trace Context, "trace-id")
abbrev pub trace_key : List ℕ → ℕ
trace_key id = if length id == 16 then from_be_bytes w128 id else 0
