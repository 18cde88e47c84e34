-- What traces are: each an identifier and the spans of that trace, in the order in which they came.
-- The trace that got a span last is the first.
use Rattle.std.specs.Prelude.{ℕ, List, [], ◌∷◌, ◌++◌, length, map, nat_eq, sum_by}
use Rattle.std.specs.Prelude.{unwrap_or}
use Rattle.std.specs.Map.{lookup, remove_entry, values_of}

-- the identifiers of traces
abbrev pub traces_of : {S : Type 0} → List (ℕ × List S) → List ℕ
traces_of traces = map (λ entry. entry.0) traces

-- the spans of a trace
abbrev pub spans_of : {S : Type 0} → List (ℕ × List S) → ℕ → List S
spans_of traces trace = unwrap_or (lookup (nat_eq trace) traces) []

-- The traces with more spans of one of them, after those that it has. This one is the newest then.
abbrev pub with_spans : {S : Type 0} → List (ℕ × List S) → ℕ → List S → List (ℕ × List S)
with_spans traces trace spans =
    (trace, spans_of traces trace ++ spans) ∷ remove_entry (nat_eq trace) traces

-- how many spans there are in all traces
abbrev pub span_count : {S : Type 0} → List (ℕ × List S) → ℕ
span_count traces = sum_by length (values_of traces)

-- how many bytes all traces take, where the function says how many a span takes
abbrev pub byte_count : {S : Type 0} → (S → ℕ) → List (ℕ × List S) → ℕ
byte_count size traces = sum_by (sum_by size) (values_of traces)

-- The traces that parts have spans of, each as it is with them: they come after those that it has.
abbrev pub joined_traces : {S : Type 0} → List (ℕ × List S) → List (ℕ × List S)
    → List (ℕ × List S)
joined_traces traces parts = map (λ part. (part.0, spans_of traces part.0 ++ part.1)) parts

-- The traces with the spans of several parts, each a trace and spans of it, one after another.
abbrev pub with_parts : {S : Type 0} → List (ℕ × List S) → List (ℕ × List S) → List (ℕ × List S)
with_parts traces [] = traces
with_parts traces (part ∷ parts) = with_parts (with_spans traces part.0 part.1) parts
