-- What a trace is, in short: its root, when it began and ended, and how many spans it has.
use Rattle.std.specs.Prelude.{ℕ, ◌-◌, ◌^◌, min, max, not, ◌&&◌, if◌then◌else◌, List, [], ◌∷◌}
use Rattle.std.specs.Prelude.{Option, Some, None, count_by, length, map}
use Rattle.std.specs.List.{find}
use Rattle.std.specs.Option.{option_or}
use Rattle.std.specs.Arc.{arc_value}
use Rattle.std.specs.declared.sync.Arc.{Arc}
use Rattle.trace_store.specs.declared.span.ViewSpan.{ViewSpan}
use Rattle.trace_store.specs.Facts.{end_of, is_error, names_none}
use Rattle.otlp_read.specs.Memory.{at_most_64_bits}

-- the root, the earliest start and the latest end in nanoseconds since 1970, and how many spans
-- there are and how many of them are errors
pub record TraceFacts (S : Type 0) : Type 0 where
  pub root : Option S
  pub start_time_unix_nano : ℕ
  pub end_time_unix_nano : ℕ
  pub span_count : ℕ
  pub error_count : ℕ

-- the first of some spans, if there is one
abbrev pub first_of : {A : Type 0} → List (ViewSpan A) → Option (ViewSpan A)
first_of [] = None
first_of (s ∷ ss) = Some s

-- The root: the first span that names no parent, or else the first of all. (profile)
abbrev pub root_of : {A : Type 0} → List (ViewSpan A) → Option (ViewSpan A)
root_of spans = option_or (find (λ s. names_none s.span) spans) (first_of spans)

-- the earliest start, or the largest number of 64 bits where there is no span
abbrev pub earliest_start : {A : Type 0} → List (ViewSpan A) → ℕ
earliest_start [] = 2 ^ 64 - 1
earliest_start (s ∷ ss) = min s.span.start_time_unix_nano (earliest_start ss)

-- the latest end, or 0 where there is no span
abbrev pub latest_end : {A : Type 0} → List (ViewSpan A) → ℕ
latest_end [] = 0
latest_end (s ∷ ss) = max (end_of s.span) (latest_end ss)

-- What is said of a trace with these spans, in the order in which they came.
abbrev pub digest_of : {A : Type 0} → List (ViewSpan A) → TraceFacts (ViewSpan A)
digest_of spans = record {
  root = root_of spans;
  start_time_unix_nano = earliest_start spans;
  end_time_unix_nano = latest_end spans;
  span_count = at_most_64_bits (length spans);
  error_count = at_most_64_bits (count_by (λ s. is_error s.span) spans);
}

-- the same of spans as they are kept
abbrev pub digest_of_kept : {A : Type 0} → List (Arc (ViewSpan A) A) → TraceFacts (ViewSpan A)
digest_of_kept kept = digest_of (map arc_value kept)

-- the root of a trace with one root, and after its spans others with another root
abbrev pub root_between : {A : Type 0} → Option (ViewSpan A) → Option (ViewSpan A)
    → Option (ViewSpan A)
root_between None second = second
root_between (Some x) None = Some x
root_between (Some x) (Some y) =
    if names_none y.span && not (names_none x.span) then Some y else Some x
