-- What a list says of traces, whatever it is written in, and which traces it has. (profile)
use Rattle.std.specs.Prelude.{◌≡◌, ℕ, ◌-◌, ◌/◌, Bool, not, ◌&&◌, ◌||◌, ◌==◌, nat_le, nat_lt}
use Rattle.std.specs.Prelude.{Option, Some, None, List, IsNone, IsSomeAnd, length, string_bytes}
use Rattle.std.specs.Arc.{arc_value}
use Rattle.std.specs.List.{list_any, starts_with}
use Rattle.std.specs.Str.{bytes_eq}
use Rattle.std.specs.declared.sync.Arc.{Arc}
use Rattle.trace_store.specs.Digests.{TraceFacts}
use Rattle.trace_store.specs.Facts.{service_of}
use Rattle.trace_store.specs.declared.span.ViewSpan.{ViewSpan}
use Rattle.trace_lines.specs.declared.filter.Filter.{Filter}
use Rattle.trace_lines.specs.declared.summary.Summary.{Summary}

-- ---- what the list says of a trace

-- What the list says of a trace with this root and these facts.
pub record IsSummary {A : Type 0} (trace : ℕ) (root : ViewSpan A) (facts : TraceFacts (ViewSpan A))
    (summary : Summary) : Type 0 where
  pub trace_is : summary.trace ≡ trace
  pub start_is : summary.start_time_unix_nano ≡ facts.start_time_unix_nano
  pub end_is : summary.end_time_unix_nano ≡ facts.end_time_unix_nano
  pub name_is : summary.name.now ≡ string_bytes root.span.name
  pub service_is : summary.service.now ≡ service_of root
  pub count_is : summary.span_count ≡ facts.span_count
  pub errors_are : summary.error_count ≡ facts.error_count

-- there is one where there is a root
abbrev pub IsSummaryBy : {A : Type 0} → Option (ViewSpan A) → ℕ → TraceFacts (ViewSpan A)
    → Option Summary → Type 0
IsSummaryBy None trace facts summary = IsNone summary
IsSummaryBy (Some root) trace facts summary = IsSomeAnd summary (IsSummary trace root facts)

-- how long the trace took, in nanoseconds
abbrev pub duration_of : Summary → ℕ
duration_of s = s.end_time_unix_nano - s.start_time_unix_nano

-- ---- which traces are in the list

-- the name of the root begins as is wanted, the trace took long enough, and has an error if that is
-- wanted
abbrev pub has_name : {A : Type 0} → Filter A → Summary → Bool
has_name filter s = starts_with (λ a b. a == b) s.name.now (string_bytes filter.name)

abbrev pub is_long : {A : Type 0} → Filter A → Summary → Bool
is_long filter s = nat_le filter.least_ms (duration_of s / 1_000_000)

abbrev pub has_errors : {A : Type 0} → Filter A → Summary → Bool
has_errors filter s = not filter.errors_only || nat_lt 0 s.error_count

-- what is said of a trace passes each test
abbrev pub matches : {A : Type 0} → Filter A → Summary → Bool
matches filter s = has_name filter s && is_long filter s && has_errors filter s

-- the service that is asked for made this span, and one of these
abbrev pub is_service : {A : Type 0} → Filter A → ViewSpan A → Bool
is_service filter span = bytes_eq (service_of span) (string_bytes filter.service)

abbrev pub has_some : {A : Type 0} → Filter A → List (Arc (ViewSpan A) A) → Bool
has_some filter spans = list_any (λ s. is_service filter (arc_value s)) spans

-- the service that is asked for, if any is, made one of the spans of a trace
abbrev pub has_service : {A : Type 0} → Filter A → List (Arc (ViewSpan A) A) → Bool
has_service filter spans = length (string_bytes filter.service) == 0 || has_some filter spans
