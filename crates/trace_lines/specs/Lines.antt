-- What is known of each row before any is written.
use Rattle.std.specs.Prelude.{ℕ, false, Option, Some, None, List, slice_get}
use Rattle.trace_tree.specs.declared.span.Row.{Row}
use Rattle.trace_store.specs.Facts.{service_of}
use Rattle.trace_store.specs.declared.span.ViewSpan.{ViewSpan}
use Rattle.trace_lines.specs.Repeats.{mark_of}
use Rattle.trace_lines.specs.Services.{colour_of, services_of}
use Rattle.trace_lines.specs.declared.line.Line.{Line}
use Rattle.trace_lines.specs.declared.repeat.Mark.{Mark}

-- what is said of the identifier of the span in this place, if there is one
abbrev pub mark_for : {A : Type 0} → List (ViewSpan A) → Option (ViewSpan A) → ℕ → Mark
mark_for spans None place = record { is_first = false; is_repeated = false }
mark_for spans (Some s) place = mark_of spans s.span.span_id.items place

-- the colour of its service
abbrev pub colour_for : {A : Type 0} → List (ViewSpan A) → Option (ViewSpan A) → ℕ
colour_for spans None = 0
colour_for spans (Some s) = colour_of (services_of spans) (service_of s)

-- the line of a row: what its span is among the others of its trace
abbrev pub line_for : {A : Type 0} → List (ViewSpan A) → Row → Line
line_for spans row = record {
  row = row;
  mark = mark_for spans (slice_get spans row.index) row.index;
  colour = colour_for spans (slice_get spans row.index);
}
