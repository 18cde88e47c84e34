-- The text of a trace.
use Rattle.std.specs.Prelude.{◌≡◌, ℕ, Option, Some, None, List, [], option_map, drop, slice_get}
use Rattle.std.specs.Arc.{arc_value}
use Rattle.std.specs.List.{flat_map}
use Rattle.std.specs.declared.sync.Arc.{Arc}
use Rattle.trace_tree.specs.Lines.{line_text, tree_text}
use Rattle.trace_tree.specs.Steps.{AreArranged}
use Rattle.trace_tree.specs.declared.draw.Frame.{Frame}
use Rattle.trace_tree.specs.declared.span.Row.{Row}
use Rattle.trace_store.specs.declared.span.ViewSpan.{ViewSpan}
use Rattle.trace_lines.specs.Comes.{MayHave}
use Rattle.trace_lines.specs.Plans.{tree_of, tree_span, values}
use Rattle.trace_lines.specs.declared.line.Line.{Line}
use Rattle.trace_lines.specs.declared.text.TraceText.{TraceText}

-- these bytes are the text of a trace with these spans: lines whose bars have 40 columns
abbrev pub DrawsText : {A : Type 0} → List (Arc (ViewSpan A) A) → List ℕ → Type 0
DrawsText spans page = (rows : List Row) × AreArranged (tree_of (values spans)) rows
    × (page ≡ tree_text (tree_of (values spans)) 40 rows)

-- the line of a row, if its span is in the list
abbrev pub span_text : {A : Type 0} → Option (ViewSpan A) → Row → Frame → List ℕ
span_text None row frame = []
span_text (Some s) row frame = line_text (tree_span s) row frame 40

-- the line of a row, whose span its owner has
abbrev pub row_text : {A : Type 0} → List (Arc (ViewSpan A) A) → Frame → Line → List ℕ
row_text spans frame line =
    span_text (option_map arc_value (slice_get spans line.row.index)) line.row frame

-- the lines of these rows
abbrev pub lines_text : {A : Type 0} → List (Arc (ViewSpan A) A) → Frame → List Line → List ℕ
lines_text spans frame lines = flat_map (row_text spans frame) lines

-- These bytes are what a text may still write: the rest of the lines that its plan may come to.
pub record StillWrites {A : Type 0} (text : TraceText A) (bytes : List ℕ) : Type 0 where
  pub lines : List Line
  pub frame : Frame
  pub may_have : MayHave text.rows lines frame
  pub bytes_are : bytes ≡ lines_text text.rows.spans.items frame (drop text.at lines)
