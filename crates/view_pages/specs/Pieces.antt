-- What a page that is written in pieces may still write.
use Rattle.std.specs.Prelude.{◌≡◌, ℕ, Bool, true, false, option_map, List, drop, length, slice_get}
use Rattle.std.specs.Arc.{arc_value}
use Rattle.std.specs.declared.sync.Arc.{Arc}
use Rattle.trace_tree.specs.declared.draw.Frame.{Frame}
use Rattle.trace_store.specs.declared.span.ViewSpan.{ViewSpan}
use Rattle.trace_lines.specs.Comes.{MayHave}
use Rattle.trace_lines.specs.declared.line.Line.{Line}
use Rattle.view_pages.specs.Html.{Html, Nothing, html_bytes, ◌▹◌, each}
use Rattle.view_pages.specs.Pages.{end_html, head_html}
use Rattle.view_pages.specs.Rows.{PageRow, row_html, span_rest}
use Rattle.view_pages.specs.declared.pieces.Stage.{Stage}
use Rattle.view_pages.specs.declared.pieces.Stage.TheVariants.{Head, Rows, End}
use Rattle.view_pages.specs.declared.pieces.TracePage.{TracePage}

-- the row of a line, whose span its owner has
abbrev pub line_row : {A : Type 0} → List (Arc (ViewSpan A) A) → Frame → Line → PageRow
line_row spans frame line = record {
  place = line.row.index;
  content = span_rest (option_map arc_value (slice_get spans line.row.index)) line frame;
}

-- the rows of these lines
abbrev pub line_html : {A : Type 0} → List (Arc (ViewSpan A) A) → Frame → Line → Html
line_html spans frame line = row_html (line_row spans frame line)

abbrev pub lines_html : {A : Type 0} → List (Arc (ViewSpan A) A) → Frame → List Line → Html
lines_html spans frame lines = each (line_html spans frame) lines

-- whether all is written
abbrev pub is_end : Stage → Bool
is_end Head = false
is_end (Rows at) = false
is_end End = true

-- what is left of a page with these lines: all of it; its rows from a line on, and its end; nothing
abbrev pub left_html : {A : Type 0} → ℕ → List (Arc (ViewSpan A) A) → List Line → Frame → Stage
    → Html
left_html trace spans lines frame Head =
    head_html trace (length spans) frame ▹ lines_html spans frame lines ▹ end_html
left_html trace spans lines frame (Rows at) =
    lines_html spans frame (drop at lines) ▹ end_html
left_html trace spans lines frame End = Nothing

-- what is left of a page once its rows are planned
abbrev pub page_html : {A : Type 0} → TracePage A → Stage → Html
page_html page stage =
    left_html page.trace page.rows.spans.items page.rows.lines.items page.rows.frame stage

-- These bytes are what a page may still write: what is left of it, by lines that the plan of its
-- rows may come to.
pub record StillWrites {A : Type 0} (page : TracePage A) (bytes : List ℕ) : Type 0 where
  pub lines : List Line
  pub frame : Frame
  pub may_have : MayHave page.rows lines frame
  pub bytes_are :
      bytes ≡ html_bytes (left_html page.trace page.rows.spans.items lines frame page.stage)
