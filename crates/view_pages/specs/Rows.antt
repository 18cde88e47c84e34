-- The rows of the page of a trace.
use Rattle.std.specs.Prelude.{ℕ, ◌+◌, ◌-◌, ◌^◌, ◌==◌, min, Bool, true, false, if◌then◌else◌, Option}
use Rattle.std.specs.Prelude.{Some, None, List, length, map, codes, slice_get}
use Rattle.std.specs.Prelude.{string_bytes}
use Rattle.otlp_read.specs.declared.span.Event.{Event}
use Rattle.otlp_read.specs.declared.span.Span.{Span}
use Rattle.trace_tree.specs.declared.span.Place.{Place}
use Rattle.trace_tree.specs.declared.span.Place.TheVariants.{Root, Child, Orphan, Cycle}
use Rattle.trace_tree.specs.declared.span.Row.{Row}
use Rattle.trace_store.specs.declared.span.ViewSpan.{ViewSpan}
use Rattle.view_pages.specs.Html.{Html, Nothing, Markup, Text, Number, Digits, ◌▹◌, each}
use Rattle.view_pages.specs.Html.{markup_if}
use Rattle.view_pages.specs.Panels.{panel_html}
use Rattle.trace_store.specs.Facts.{is_error, service_of}
use Rattle.trace_lines.specs.Lines.{line_for}
use Rattle.trace_lines.specs.Times.{ends_early, frame_of, share_of, time_of, width_of}
use Rattle.view_pages.specs.Times.{duration}
use Rattle.trace_lines.specs.declared.line.Line.{Line}
use Rattle.trace_tree.specs.declared.draw.Frame.{Frame}

-- words that are said where something holds
unfoldable pub remark_html : Bool → List ℕ → Html
remark_html holds words =
    if holds then Markup (codes " <em>") ▹ Markup words ▹ Markup (codes "</em>") else Nothing

abbrev pub is_orphan : Place → Bool
is_orphan Root = false
is_orphan Child = false
is_orphan Orphan = true
is_orphan Cycle = false

abbrev pub is_cycle : Place → Bool
is_cycle Root = false
is_cycle Child = false
is_cycle Orphan = false
is_cycle Cycle = true

-- what is remarked of a span
unfoldable pub remarks_html : {A : Type 0} → Span A → Place → Bool → Html
remarks_html span place is_repeated =
    remark_html (is_error span) (codes "error")
    ▹ remark_html (is_orphan place) (codes "parent not received")
    ▹ remark_html (is_cycle place) (codes "cycle")
    ▹ remark_html (ends_early span) (codes "ends before it starts")
    ▹ remark_html is_repeated (codes "identifier is repeated")

-- the identifier by which links come here: the first span of the list that has it gets it
unfoldable pub id_html : Bool → List ℕ → Html
id_html is_first id = if is_first then Markup (codes "' id='s-") ▹ Digits id else Nothing

-- the colour of the service, and the identifier
unfoldable pub class_html : {A : Type 0} → ViewSpan A → Line → Html
class_html s line =
    Markup (codes " class='row c") ▹ Number line.colour
    ▹ markup_if (is_error s.span) (codes " bad") ▹ id_html line.mark.is_first s.span.span_id.items

-- a depth, counted from 1
abbrev pub level_of : ℕ → ℕ
level_of depth = min (depth + 1) (2 ^ 64 - 1)

-- how deep the row is, counted from 1 for a reader of screens and from 0 for the indentation
unfoldable pub depth_html : ℕ → Html
depth_html depth =
    Markup (codes "' aria-level='") ▹ Number (level_of depth)
    ▹ Markup (codes "' style='--d:") ▹ Number depth

-- where the bar begins, and how wide it is, in ten thousandths
unfoldable pub bar_html : {A : Type 0} → Span A → Frame → Html
bar_html span frame =
    Markup (codes ";--s:") ▹ Number (share_of frame span.start_time_unix_nano)
    ▹ Markup (codes ";--w:")
    ▹ Number (width_of span frame) ▹ Markup (codes "'>")

-- the name of a span, or that it has none
unfoldable pub name_html : List ℕ → Html
name_html name =
    if length name == 0 then Markup (codes "<b class='blank'>(no name)</b>")
    else Markup (codes "<b>") ▹ Text name ▹ Markup (codes "</b>")

-- the name of the span, its service and what is remarked
unfoldable pub label_html : {A : Type 0} → ViewSpan A → Place → Bool → Html
label_html s place is_repeated =
    Markup (codes "<details><summary><span class='label'>")
    ▹ name_html (string_bytes s.span.name) ▹ Markup (codes " <small>") ▹ Text (service_of s)
    ▹ Markup (codes "</small>") ▹ remarks_html s.span place is_repeated

-- where an event is, in ten thousandths
unfoldable pub tick_html : {A : Type 0} → Frame → Event A → Html
tick_html frame event =
    Markup (codes "<i class='tick' style='--t:") ▹ Number (share_of frame event.time_unix_nano)
    ▹ Markup (codes "'></i>")

-- the bar, with a tick for each event, and how long the span took
unfoldable pub time_html : {A : Type 0} → Span A → Frame → Html
time_html span frame =
    Markup (codes "</span><span class='time'><i class='bar'></i>")
    ▹ each (tick_html frame) span.events.items
    ▹ Markup (codes "</span><span class='took'>")
    ▹ duration (time_of span)
    ▹ Markup (codes "</span></summary><div class='panel'>")

-- what is in the tag of a row
unfoldable pub tag_html : {A : Type 0} → ViewSpan A → Line → Frame → Html
tag_html s line frame = class_html s line ▹ depth_html line.row.depth ▹ bar_html s.span frame

-- the rest of the row of a span
unfoldable pub span_html : {A : Type 0} → ViewSpan A → Line → Frame → Html
span_html s line frame =
    tag_html s line frame ▹ label_html s line.row.place line.mark.is_repeated
    ▹ time_html s.span frame ▹ panel_html s line.row.place
    ▹ Markup (codes "</div></details></li>")

-- of a span that is in the list
abbrev pub span_rest : {A : Type 0} → Option (ViewSpan A) → Line → Frame → Html
span_rest None line frame = Nothing
span_rest (Some s) line frame = span_html s line frame

-- A row of a page: the place in the list of the span that it shows, and what is in it.
pub record PageRow : Type 0 where
  pub place : ℕ
  pub content : Html

-- the row of the span in a place, among these spans
abbrev pub page_row : {A : Type 0} → List (ViewSpan A) → Frame → Row → PageRow
page_row spans frame row = record {
  place = row.index;
  content =
      span_rest (slice_get spans row.index) (line_for spans row) frame;
}

-- a row begins with the place of its span
unfoldable pub row_html : PageRow → Html
row_html row =
    Markup (codes "<li data-row='") ▹ Number row.place ▹ Markup (codes "'") ▹ row.content

-- a row for each of these
abbrev pub page_rows : {A : Type 0} → List (ViewSpan A) → List Row → List PageRow
page_rows spans rows = map (page_row spans (frame_of spans)) rows
