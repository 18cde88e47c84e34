-- What a page still writes, by the plan of its rows.
use Rattle.std.proofs.Common.{◌≡◌, sym, ap, subst, ◌∙◌, ℕ, ◌+◌, ◌<◌, ◌^◌, List, ◌++◌}
use Rattle.std.proofs.Common.{length, length-append, map, append_assoc, arith}
use Rattle.std.specs.Arc.{arc_value}
use Rattle.std.specs.declared.sync.Arc.{Arc}
use Rattle.std.proofs.lemmas.List.{length-map}
use Rattle.trace_tree.specs.Order.{ArePlaces}
use Rattle.trace_tree.specs.declared.draw.Frame.{Frame}
use Rattle.trace_tree.specs.declared.span.Row.{Row}
use Rattle.trace_store.specs.declared.span.ViewSpan.{ViewSpan}
use Rattle.trace_lines.specs.Lines.{line_for}
use Rattle.trace_lines.specs.Plans.{IsPlan, tree_span, values}
use Rattle.trace_lines.specs.Times.{frame_of}
use Rattle.trace_lines.specs.declared.line.Line.{Line}
use Rattle.view_pages.specs.Html.{Html, html_bytes, ◌▹◌}
use Rattle.view_pages.specs.Pages.{DrawsPage, end_html, head_html, start_html, title_html}
use Rattle.view_pages.specs.Pages.{trace_html}
use Rattle.view_pages.specs.Pieces.{lines_html}
use Rattle.view_pages.specs.Reading.{places_in}
use Rattle.view_pages.specs.Rows.{PageRow, row_html}
use Rattle.view_pages.proofs.Lines.{same_rows}
use Rattle.view_pages.proofs.Shows.{shows_each}

module _ {A : Type 0} (trace : ℕ) (spans : List (Arc (ViewSpan A) A)) where
  -- what is to be written by a plan
  abbrev pub planned : List Line → Frame → Html
  planned lines frame =
      head_html trace (length spans) frame ▹ lines_html spans frame lines ▹ end_html

  as_many : length (values spans) ≡ length spans
  as_many = length-map spans arc_value

  planned_by : (rows : List Row)
      → planned (map (line_for (values spans)) rows) (frame_of (values spans))
      ≡ trace_html trace (values spans) rows
  unfolding trace_html
  planned_by rows =
      let frame = frame_of (values spans) in
      ap (λ n. head_html trace n frame
      ▹ lines_html spans frame (map (line_for (values spans)) rows) ▹ end_html)
      (sym as_many)
      ∙ ap (λ h. head_html trace (length (values spans)) frame ▹ h ▹ end_html)
      (same_rows spans frame rows)

  planned_is : (lines : List Line) (frame : Frame) (plan : IsPlan spans lines frame)
      → planned lines frame ≡ trace_html trace (values spans) plan.rows
  planned_is lines frame plan =
      ap (λ l. planned l frame) plan.lines_are
      ∙ ap (planned (map (line_for (values spans)) plan.rows)) plan.frame_is
      ∙ planned_by plan.rows

  -- A plan is that of the page.
  pub draws : (lines : List Line) (frame : Frame) → IsPlan spans lines frame
      → DrawsPage trace spans (html_bytes (planned lines frame))
  draws lines frame plan =
      (plan.rows, plan.are_rows, ap html_bytes (planned_is lines frame plan))

  -- The rows that are read of a planned page are the places of the list, each once.
  pub reads_back : (lines : List Line) (frame : Frame)
      → length spans < 2 ^ 64 → IsPlan spans lines frame
      → ArePlaces (length spans) (places_in (html_bytes (planned lines frame)))
  reads_back lines frame small plan =
      let each : ArePlaces (length (values spans)) (map (λ (r : Row). r.index) plan.rows) =
      subst (λ n. ArePlaces n (map (λ (r : Row). r.index) plan.rows))
      (length-map (values spans) tree_span) plan.are_rows.each_once in
      subst (λ n. ArePlaces n (places_in (html_bytes (planned lines frame)))) as_many
      (subst (λ h. ArePlaces (length (values spans)) (places_in (html_bytes h)))
      (sym (planned_is lines frame plan))
      (shows_each trace (values spans) plan.rows (omega (arith, as_many)) each))

-- a head is written, and then what comes after it
pub after_head : (head rest : Html) (text : List ℕ) → text ≡ html_bytes head
    → text ++ html_bytes rest ≡ html_bytes (head ▹ rest)
unfolding html_bytes
after_head head rest text is = ap (λ l. l ++ html_bytes rest) is

-- rows are written, and then the end
pub after_rows : (done all end : Html) (text : List ℕ) → text ++ html_bytes done ≡ html_bytes all
    → text ++ html_bytes (done ▹ end) ≡ html_bytes (all ▹ end)
unfolding html_bytes
after_rows done all end text is =
    sym (append_assoc text (html_bytes done) (html_bytes end)) ∙ ap (λ l. l ++ html_bytes end) is

-- what is above the rows is not empty
pub head_some : (trace count : ℕ) (frame : Frame)
    → 0 < length (html_bytes (head_html trace count frame))
unfolding html_bytes head_html title_html start_html
head_some trace count frame = omega arith

-- a row is not empty
pub row_some : (row : PageRow) (old new : List ℕ) → new ≡ old ++ html_bytes (row_html row)
    → length old < length new
unfolding html_bytes row_html
row_some row old new is =
    let longer : length new ≡ length old + length (html_bytes (row_html row)) =
    ap length is ∙ length-append old (html_bytes (row_html row)) in
    omega (arith, longer)

-- Order of numbers is transitive.
pub longer : (a b c : ℕ) → a < b → b < c → a < c
longer a b c h k = omega arith
