-- The rows of a page, by those of the lines of its plan.
use Rattle.std.proofs.Common.{◌≡◌, refl, sym, ap, ◌∙◌, List, [], ◌∷◌, map}
use Rattle.std.specs.Arc.{arc_value}
use Rattle.std.specs.declared.sync.Arc.{Arc}
use Rattle.std.proofs.lemmas.Option.{slice_get-map}
use Rattle.trace_tree.specs.declared.draw.Frame.{Frame}
use Rattle.trace_tree.specs.declared.span.Row.{Row}
use Rattle.trace_store.specs.declared.span.ViewSpan.{ViewSpan}
use Rattle.trace_lines.specs.Lines.{line_for}
use Rattle.trace_lines.specs.Plans.{values}
use Rattle.view_pages.specs.Html.{each, ◌▹◌}
use Rattle.view_pages.specs.Pieces.{line_html, lines_html}
use Rattle.view_pages.specs.Rows.{page_row, row_html, span_rest}

module _ {A : Type 0} (spans : List (Arc (ViewSpan A) A)) (frame : Frame) where
  -- the row of a line is that of the page
  same_row : (row : Row)
      → line_html spans frame (line_for (values spans) row)
      ≡ row_html (page_row (values spans) frame row)
  same_row row =
      ap
      (λ s. row_html (record {
        place = row.index;
        content = span_rest s (line_for (values spans) row) frame;
      }))
      (sym (slice_get-map arc_value spans row.index))

  -- The rows of the lines of rows are those of the page.
  pub same_rows : (rows : List Row)
      → lines_html spans frame (map (line_for (values spans)) rows)
      ≡ each row_html (map (page_row (values spans) frame) rows)
  same_rows [] = refl
  same_rows (row ∷ rows) =
      ap (λ h. h ▹ lines_html spans frame (map (line_for (values spans)) rows)) (same_row row)
      ∙ ap (λ h. row_html (page_row (values spans) frame row) ▹ h) (same_rows rows)
