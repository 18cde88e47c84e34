-- The lines of a text, and those of the tree of its spans.
use Rattle.std.proofs.Common.{◌≡◌, refl, sym, ap, subst, ◌∙◌, ℕ, ◌+◌, ◌<◌, ◌≤◌, true, Option}
use Rattle.std.proofs.Common.{Some, None, List, [], ◌∷◌, ◌++◌, length, map, drop, get_or}
use Rattle.std.proofs.Common.{append_assoc, Result, OnOk}
use Rattle.std.specs.Prelude.{fold, option_map, slice_get}
use Rattle.std.specs.Arc.{arc_value}
use Rattle.std.specs.List.{flat_map}
use Rattle.std.specs.declared.sync.Arc.{Arc}
use Rattle.std.proofs.Math.ListN.{drop_of_length-le}
use Rattle.std.proofs.lemmas.List.{drop_more}
use Rattle.std.proofs.lemmas.Option.{slice_get-map}
use Rattle.trace_tree.specs.Bars.{earlier_start, later_end}
use Rattle.trace_tree.specs.Lines.{frame_of as tree_frame_of, line_text, row_text as tree_row_text}
use Rattle.trace_tree.specs.Lines.{text_of, time_text}
use Rattle.trace_tree.specs.declared.draw.Frame.{Frame}
use Rattle.trace_tree.specs.declared.span.Row.{Row}
use Rattle.trace_tree.specs.declared.span.TreeSpan.{TreeSpan}
use Rattle.trace_store.specs.declared.span.ViewSpan.{ViewSpan}
use Rattle.trace_lines.specs.Comes.{is_planned}
use Rattle.trace_lines.specs.Lines.{line_for}
use Rattle.trace_lines.specs.Plans.{IsPlan, TreeView, lent_bytes, tree_of, tree_span, tree_view}
use Rattle.trace_lines.specs.Plans.{values}
use Rattle.trace_lines.specs.Times.{frame_of, frame_with, no_time}
use Rattle.trace_lines.specs.Texts.{DrawsText, StillWrites, lines_text, row_text, span_text}
use Rattle.trace_lines.specs.declared.line.Line.{Line}
use Rattle.trace_lines.specs.declared.text.TraceText.{TraceText}
use Rattle.trace_lines.proofs.Coming.{has_planned, planned_has}

-- a span with this in it
abbrev of_view : TreeView → TreeSpan
of_view v = record {
  span_id = lent_bytes v.span_id;
  parent_span_id = lent_bytes v.parent_span_id;
  name = lent_bytes v.name;
  start_time_unix_nano = v.start_time_unix_nano;
  end_time_unix_nano = v.end_time_unix_nano;
  is_error = v.is_error;
}

-- the line of a span is by what the tree has of it
line_by_view : (s : TreeSpan) (row : Row) (frame : Frame) (width : ℕ)
    → line_text s row frame width ≡ line_text (of_view (tree_view s)) row frame width
unfolding line_text time_text
line_by_view s row frame width = refl

-- Spans that are the same to the tree have the same line.
pub same_line : (s t : TreeSpan) (row : Row) (frame : Frame) (width : ℕ)
    → tree_view s ≡ tree_view t → line_text s row frame width ≡ line_text t row frame width
same_line s t row frame width same =
    line_by_view s row frame width ∙ ap (λ v. line_text (of_view v) row frame width) same
    ∙ sym (line_by_view t row frame width)

-- the line of a span is that of the tree's
span_by : {A : Type 0} (o : Option (ViewSpan A)) (row : Row) (frame : Frame)
    → span_text o row frame ≡ text_of (option_map tree_span o) row frame 40
span_by None row frame = refl
span_by (Some s) row frame = refl

module _ {A : Type 0} (spans : List (Arc (ViewSpan A) A)) where
  row : (frame : Frame) (line : Line)
      → row_text spans frame line ≡ tree_row_text (tree_of (values spans)) frame 40 line.row
  row frame line =
      span_by (option_map arc_value (slice_get spans line.row.index)) line.row frame
      ∙ ap (λ o. text_of o line.row frame 40)
      (ap (option_map tree_span) (sym (slice_get-map arc_value spans line.row.index))
      ∙ sym (slice_get-map tree_span (values spans) line.row.index))

  rows : (frame : Frame) (rs : List Row)
      → lines_text spans frame (map (line_for (values spans)) rs)
      ≡ flat_map (tree_row_text (tree_of (values spans)) frame 40) rs
  rows frame [] = refl
  rows frame (r ∷ rs) =
      ap (λ l. l ++ lines_text spans frame (map (line_for (values spans)) rs))
      (row frame (line_for (values spans) r))
      ∙ ap (λ l. tree_row_text (tree_of (values spans)) frame 40 r ++ l) (rows frame rs)

-- the time that spans take, one after another, is that of their tree
frame_from : {A : Type 0} (f : Frame) (xs : List (ViewSpan A))
    → fold (λ frame s. frame_with frame s.span) f xs
    ≡ record {
      from = fold earlier_start f.from (tree_of xs);
      until = fold later_end f.until (tree_of xs);
    }
frame_from f [] = refl
frame_from f (x ∷ xs) = frame_from (frame_with f x.span) xs

same_frame : {A : Type 0} (spans : List (ViewSpan A))
    → frame_of spans ≡ tree_frame_of (tree_of spans)
same_frame spans = frame_from no_time spans

-- a plan is that of the text
pub draws_text : {A : Type 0} (spans : List (Arc (ViewSpan A) A)) (lines : List Line)
    (frame : Frame)
    → IsPlan spans lines frame → DrawsText spans (lines_text spans frame lines)
draws_text spans lines frame plan = (
  plan.rows,
  plan.are_rows,
  ap (lines_text spans frame) plan.lines_are
      ∙ rows spans frame plan.rows
      ∙ ap (λ f. flat_map (tree_row_text (tree_of (values spans)) f 40) plan.rows)
      (plan.frame_is ∙ same_frame (values spans)),
)

-- one more line is written
pub line_more : {X : Type 0} (part : X → List ℕ) (xs : List X) (at : ℕ) (x : X) (old new : List ℕ)
    → at < length xs → new ≡ old ++ part (get_or xs at x)
    → new ++ flat_map part (drop (at + 1) xs) ≡ old ++ flat_map part (drop at xs)
line_more part xs at x old new within more =
    let rest = flat_map part (drop (at + 1) xs) in
    ap (λ l. l ++ rest) more ∙ append_assoc old (part (get_or xs at x)) rest
    ∙ ap (λ l. old ++ flat_map part l) (sym (drop_more xs at x within))

-- nothing is left after the last line
pub none_left : {X : Type 0} (part : X → List ℕ) (xs : List X) (at : ℕ) → length xs ≤ at
    → flat_map part (drop at xs) ≡ []
none_left part xs at past = ap (flat_map part) (drop_of_length-le xs past)

-- what is written of a thing that is another one
pub moved : {T E X : Type 0} (r : Result T E) (part : X → List ℕ) (x y : X) (old new : List ℕ)
    → x ≡ y
    → OnOk r (new ≡ old ++ part x) → OnOk r (new ≡ old ++ part y)
moved r part x y old new is written = subst (λ z. OnOk r (new ≡ old ++ part z)) is written

-- ---- a text that is written in pieces

module _ {A : Type 0} (old : TraceText A) (next : ℕ) (planned : is_planned old.rows ≡ true) where
  -- A text that goes on with a line from here.
  abbrev pub from_line : TraceText A
  from_line = record { alloc = old.alloc; rows = old.rows; at = next }

  -- Once its rows are planned, the lines that are written are what it may write next.
  pub text_piece : (text : List ℕ)
      → text ++ lines_text old.rows.spans.items old.rows.frame (drop next old.rows.lines.items)
      ≡ lines_text old.rows.spans.items old.rows.frame (drop old.at old.rows.lines.items)
      → (more : List ℕ) → StillWrites from_line more → StillWrites old (text ++ more)
  text_piece text all more h =
      let has = planned_has old.rows h.lines h.frame planned h.may_have in
      let spans = old.rows.spans.items in
      record {
        lines = old.rows.lines.items;
        frame = old.rows.frame;
        may_have = has_planned old.rows planned;
        bytes_are =
            ap (λ l. text ++ l)
            (h.bytes_are
            ∙ ap (λ l. lines_text spans h.frame (drop next l)) has.0
            ∙ ap (λ f. lines_text spans f (drop next old.rows.lines.items)) has.1)
            ∙ all;
      }

  -- After its last line it may write nothing more.
  pub text_end : length old.rows.lines.items ≤ next → StillWrites from_line []
  text_end past = record {
    lines = old.rows.lines.items;
    frame = old.rows.frame;
    may_have = has_planned old.rows planned;
    bytes_are =
        sym (none_left (row_text old.rows.spans.items old.rows.frame) old.rows.lines.items next
        past);
  }
