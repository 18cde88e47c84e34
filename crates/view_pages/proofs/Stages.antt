-- What a page still writes, stage after stage.
use Rattle.std.proofs.Common.{◌≡◌, refl, sym, ap, ◌∙◌, ℕ, ◌≤◌, Bool, true, false, not, List, []}
use Rattle.std.proofs.Common.{◌++◌, length, drop, append-nil}
use Rattle.std.specs.Prelude.{Vec}
use Rattle.std.specs.declared.sync.Arc.{Arc}
use Rattle.std.proofs.Math.ListN.{drop_of_length-le}
use Rattle.trace_tree.specs.declared.draw.Frame.{Frame}
use Rattle.trace_store.specs.declared.span.ViewSpan.{ViewSpan}
use Rattle.view_pages.specs.Html.{Html, Nothing, each, html_bytes, ◌▹◌}
use Rattle.trace_lines.specs.Comes.{MayHave, is_planned}
use Rattle.trace_lines.specs.declared.line.Line.{Line}
use Rattle.trace_lines.specs.declared.rows.TraceLines.{TraceLines}
use Rattle.trace_lines.proofs.Coming.{has_planned, planned_has}
use Rattle.view_pages.specs.Pieces.{StillWrites, is_end, left_html, page_html}
use Rattle.view_pages.specs.declared.pieces.Stage.{Stage}
use Rattle.view_pages.specs.declared.pieces.Stage.TheVariants.{Head, Rows, End}
use Rattle.view_pages.specs.declared.pieces.TracePage.{TracePage}

-- the end is written, and no row was left
pub after_end : {X : Type 0} (part : X → Html) (xs : List X) (at : ℕ) (end : Html) (text : List ℕ)
    → length xs ≤ at → text ≡ html_bytes end
    → text ++ html_bytes Nothing ≡ html_bytes (each part (drop at xs) ▹ end)
unfolding html_bytes
after_end part xs at end text past is =
    append-nil text ∙ is
    ∙ ap (λ l. html_bytes (each part l) ++ html_bytes end) (sym (drop_of_length-le xs past))

-- What is not false is true.
pub not_false : (b : Bool) → not b ≡ false → b ≡ true
not_false true h = refl
not_false false h = cc

module _ {A : Type 0} (old : TracePage A) (stage : Stage) where
  -- A page whose stage is this one.
  abbrev pub at_stage : TracePage A
  at_stage =
      record { alloc = old.alloc; trace = old.trace; rows = old.rows; stage = stage }

  -- What a page wrote, and what it may write then, it might write before.
  pub page_piece : is_planned old.rows ≡ true
      → (text : List ℕ)
      → text ++ html_bytes (page_html old stage) ≡ html_bytes (page_html old old.stage)
      → (more : List ℕ) → StillWrites at_stage more → StillWrites old (text ++ more)
  page_piece planned text all more h =
      let has = planned_has old.rows h.lines h.frame planned h.may_have in
      let left = left_html old.trace old.rows.spans.items in
      record {
        lines = old.rows.lines.items;
        frame = old.rows.frame;
        may_have = has_planned old.rows planned;
        bytes_are =
            ap (λ l. text ++ l)
            (h.bytes_are
            ∙ ap (λ l. html_bytes (left l h.frame stage)) has.0
            ∙ ap (λ f. html_bytes (left old.rows.lines.items f stage)) has.1)
            ∙ all;
      }

  -- At the end a page may write nothing more.
  pub page_end : is_planned old.rows ≡ true → is_end stage ≡ true → StillWrites at_stage []
  unfolding html_bytes
  page_end planned end = record {
    lines = old.rows.lines.items;
    frame = old.rows.frame;
    may_have = has_planned old.rows planned;
    bytes_are = end_by stage end;
  }
    where
      end_by : (s : Stage) → is_end s ≡ true → [] ≡ html_bytes (page_html old s)
      end_by Head h = cc
      end_by (Rows at) h = cc
      end_by End h = refl

-- What a page may write once some more is planned, it might write before.
pub page_planned : {A : Type 0} (old : TracePage A) (rows : TraceLines A)
    → rows.spans ≡ old.rows.spans
    → ((lines : List Line) (frame : Frame) → MayHave rows lines frame
    → MayHave old.rows lines frame)
    → (more : List ℕ)
    → StillWrites (record {
      alloc = old.alloc;
      trace = old.trace;
      rows = rows;
      stage = old.stage;
    }) more
    → StillWrites old more
page_planned old rows same comes more h = record {
  lines = h.lines;
  frame = h.frame;
  may_have = comes h.lines h.frame h.may_have;
  bytes_are =
      h.bytes_are
      ∙ ap (λ (v : Vec (Arc (ViewSpan _) _) _).
      html_bytes (left_html old.trace v.items h.lines h.frame old.stage)) same;
}
