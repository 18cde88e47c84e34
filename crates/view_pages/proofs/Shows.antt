-- The rows that are read of the page of a trace.
use Rattle.std.proofs.Common.{◌≡◌, refl, sym, ap, subst, ◌∙◌, ℕ, zero, suc, ◌+◌, ◌<◌, ◌≤◌, ◌^◌}
use Rattle.std.proofs.Common.{List, [], ◌∷◌, ◌++◌, length, map, append_assoc, append-nil, codes}
use Rattle.std.proofs.Common.{arith, All}
use Rattle.std.specs.Prelude.{decimal, slice_get}
use Rattle.std.specs.List.{AllByRecursion, range_with_len}
use Rattle.std.proofs.lemmas.List.Elements.{All-cons, All-head, All-nil, All-tail}
use Rattle.std.proofs.lemmas.List.Sorted.{All-permutation}
use Rattle.trace_tree.specs.Order.{ArePlaces}
use Rattle.trace_tree.specs.declared.span.Row.{Row}
use Rattle.trace_store.specs.declared.span.ViewSpan.{ViewSpan}
use Rattle.view_pages.specs.Html.{Html, html_bytes, each}
use Rattle.trace_lines.specs.Lines.{line_for}
use Rattle.view_pages.specs.Pages.{head_html, trace_html}
use Rattle.view_pages.specs.Reading.{places_in, row_start}
use Rattle.view_pages.specs.Rows.{page_row, page_rows, row_html, span_rest}
use Rattle.trace_lines.specs.Times.{frame_of}
use Rattle.trace_tree.specs.declared.draw.Frame.{Frame}
use Rattle.view_pages.proofs.Reading.{reads_row, skip_parts}
use Rattle.view_pages.proofs.Rowless.{rowless_head, rowless_rest}

-- the place of a row can be written
abbrev pub HasPlace : Row → Type 0
HasPlace row = row.index < 2 ^ 64

abbrev row_rest : {A : Type 0} → List (ViewSpan A) → Frame → Row → Html
row_rest spans frame row =
    span_rest (slice_get spans row.index) (line_for spans row) frame

row_bytes : {A : Type 0} (spans : List (ViewSpan A)) (frame : Frame) (row : Row)
    (rest : List ℕ)
    → html_bytes (row_html (page_row spans frame row)) ++ rest
    ≡ row_start ++ (decimal row.index ++ 39 ∷ (html_bytes (row_rest spans frame row) ++ rest))
unfolding html_bytes row_html
row_bytes spans frame row rest =
    let content = html_bytes (row_rest spans frame row) in
    append_assoc row_start (decimal row.index ++ (39 ∷ content)) rest
    ∙ ap (λ l. row_start ++ l) (append_assoc (decimal row.index) (39 ∷ content) rest)

-- each row says its place
reads_rows : {A : Type 0} (spans : List (ViewSpan A)) (frame : Frame) (rows : List Row)
    (rest : List ℕ)
    → AllByRecursion HasPlace rows
    → places_in (html_bytes (each row_html (map (page_row spans frame) rows)) ++ rest)
    ≡ map (λ (r : Row). r.index) rows ++ places_in rest
unfolding html_bytes
reads_rows spans frame [] rest h = refl
reads_rows spans frame (row ∷ rows) rest h =
    let others = html_bytes (each row_html (map (page_row spans frame) rows)) in
    let content = row_rest spans frame row in
    ap places_in
    (append_assoc (html_bytes (row_html (page_row spans frame row))) others rest
    ∙ row_bytes spans frame row (others ++ rest))
    ∙ reads_row row.index (html_bytes content ++ (others ++ rest)) h.0
    ∙ ap (λ l. row.index ∷ l)
    (skip_parts content (others ++ rest)
    (rowless_rest (slice_get spans row.index) (line_for spans row) frame)
    ∙ reads_rows spans frame rows rest h.1)

-- the page shows the places of its rows, one after the other
pub page_shows : {A : Type 0} (trace : ℕ) (spans : List (ViewSpan A)) (rows : List Row)
    → AllByRecursion HasPlace rows
    → places_in (html_bytes (trace_html trace spans rows)) ≡ map (λ (r : Row). r.index) rows
unfolding html_bytes trace_html places_in
page_shows trace spans rows h =
    let end = codes "</ol></main></html>" in
    let drawn = html_bytes (each row_html (page_rows spans rows)) in
    skip_parts (head_html trace (length spans) (frame_of spans)) (drawn ++ end)
    (rowless_head trace (length spans) (frame_of spans))
    ∙ reads_rows spans (frame_of spans) rows end h
    ∙ append-nil (map (λ (r : Row). r.index) rows)

all_below : (a n : ℕ) → a + n ≤ 2 ^ 64 → All (λ i. i < 2 ^ 64) (range_with_len a n)
all_below a zero h = All-nil (λ i. i < 2 ^ 64)
all_below a (suc n) h =
    All-cons (λ i. i < 2 ^ 64) a (range_with_len (a + 1) n) (omega arith)
    (all_below (a + 1) n (omega arith))

have_places : (rows : List Row) → All (λ i. i < 2 ^ 64) (map (λ (r : Row). r.index) rows)
    → AllByRecursion HasPlace rows
have_places [] h = tt
have_places (row ∷ rows) h =
    let others = map (λ (r : Row). r.index) rows in (
      All-head (λ i. i < 2 ^ 64) row.index others h,
      have_places rows (All-tail (λ i. i < 2 ^ 64) row.index others h),
    )

-- the page of rows that have each place once shows each place once
pub shows_each : {A : Type 0} (trace : ℕ) (spans : List (ViewSpan A)) (rows : List Row)
    → length spans ≤ 2 ^ 64
    → ArePlaces (length spans) (map (λ (r : Row). r.index) rows)
    → ArePlaces (length spans) (places_in (html_bytes (trace_html trace spans rows)))
shows_each trace spans rows small places =
    let below =
    All-permutation (λ i. i < 2 ^ 64) (range_with_len 0 (length spans))
    (map (λ (r : Row). r.index) rows) places (all_below 0 (length spans) (omega arith)) in
    subst (ArePlaces (length spans))
    (sym (page_shows trace spans rows (have_places rows below))) places
