-- The lines of a tree.
use Rattle.std.specs.Prelude.{ℕ, ◌-◌, ◌*◌, ◌^◌, min, nat_lt, if◌then◌else◌, Option, Some, None}
use Rattle.std.specs.Prelude.{List, [], ◌∷◌, ◌++◌, map, fold, replicate, codes, slice_get}
use Rattle.std.specs.List.{flat_map}
use Rattle.std.specs.Str.{chars}
use Rattle.trace_tree.specs.Bars.{bar_of, earlier_start, end_of, later_end}
use Rattle.trace_tree.specs.Words.{duration_text, error_text, name_text, place_text, shown_char}
use Rattle.trace_tree.specs.declared.draw.Frame.{Frame}
use Rattle.trace_tree.specs.declared.bars.Bar.{Bar}
use Rattle.trace_tree.specs.declared.span.TreeSpan.{TreeSpan}
use Rattle.trace_tree.specs.declared.span.Row.{Row}

-- how many columns a row is indented: two for each row above it, for at most 12 of them (profile)
abbrev pub indent : ℕ → ℕ
indent depth = 2 * min depth 12

-- the name of a span, indented by its depth, in 40 columns (profile)
unfoldable pub label_text : List ℕ → ℕ → List ℕ
label_text name depth =
    replicate (indent depth) 32 ++ name_text (40 - indent depth) (map shown_char (chars name))

-- a bar in its columns: spaces (32), `#` (35), spaces
unfoldable pub bar_text : ℕ → Bar → List ℕ
bar_text width bar =
    replicate bar.first 32 ++ replicate (bar.end - bar.first) 35 ++ replicate (width - bar.end) 32

-- the bar of a span in the time of its trace
abbrev pub span_bar : TreeSpan → Frame → ℕ → Bar
span_bar span frame width = bar_of width (frame.until - frame.from)
    (span.start_time_unix_nano - frame.from) (end_of span - frame.from)

unfoldable pub time_text : TreeSpan → Frame → ℕ → List ℕ
time_text span frame width = codes " |"
    ++ (if nat_lt 0 width then bar_text width (span_bar span frame width) else []) ++ codes "| "

-- the line of a span, with the end of the line (10)
unfoldable pub line_text : TreeSpan → Row → Frame → ℕ → List ℕ
line_text span row frame width =
    label_text span.name.now row.depth ++ time_text span frame width
    ++ duration_text (end_of span - span.start_time_unix_nano)
    ++ (error_text span.is_error ++ place_text row.place) ++ 10 ∷ []

-- the line of a row, if its span is in the list
abbrev pub text_of : Option TreeSpan → Row → Frame → ℕ → List ℕ
text_of None row frame width = []
text_of (Some span) row frame width = line_text span row frame width

abbrev pub row_text : List TreeSpan → Frame → ℕ → Row → List ℕ
row_text spans frame width row = text_of (slice_get spans row.index) row frame width

-- the time from the earliest start to the latest end
abbrev pub frame_of : List TreeSpan → Frame
frame_of spans = record {
  from = fold earlier_start (2 ^ 64 - 1) spans;
  until = fold later_end 0 spans;
}

-- a line for each row
abbrev pub tree_text : List TreeSpan → ℕ → List Row → List ℕ
tree_text spans width rows = flat_map (row_text spans (frame_of spans) width) rows
