-- The page of a trace.
use Rattle.std.specs.Prelude.{◌≡◌, ℕ, ◌-◌, ◌/◌, List, length, codes}
use Rattle.std.specs.Int.{w128, to_be_bytes}
use Rattle.std.specs.declared.sync.Arc.{Arc}
use Rattle.trace_tree.specs.Steps.{AreArranged}
use Rattle.trace_tree.specs.declared.draw.Frame.{Frame}
use Rattle.trace_tree.specs.declared.span.Row.{Row}
use Rattle.trace_store.specs.declared.span.ViewSpan.{ViewSpan}
use Rattle.trace_lines.specs.Plans.{tree_of, values}
use Rattle.trace_lines.specs.Times.{frame_of}
use Rattle.view_pages.specs.Html.{Html, html_bytes, Markup, Number, Digits, ◌▹◌, each}
use Rattle.view_pages.specs.Rows.{page_rows, row_html}
use Rattle.view_pages.specs.Times.{duration}

-- what each page begins with, up to its title
unfoldable pub start_html : Html
start_html = Markup (codes "<!doctype html><html lang='en'><meta charset='utf-8'>")
    ▹ Markup (codes "<meta name='viewport' content='width=device-width,initial-scale=1'>")
    ▹ Markup (codes "<link rel='stylesheet' href='/style.css'>")
    ▹ Markup (codes "<script src='/view.js' defer></script><title>")

-- the title of the page of a trace
unfoldable pub title_html : List ℕ → Html
title_html trace =
    start_html ▹ Markup (codes "Trace ") ▹ Digits trace
    ▹ Markup (codes "</title><header><a href='/'>All traces</a><h1>Trace <code>")
    ▹ Digits trace ▹ Markup (codes "</code></h1>")

-- how many spans a trace has, how long it took, and where it is shown as text
unfoldable pub counts_html : List ℕ → ℕ → ℕ → Html
counts_html trace count took =
    Markup (codes "<p>") ▹ Number count ▹ Markup (codes " spans in ") ▹ duration took
    ▹ Markup (codes ". <a href='/trace/") ▹ Digits trace
    ▹ Markup (codes ".txt'>As text</a></p></header><main>")

-- the axis of the bars: the time from the earliest start, at each quarter of the whole
unfoldable pub axis_html : ℕ → Html
axis_html whole =
    Markup (codes "<div class='axis'><span>0</span><span>") ▹ duration (whole / 4)
    ▹ Markup (codes "</span><span>") ▹ duration (whole / 2)
    ▹ Markup (codes "</span><span>") ▹ duration (whole - whole / 4)
    ▹ Markup (codes "</span><span>") ▹ duration whole ▹ Markup (codes "</span></div>")

-- what is said above the rows of a trace, of so many spans in this time
unfoldable pub head_html : ℕ → ℕ → Frame → Html
head_html trace count frame =
    title_html (to_be_bytes w128 trace)
    ▹ counts_html (to_be_bytes w128 trace) count (frame.until - frame.from)
    ▹ axis_html (frame.until - frame.from) ▹ Markup (codes "<ol class='rows'>")

-- what comes after them
abbrev pub end_html : Html
end_html = Markup (codes "</ol></main></html>")

-- the page of a trace: what is said of it, and its rows
unfoldable pub trace_html : {A : Type 0} → ℕ → List (ViewSpan A) → List Row → Html
trace_html trace spans rows =
    head_html trace (length spans) (frame_of spans) ▹ each row_html (page_rows spans rows)
    ▹ end_html

-- These bytes are the page of the trace with these spans: each span is in one row, under its parent
-- where that is in the list and no cycle forbids it, and those of one parent are by their start.
abbrev pub DrawsPage : {A : Type 0} → ℕ → List (Arc (ViewSpan A) A) → List ℕ → Type 0
DrawsPage trace spans page = (rows : List Row) × AreArranged (tree_of (values spans)) rows
    × (page ≡ html_bytes (trace_html trace (values spans) rows))
