use Rattle.std.proofs.Common.{◌≡◌, ◌++◌, string_bytes, drop}
use Rattle.view_pages.specs.Html.{each, html_bytes}
use Rattle.view_pages.specs.Lists.{summary_html}
use Rattle.view_pages.proofs.list.push_summaries.Given as goal

-- what is written, and then what is left, are all
abbrev pub invariant-loop-summary : goal.invariant-loop-summary
invariant-loop-summary g l =
    string_bytes l.out
    ++ html_bytes (each (summary_html l.query) (drop l.summary-index l.summaries))
    ≡ string_bytes l.initial.out ++ html_bytes (each (summary_html l.query) l.summaries)
