use Rattle.std.proofs.Common.{◌≡◌, ◌<◌, ◌++◌, ◌-◌, length, string_bytes, drop}
use Rattle.view_pages.specs.Html.{html_bytes}
use Rattle.view_pages.specs.Pieces.{lines_html}
use Rattle.view_pages.proofs.pieces.push_lines.Given as goal

-- what is written, and then what is left, are all; and a row is written
abbrev pub invariant-loop-at : goal.invariant-loop-at
invariant-loop-at g l = record {
  left : string_bytes l.out ++ html_bytes (lines_html l.spans l.frame (drop l.at l.lines))
      ≡ string_bytes l.fn.out ++ html_bytes (lines_html l.spans l.frame (drop l.from l.lines));
  more : length (string_bytes l.fn.out) < length (string_bytes l.out);
}

abbrev pub decreases-loop-at : goal.decreases-loop-at
decreases-loop-at g l = length l.lines - l.at
