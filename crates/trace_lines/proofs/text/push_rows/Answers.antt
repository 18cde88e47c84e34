use Rattle.std.proofs.Common.{◌∙◌, string_bytes}
use Rattle.trace_lines.specs.Texts.{row_text}
use Rattle.trace_lines.proofs.Texts.{line_more}
use Rattle.trace_lines.proofs.text.push_rows.Goals as goal

pub loop-at-preserved : goal.loop-at-preserved
loop-at-preserved g c =
    line_more (row_text c.args.spans.now c.args.frame) c.args.lines.now c.loop-at.at _
    (string_bytes c.loop-at.out)
    (string_bytes c.push_row.new.out) c.loop-at-test.true c.in_ok-push_row.ensures
    ∙ c.loop-at.invariant
