use Rattle.std.proofs.Common.{◌∙◌, length, string_bytes}
use Rattle.view_pages.specs.Pieces.{line_html}
use Rattle.view_pages.proofs.Each.{each_step}
use Rattle.view_pages.proofs.Planned.{longer, row_some}
use Rattle.view_pages.proofs.pieces.push_lines.Goals as goal

pub loop-at-init : goal.loop-at-init
loop-at-init g c = record {
  left =
      each_step (line_html c.args.spans.now c.args.frame) c.args.lines.now c.args.from _
      (string_bytes c.args.out.now)
      (string_bytes c.push_line.new.out) c.requires c.in_ok-push_line.ensures;
  more =
      row_some _ (string_bytes c.args.out.now)
      (string_bytes c.push_line.new.out) c.in_ok-push_line.ensures;
}

pub loop-at-preserved : goal.loop-at-preserved
loop-at-preserved g c = record {
  left =
      each_step (line_html c.args.spans.now c.args.frame) c.args.lines.now c.loop-at.at _
      (string_bytes c.loop-at.out)
      (string_bytes c.push_line-in-loop-at.new.out) c.loop-at-test.true c.in_ok-push_line-2.ensures
      ∙ c.loop-at.invariant.left;
  more =
      longer (length (string_bytes c.args.out.now)) (length (string_bytes c.loop-at.out))
      (length (string_bytes c.push_line-in-loop-at.new.out)) c.loop-at.invariant.more
      (row_some _ (string_bytes c.loop-at.out)
      (string_bytes c.push_line-in-loop-at.new.out) c.in_ok-push_line-2.ensures);
}
