use Rattle.std.proofs.Common.{string_bytes}
use Rattle.view_pages.specs.Lists.{summary_html}
use Rattle.view_pages.proofs.Each.{each_more_at}
use Rattle.view_pages.proofs.list.push_summaries.Goals as goal

pub loop-summary-preserved : goal.loop-summary-preserved
loop-summary-preserved g c =
    each_more_at (summary_html c.args.query.now) c.args.summaries.now c.loop-summary.summary-index _
    (string_bytes c.args.out.now) (string_bytes c.loop-summary.out)
    (string_bytes c.push_summary.new.out)
    c.loop-summary-test.true c.loop-summary.invariant c.in_ok-push_summary.ensures
