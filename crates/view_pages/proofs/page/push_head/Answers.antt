use Rattle.std.specs.Int.{w128, to_be_bytes}
use Rattle.view_pages.proofs.Parts.{after, same}
use Rattle.view_pages.specs.Pages.{axis_html, title_html, counts_html, head_html}
use Rattle.view_pages.proofs.page.push_head.Goals as goal

pub returns : goal.returns
unfolding head_html
returns g c =
    after _ _ _ _ _ _
    (same _ _ _ _ title_html c.to_be_bytes-digits.ensures c.in_ok-push_title.ensures)
    (after _ _ _ _ _ _
    (same _ _ _ _
    (λ w. counts_html (to_be_bytes w128 c.args.trace) c.args.count w) c.saturating_sub-whole.ensures
    (same _ _ _ _
    (λ t. counts_html t c.args.count c.saturating_sub-whole.result) c.to_be_bytes-digits.ensures
    c.in_ok-push_counts.ensures))
    (after _ _ _ _ _ _
    (same _ _ _ _ axis_html c.saturating_sub-whole.ensures c.in_ok-push_axis.ensures)
    c.push_markup.ensures))
