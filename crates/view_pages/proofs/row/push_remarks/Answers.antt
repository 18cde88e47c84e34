use Rattle.std.proofs.Common.{codes}
use Rattle.view_pages.proofs.Parts.{after, same}
use Rattle.view_pages.specs.Rows.{remark_html, remarks_html}
use Rattle.view_pages.proofs.row.push_remarks.Goals as goal

pub returns : goal.returns
unfolding remarks_html
returns g c =
    after _ _ _ _ _ _
    (same _ _ _ _
    (λ b. remark_html b (codes "error")) c.is_error.ensures c.in_ok-push_remark.ensures)
    (after _ _ _ _ _ _
    (same _ _ _ _
    (λ b. remark_html b (codes "parent not received")) c.is_orphan.ensures
    c.in_ok-push_remark-2.ensures)
    (after _ _ _ _ _ _
    (same _ _ _ _
    (λ b. remark_html b (codes "cycle")) c.is_cycle.ensures c.in_ok-push_remark-3.ensures)
    (after _ _ _ _ _ _
    (same _ _ _ _
    (λ b. remark_html b (codes "ends before it starts")) c.ends_early.ensures
    c.in_ok-push_remark-4.ensures)
    c.push_remark-5.ensures)))
