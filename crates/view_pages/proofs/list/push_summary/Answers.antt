use Rattle.view_pages.proofs.Parts.{after}
use Rattle.view_pages.specs.Lists.{summary_html}
use Rattle.view_pages.proofs.list.push_summary.Goals as goal

pub returns : goal.returns
unfolding summary_html
returns g c =
    after _ _ _ _ _ _ c.in_ok-push_name.ensures
    (after _ _ _ _ _ _ c.in_ok-push_sizes.ensures c.push_when.ensures)
