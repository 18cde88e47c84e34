use Rattle.view_pages.proofs.Parts.{after}
use Rattle.view_pages.specs.Lists.{table_html}
use Rattle.view_pages.proofs.list.push_table.Goals as goal

pub returns : goal.returns
unfolding table_html
returns g c =
    after _ _ _ _ _ _ c.in_ok-push_markup.ensures
    (after _ _ _ _ _ _ c.in_ok-push_markup-2.ensures
    (after _ _ _ _ _ _ c.in_ok-push_summaries.ensures c.push_markup-3.ensures))
