use Rattle.view_pages.proofs.Parts.{after}
use Rattle.view_pages.specs.Rows.{span_html}
use Rattle.view_pages.proofs.row.push_span.Goals as goal

pub returns : goal.returns
unfolding span_html
returns g c =
    after _ _ _ _ _ _ c.in_ok-push_tag.ensures
    (after _ _ _ _ _ _ c.in_ok-push_label.ensures
    (after _ _ _ _ _ _ c.in_ok-push_time.ensures
    (after _ _ _ _ _ _ c.in_ok-push_panel.ensures c.push_markup.ensures)))
