use Rattle.view_pages.proofs.Parts.{after, same}
use Rattle.view_pages.specs.Html.{Text}
use Rattle.view_pages.specs.Rows.{label_html, name_html}
use Rattle.view_pages.proofs.row.push_label.Goals as goal

pub returns : goal.returns
unfolding label_html
returns g c =
    after _ _ _ _ _ _ c.in_ok-push_markup.ensures
    (after _ _ _ _ _ _ (same _ _ _ _ name_html c.deref.ensures c.in_ok-push_name.ensures)
    (after _ _ _ _ _ _ c.in_ok-push_markup-2.ensures
    (after _ _ _ _ _ _ (same _ _ _ _ Text c.service_of.ensures c.in_ok-push_text.ensures)
    (after _ _ _ _ _ _ c.in_ok-push_markup-3.ensures c.push_remarks.ensures))))
