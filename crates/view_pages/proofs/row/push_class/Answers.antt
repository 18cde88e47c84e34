use Rattle.std.proofs.Common.{codes}
use Rattle.view_pages.proofs.Parts.{after, same, same_ok}
use Rattle.view_pages.specs.Html.{markup_if}
use Rattle.view_pages.specs.Rows.{class_html, id_html}
use Rattle.view_pages.proofs.row.push_class.Goals as goal

pub returns : goal.returns
unfolding class_html
returns g c =
    after _ _ _ _ _ _ c.in_ok-push_markup.ensures
    (after _ _ _ _ _ _ c.in_ok-push_number.ensures
    (after _ _ _ _ _ _
    (same _ _ _ _ (λ b. markup_if b (codes " bad")) c.is_error.ensures c.in_ok-push_if.ensures)
    (same_ok _ _ _ _ _
    (id_html c.args.line.now.mark.is_first) c.deref.ensures.value c.push_id.ensures)))
