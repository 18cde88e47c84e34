use Rattle.view_pages.proofs.Parts.{after, same}
use Rattle.view_pages.specs.Html.{Text}
use Rattle.view_pages.specs.Lists.{hidden_html}
use Rattle.view_pages.proofs.list.push_hidden.Goals as goal

pub returns : goal.returns
unfolding hidden_html
returns g c =
    after _ _ _ _ _ _ c.in_ok-push_markup.ensures
    (after _ _ _ _ _ _ (same _ _ _ _ Text c.deref.ensures c.in_ok-push_text.ensures)
    (after _ _ _ _ _ _ c.in_ok-push_markup-2.ensures
    (after _ _ _ _ _ _ (same _ _ _ _ Text c.deref-2.ensures c.in_ok-push_text-2.ensures)
    (after _ _ _ _ _ _ c.in_ok-push_markup-3.ensures
    (after _ _ _ _ _ _ (same _ _ _ _ Text c.deref-3.ensures c.in_ok-push_text-3.ensures)
    (after _ _ _ _ _ _ c.in_ok-push_markup-4.ensures
    (after _ _ _ _ _ _ c.in_ok-push_number.ensures c.push_if.ensures)))))))
