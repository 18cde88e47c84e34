use Rattle.view_pages.proofs.Parts.{after, same}
use Rattle.view_pages.specs.Html.{Text}
use Rattle.view_pages.specs.Lists.{texts_html}
use Rattle.view_pages.proofs.list.push_texts.Goals as goal

pub returns : goal.returns
unfolding texts_html
returns g c =
    after _ _ _ _ _ _ c.in_ok-push_markup.ensures
    (after _ _ _ _ _ _ (same _ _ _ _ Text c.deref.ensures c.in_ok-push_text.ensures)
    (after _ _ _ _ _ _ c.in_ok-push_markup-2.ensures
    (after _ _ _ _ _ _ c.in_ok-push_markup-3.ensures
    (after _ _ _ _ _ _ (same _ _ _ _ Text c.deref-2.ensures c.in_ok-push_text-2.ensures)
    (after _ _ _ _ _ _ c.in_ok-push_markup-4.ensures
    (after _ _ _ _ _ _
    (same _ _ _ _ Text c.deref-3.ensures c.in_ok-push_text-3.ensures)
    c.push_markup-5.ensures))))))
