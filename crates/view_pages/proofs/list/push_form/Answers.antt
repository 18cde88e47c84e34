use Rattle.view_pages.proofs.Parts.{after}
use Rattle.view_pages.specs.Lists.{form_html}
use Rattle.view_pages.proofs.list.push_form.Goals as goal

pub returns : goal.returns
unfolding form_html
returns g c =
    after _ _ _ _ _ _ c.in_ok-push_texts.ensures
    (after _ _ _ _ _ _ c.in_ok-push_number.ensures
    (after _ _ _ _ _ _ c.in_ok-push_markup.ensures
    (after _ _ _ _ _ _ c.in_ok-push_if.ensures c.push_markup-2.ensures)))
