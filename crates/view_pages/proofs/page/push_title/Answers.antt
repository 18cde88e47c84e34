use Rattle.view_pages.proofs.Parts.{after}
use Rattle.view_pages.specs.Pages.{title_html}
use Rattle.view_pages.proofs.page.push_title.Goals as goal

pub returns : goal.returns
unfolding title_html
returns g c =
    after _ _ _ _ _ _ c.in_ok-push_start.ensures
    (after _ _ _ _ _ _ c.in_ok-push_markup.ensures
    (after _ _ _ _ _ _ c.in_ok-push_digits.ensures
    (after _ _ _ _ _ _ c.in_ok-push_markup-2.ensures
    (after _ _ _ _ _ _ c.in_ok-push_digits-2.ensures c.push_markup-3.ensures))))
