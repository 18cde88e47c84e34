use Rattle.view_pages.proofs.Parts.{after}
use Rattle.view_pages.specs.Panels.{place_html}
use Rattle.view_pages.proofs.panel.push_place.Goals as goal

pub returns : goal.returns
unfolding place_html
returns g c =
    after _ _ _ _ _ _ c.in_ok-push_markup.ensures
    (after _ _ _ _ _ _ c.in_ok-push_digits.ensures
    (after _ _ _ _ _ _ c.in_ok-push_markup-2.ensures
    (after _ _ _ _ _ _ c.in_ok-push_digits-2.ensures
    (after _ _ _ _ _ _ c.in_ok-push_markup-3.ensures
    (after _ _ _ _ _ _ c.in_ok-push_both.ensures c.push_markup-4.ensures)))))
