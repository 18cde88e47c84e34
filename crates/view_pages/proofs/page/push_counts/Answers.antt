use Rattle.view_pages.proofs.Parts.{after}
use Rattle.view_pages.specs.Pages.{counts_html}
use Rattle.view_pages.proofs.page.push_counts.Goals as goal

pub returns : goal.returns
unfolding counts_html
returns g c =
    after _ _ _ _ _ _ c.in_ok-push_markup.ensures
    (after _ _ _ _ _ _ c.in_ok-push_number.ensures
    (after _ _ _ _ _ _ c.in_ok-push_markup-2.ensures
    (after _ _ _ _ _ _ c.in_ok-push_duration.ensures
    (after _ _ _ _ _ _ c.in_ok-push_markup-3.ensures
    (after _ _ _ _ _ _ c.in_ok-push_digits.ensures c.push_markup-4.ensures)))))
