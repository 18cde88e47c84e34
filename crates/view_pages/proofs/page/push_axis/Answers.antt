use Rattle.view_pages.proofs.Parts.{after}
use Rattle.view_pages.specs.Pages.{axis_html}
use Rattle.view_pages.proofs.page.push_axis.Goals as goal

pub returns : goal.returns
unfolding axis_html
returns g c =
    after _ _ _ _ _ _ c.in_ok-push_markup.ensures
    (after _ _ _ _ _ _ c.in_ok-push_duration.ensures
    (after _ _ _ _ _ _ c.in_ok-push_markup-2.ensures
    (after _ _ _ _ _ _ c.in_ok-push_duration-2.ensures
    (after _ _ _ _ _ _ c.in_ok-push_markup-3.ensures
    (after _ _ _ _ _ _ c.in_ok-push_duration-3.ensures
    (after _ _ _ _ _ _ c.in_ok-push_markup-4.ensures
    (after _ _ _ _ _ _ c.in_ok-push_duration-4.ensures c.push_markup-5.ensures)))))))
