use Rattle.view_pages.proofs.Parts.{after}
use Rattle.view_pages.specs.Pages.{start_html}
use Rattle.view_pages.proofs.page.push_start.Goals as goal

pub returns : goal.returns
unfolding start_html
returns g c =
    after _ _ _ _ _ _ c.in_ok-push_markup.ensures
    (after _ _ _ _ _ _ c.in_ok-push_markup-2.ensures
    (after _ _ _ _ _ _ c.in_ok-push_markup-3.ensures c.push_markup-4.ensures))
