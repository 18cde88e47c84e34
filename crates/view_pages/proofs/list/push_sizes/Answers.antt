use Rattle.view_pages.proofs.Parts.{after}
use Rattle.view_pages.specs.Lists.{sizes_html}
use Rattle.view_pages.proofs.list.push_sizes.Goals as goal

pub returns : goal.returns
unfolding sizes_html
returns g c =
    after _ _ _ _ _ _ c.in_ok-push_markup.ensures
    (after _ _ _ _ _ _ c.in_ok-push_short.ensures
    (after _ _ _ _ _ _ c.in_ok-push_markup-2.ensures
    (after _ _ _ _ _ _ c.in_ok-push_number.ensures
    (after _ _ _ _ _ _ c.in_ok-push_markup-3.ensures c.push_number-2.ensures))))
