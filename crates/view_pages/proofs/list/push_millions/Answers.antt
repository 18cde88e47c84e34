use Rattle.view_pages.proofs.Parts.{after}
use Rattle.view_pages.specs.Lists.{millions}
use Rattle.view_pages.proofs.list.push_millions.Goals as goal

pub returns : goal.returns
unfolding millions
returns g c =
    after _ _ _ _ _ _ c.in_ok-push_number.ensures
    (after _ _ _ _ _ _ c.in_ok-push_markup.ensures
    (after _ _ _ _ _ _ c.in_ok-push_three.ensures
    (after _ _ _ _ _ _ c.in_ok-push_markup-2.ensures c.push_three-2.ensures)))
