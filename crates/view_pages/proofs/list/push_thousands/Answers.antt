use Rattle.view_pages.proofs.Parts.{after}
use Rattle.view_pages.specs.Lists.{thousands}
use Rattle.view_pages.proofs.list.push_thousands.Goals as goal

pub returns : goal.returns
unfolding thousands
returns g c =
    after _ _ _ _ _ _ c.in_ok-push_number.ensures
    (after _ _ _ _ _ _ c.in_ok-push_markup.ensures c.push_three.ensures)
