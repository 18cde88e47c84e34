use Rattle.view_pages.proofs.Parts.{after}
use Rattle.view_pages.specs.Times.{scaled}
use Rattle.view_pages.proofs.times.push_scaled.Goals as goal

pub returns : goal.returns
unfolding scaled
returns g c =
    after _ _ _ _ _ _ c.in_ok-push_number.ensures
    (after _ _ _ _ _ _ c.in_ok-push_markup.ensures
    (after _ _ _ _ _ _ c.in_ok-push_number-2.ensures
    (after _ _ _ _ _ _ c.in_ok-push_number-3.ensures c.push_markup-2.ensures)))
