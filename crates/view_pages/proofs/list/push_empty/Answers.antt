use Rattle.view_pages.proofs.Parts.{after}
use Rattle.view_pages.specs.Lists.{empty_html}
use Rattle.view_pages.proofs.list.push_empty.Goals as goal

pub returns : goal.returns
unfolding empty_html
returns g c =
    after _ _ _ _ _ _ c.in_ok-push_markup.ensures
    (after _ _ _ _ _ _ c.in_ok-push_after.ensures
    (after _ _ _ _ _ _ c.in_ok-push_markup-2.ensures c.push_settings.ensures))
