use Rattle.view_pages.proofs.Parts.{after}
use Rattle.view_pages.specs.Lists.{settings_html}
use Rattle.view_pages.proofs.list.push_settings.Goals as goal

pub returns : goal.returns
unfolding settings_html
returns g c =
    after _ _ _ _ _ _ c.in_ok-push_markup.ensures
    (after _ _ _ _ _ _ c.in_ok-push_after.ensures
    (after _ _ _ _ _ _ c.in_ok-push_markup-2.ensures c.push_markup-3.ensures))
