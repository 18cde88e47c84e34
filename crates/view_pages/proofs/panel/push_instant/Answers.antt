use Rattle.view_pages.proofs.Parts.{after}
use Rattle.view_pages.specs.Panels.{instant_html}
use Rattle.view_pages.proofs.panel.push_instant.Goals as goal

pub returns : goal.returns
unfolding instant_html
returns g c =
    after _ _ _ _ _ _ c.in_ok-push_moment.ensures
    (after _ _ _ _ _ _ c.in_ok-push_markup.ensures
    (after _ _ _ _ _ _ c.in_ok-push_number.ensures c.push_markup-2.ensures))
