use Rattle.view_pages.proofs.Parts.{after}
use Rattle.view_pages.specs.Panels.{version_html}
use Rattle.view_pages.proofs.panel.push_version.Goals as goal

pub returns : goal.returns
unfolding version_html
returns g c =
    after _ _ _ _ _ _ c.in_ok-push_markup.ensures
    (after _ _ _ _ _ _ c.in_ok-push_text.ensures
    (after _ _ _ _ _ _ c.in_ok-push_markup-2.ensures
    (after _ _ _ _ _ _ c.in_ok-push_text-2.ensures c.push_markup-3.ensures)))
