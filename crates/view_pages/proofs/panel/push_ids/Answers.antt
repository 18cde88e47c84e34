use Rattle.view_pages.proofs.Parts.{after, same, same_ok}
use Rattle.view_pages.specs.Html.{Digits}
use Rattle.view_pages.specs.Panels.{ids_html, parent_html}
use Rattle.view_pages.proofs.panel.push_ids.Goals as goal

pub returns : goal.returns
unfolding ids_html
returns g c =
    after _ _ _ _ _ _ c.in_ok-push_markup.ensures
    (after _ _ _ _ _ _ (same _ _ _ _ Digits c.deref.ensures.value c.in_ok-push_digits.ensures)
    (same_ok _ _ _ _ _ (parent_html c.args.place) c.deref-2.ensures.value c.push_parent.ensures))
