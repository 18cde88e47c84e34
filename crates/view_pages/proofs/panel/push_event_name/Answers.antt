use Rattle.view_pages.proofs.Parts.{after, same}
use Rattle.view_pages.specs.Html.{Text}
use Rattle.view_pages.specs.Panels.{event_name_html}
use Rattle.view_pages.proofs.panel.push_event_name.Goals as goal

pub returns : goal.returns
unfolding event_name_html
returns g c =
    after _ _ _ _ _ _ c.in_ok-push_markup.ensures
    (after _ _ _ _ _ _ (same _ _ _ _ Text c.deref.ensures c.in_ok-push_text.ensures)
    (after _ _ _ _ _ _ c.in_ok-push_markup-2.ensures
    (after _ _ _ _ _ _ c.in_ok-push_offset.ensures c.push_markup-3.ensures)))
