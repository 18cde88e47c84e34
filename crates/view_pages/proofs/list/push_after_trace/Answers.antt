use Rattle.view_pages.proofs.Parts.{after, same}
use Rattle.view_pages.specs.Html.{Digits}
use Rattle.view_pages.specs.Lists.{after_html}
use Rattle.view_pages.proofs.list.push_after_trace.Goals as goal

pub returns : goal.returns
unfolding after_html
returns g c =
    after _ _ _ _ _ _ c.in_ok-push_markup.ensures
    (after _ _ _ _ _ _ c.in_ok-push_hidden.ensures
    (after _ _ _ _ _ _ c.in_ok-push_markup-2.ensures
    (after _ _ _ _ _ _ (same _ _ _ _ Digits c.to_be_bytes.ensures c.in_ok-push_digits.ensures)
    c.push_markup-3.ensures)))
