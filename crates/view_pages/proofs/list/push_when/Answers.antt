use Rattle.view_pages.proofs.Parts.{after, same}
use Rattle.view_pages.specs.Lists.{when_html}
use Rattle.view_pages.specs.Times.{duration}
use Rattle.view_pages.proofs.list.push_when.Goals as goal

pub returns : goal.returns
unfolding when_html
returns g c =
    after _ _ _ _ _ _ c.in_ok-push_markup.ensures
    (after _ _ _ _ _ _
    (same _ _ _ _ duration c.duration_nanos.ensures c.in_ok-push_duration.ensures)
    (after _ _ _ _ _ _ c.in_ok-push_markup-2.ensures c.push_second.ensures))
