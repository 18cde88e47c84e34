use Rattle.view_pages.proofs.Parts.{after}
use Rattle.view_pages.specs.Lists.{notice_html}
use Rattle.view_pages.proofs.list.write_notice_page.Goals as goal

pub returns : goal.returns
unfolding notice_html
returns g c =
    after _ _ _ _ _ _ c.in_ok-push_start.ensures
    (after _ _ _ _ _ _ c.in_ok-push_text.ensures
    (after _ _ _ _ _ _ c.in_ok-push_markup.ensures
    (after _ _ _ _ _ _ c.in_ok-push_after.ensures
    (after _ _ _ _ _ _ c.in_ok-push_markup-2.ensures
    (after _ _ _ _ _ _ c.in_ok-push_text-2.ensures
    (after _ _ _ _ _ _ c.in_ok-push_markup-3.ensures
    (after _ _ _ _ _ _ c.in_ok-push_text-3.ensures c.push_markup-4.ensures)))))))
