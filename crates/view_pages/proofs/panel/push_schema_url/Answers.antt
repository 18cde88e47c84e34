use Rattle.view_pages.proofs.Parts.{after}
use Rattle.view_pages.specs.Panels.{url_html}
use Rattle.view_pages.proofs.panel.push_schema_url.Goals as goal

pub returns : goal.returns
unfolding url_html
returns g c =
    after _ _ _ _ _ _ c.in_ok-push_markup.ensures
    (after _ _ _ _ _ _ c.in_ok-push_text.ensures c.push_markup-2.ensures)
