use Rattle.view_pages.proofs.Parts.{after}
use Rattle.view_pages.specs.Panels.{facts_html}
use Rattle.view_pages.proofs.panel.push_facts.Goals as goal

pub returns : goal.returns
unfolding facts_html
returns g c =
    after _ _ _ _ _ _ c.in_ok-push_ids.ensures
    (after _ _ _ _ _ _ c.in_ok-push_state.ensures c.push_times.ensures)
