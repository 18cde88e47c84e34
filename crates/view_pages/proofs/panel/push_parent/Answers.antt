use Rattle.std.proofs.Common.{sym}
use Rattle.trace_tree.specs.declared.span.Place.TheVariants.{Orphan}
use Rattle.view_pages.proofs.Parts.{after, same_ok}
use Rattle.view_pages.specs.Panels.{parent_html}
use Rattle.view_pages.proofs.panel.push_parent.Goals as goal

pub returns-in_ok-push_markup-in-Orphan : goal.returns-in_ok-push_markup-in-Orphan
unfolding parent_html
returns-in_ok-push_markup-in-Orphan g c =
    same_ok _ Orphan c.args.place _ _ (λ p. parent_html p c.args.id.now) (sym c.in-Orphan.is)
    (after _ _ _ _ _ _ c.in_ok-push_markup-in-Orphan.ensures c.push_digits.ensures)
