use Rattle.std.proofs.Common.{◌≡◌, codes, length, rules, true}
use Rattle.std.specs.Prelude.{◌==◌}
use Rattle.view_pages.specs.Html.{Markup}
use Rattle.view_pages.specs.Lists.{root_html, short_html}
use Rattle.view_pages.proofs.Chosen.{chosen}
use Rattle.view_pages.proofs.list.push_root.Goals as goal

pub returns-then-is_empty : goal.returns-then-is_empty
unfolding root_html
returns-then-is_empty g c =
    let none : (length c.args.name.now == 0) ≡ true = search rules in
    chosen c.push_markup.result (length c.args.name.now == 0) _ _
    (Markup (codes "<i>(no name)</i>")) (short_html c.args.name.now) none c.push_markup.ensures
