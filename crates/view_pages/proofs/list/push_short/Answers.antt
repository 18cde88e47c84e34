use Rattle.std.proofs.Common.{◌∙◌, codes, length, rules}
use Rattle.std.specs.Fmt.{take_chars}
use Rattle.std.specs.Prelude.{nat_lt}
use Rattle.view_pages.specs.Html.{Text, markup_if}
use Rattle.view_pages.specs.Lists.{short_html}
use Rattle.view_pages.proofs.Parts.{after, same, same_ok}
use Rattle.view_pages.proofs.list.push_short.Goals as goal

pub returns : goal.returns
unfolding short_html
returns g c =
    let shown = take_chars 120 c.args.text.now in
    after _ _ _ _ _ _
    (same _ _ _ _ Text (c.deref.ensures ∙ c.in_ok-front.ensures) c.in_ok-push_text.ensures)
    (same_ok c.push_if.result _ (nat_lt (length shown) (length c.args.text.now)) _ _
    (λ b. markup_if b (codes "&hellip;"))
    (search (rules, c.in_ok-front.ensures)) c.push_if.ensures)
