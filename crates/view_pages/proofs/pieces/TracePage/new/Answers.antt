use Rattle.std.proofs.Common.{ap, arith, length, subst, sym, ◌∙◌}
use Rattle.trace_tree.specs.Order.{ArePlaces}
use Rattle.view_pages.specs.Html.{html_bytes}
use Rattle.view_pages.specs.Pages.{DrawsPage}
use Rattle.view_pages.specs.Pieces.{left_html}
use Rattle.view_pages.specs.Reading.{places_in}
use Rattle.view_pages.specs.declared.pieces.Stage.TheVariants.{Head}
use Rattle.view_pages.proofs.Planned.{draws, reads_back}
use Rattle.view_pages.proofs.pieces.TracePage.new.Goals as goal

pub returns : goal.returns
returns g c = record {
  page = λ bytes h.
      subst (DrawsPage c.args.trace c.args.spans.items)
      (sym (h.bytes_are
      ∙ ap (λ v. html_bytes (left_html c.args.trace v.items h.lines h.frame Head))
      c.new-rows.ensures.spans))
      (draws c.args.trace c.args.spans.items h.lines h.frame
      (c.new-rows.ensures.plan h.lines h.frame h.may_have));
  read_back = λ bytes h.
      subst (λ b. ArePlaces (length c.args.spans.items) (places_in b))
      (sym (h.bytes_are
      ∙ ap (λ v. html_bytes (left_html c.args.trace v.items h.lines h.frame Head))
      c.new-rows.ensures.spans))
      (reads_back c.args.trace c.args.spans.items h.lines h.frame (omega arith)
      (c.new-rows.ensures.plan h.lines h.frame h.may_have));
}
