use Rattle.std.proofs.Common.{ap, subst, sym, ◌∙◌}
use Rattle.trace_lines.specs.Texts.{DrawsText, lines_text}
use Rattle.trace_lines.proofs.Texts.{draws_text}
use Rattle.trace_lines.proofs.text.TraceText.new.Goals as goal

pub returns : goal.returns
returns g c = record {
  text = λ bytes h.
      subst (DrawsText c.args.spans.items)
      (sym (h.bytes_are ∙ ap (λ v. lines_text v.items h.frame h.lines) c.new.ensures.spans))
      (draws_text c.args.spans.items h.lines h.frame
      (c.new.ensures.plan h.lines h.frame h.may_have));
}
