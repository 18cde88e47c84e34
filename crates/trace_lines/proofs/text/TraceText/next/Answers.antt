use Rattle.std.proofs.Common.{ap, append-nil, drop, sym, ◌∙◌, []}
use Rattle.trace_lines.specs.Texts.{lines_text}
use Rattle.trace_lines.proofs.text.TraceText.next.Goals as goal

pub returns-clause-piece : goal.returns-clause-piece
returns-clause-piece g c = (
  [],
  sym (append-nil c.args.out.now.items),
  λ more h. record {
    lines = h.lines;
    frame = h.frame;
    may_have = c.go_on.ensures.comes h.lines h.frame h.may_have;
    bytes_are =
        h.bytes_are
        ∙ ap (λ v. lines_text v.items h.frame (drop c.args.self.now.at h.lines))
        c.go_on.ensures.spans;
  },
)
