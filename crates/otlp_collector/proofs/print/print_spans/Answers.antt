use Rattle.std.proofs.Common.{ap, subst, ◌∙◌, map}
use Rattle.otlp_read.specs.Triples.{triple_view}
use Rattle.otlp_collector.specs.Lines.{spans_text, triple_lines}
use Rattle.otlp_collector.specs.Printed.{AppendsFront}
use Rattle.otlp_collector.proofs.Fronts.{on-err, parts-front, parts-more}
use Rattle.otlp_collector.proofs.print.print_spans.Goals as goal

pub returns-in_err-print_triple-clause-err : goal.returns-in_err-print_triple-clause-err
returns-in_err-print_triple-clause-err g c =
    let contents = g.W.FaultWrite.contents in
    let all =
    ap (λ ts. spans_text (map triple_view ts)) c.deref-triple-items.ensures.value
    ∙ ap spans_text c.in_ok-triples.ensures.listed in
    on-err c.from_residual-in_err-print_triple.result _
    (subst (AppendsFront (contents c.args.writer.now) (contents c.print_triple.new.writer)) all
    (parts-front triple_lines triple_view c.deref-triple-items.result.now c.loop-triple.triple-index
    c.triple-item.result
    (contents c.args.writer.now) (contents c.loop-triple.writer)
    (contents c.print_triple.new.writer)
    c.loop-triple-test.true c.triple-item.is c.loop-triple.invariant.0
    c.in_err-print_triple.ensures.err))

pub loop-triple-preserved : goal.loop-triple-preserved
loop-triple-preserved g c =
    let contents = g.W.FaultWrite.contents in (
      parts-more triple_lines triple_view c.deref-triple-items.result.now c.loop-triple.triple-index
          c.triple-item.result
          (contents c.args.writer.now) (contents c.loop-triple.writer)
          (contents c.print_triple.new.writer)
          c.loop-triple-test.true c.triple-item.is c.loop-triple.invariant.0
          c.in_ok-print_triple.ensures.ok,
      c.in_ok-print_triple.ensures.counted ∙ c.loop-triple.invariant.1,
    )
