use Rattle.std.proofs.Common.{string_bytes}
use Rattle.otlp_read.specs.Values.{pair_view}
use Rattle.otlp_collector.specs.Lines.{pair_line}
use Rattle.otlp_collector.proofs.Each.{each-more}
use Rattle.otlp_collector.proofs.line.push_pair_lines.Goals as goal

pub loop-pair-preserved : goal.loop-pair-preserved
loop-pair-preserved g c =
    each-more
    (pair_line c.args.name.now) pair_view c.args.pairs.now c.loop-pair.pair-index c.pair-item.result
    (string_bytes c.args.out.now) (string_bytes c.loop-pair.out)
    (string_bytes c.push_pair_line.new.out)
    c.loop-pair-test.true c.pair-item.is c.loop-pair.invariant c.in_ok-push_pair_line.ensures
