use Rattle.std.proofs.Common.{◌≡◌, ◌++◌, string_bytes, drop}
use Rattle.otlp_read.specs.Values.{pairs_view}
use Rattle.otlp_collector.specs.Lines.{pair_lines}
use Rattle.otlp_collector.proofs.line.push_pair_lines.Given as goal

-- what is written, and then the lines of the pairs that are left, are all
abbrev pub invariant-loop-pair : goal.invariant-loop-pair
invariant-loop-pair g l =
    string_bytes l.out ++ pair_lines l.name (pairs_view (drop l.pair-index l.pairs))
    ≡ string_bytes l.initial.out ++ pair_lines l.name (pairs_view l.pairs)
