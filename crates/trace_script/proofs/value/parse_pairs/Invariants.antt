use Rattle.std.proofs.Common.{◌≡◌, length}
use Rattle.otlp_value.specs.Value.{attributes_view}
use Rattle.trace_script.specs.Values.{pairs_of}
use Rattle.text_words.proofs.Each.{words_at, appended}
use Rattle.trace_script.proofs.value.parse_pairs.Given as goal

abbrev pub invariant-loop-rest : goal.invariant-loop-rest
invariant-loop-rest g l =
    appended (attributes_view l.pairs.items) (pairs_of (words_at l.rest))
    ≡ pairs_of (words_at l.words)

abbrev pub decreases-loop-rest : goal.decreases-loop-rest
decreases-loop-rest g l = length l.rest
