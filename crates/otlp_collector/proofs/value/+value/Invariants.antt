use Rattle.std.proofs.Common.{◌≡◌, ◌+◌, ◌*◌, ◌++◌, length, map, string_bytes, drop}
use Rattle.otlp_collector.specs.Lines.{listed}
use Rattle.otlp_collector.specs.Words.{any_word, pair_word}
use Rattle.otlp_collector.proofs.Listed.{left_of}
use Rattle.otlp_collector.proofs.value.+value.Given as goal

-- what is written, and then what is left of the list, are all
abbrev pub invariant-push_array-loop-at : goal.invariant-push_array-loop-at
invariant-push_array-loop-at g l =
    string_bytes l.out ++ left_of l.at (map any_word (drop l.at l.values))
    ≡ string_bytes l.initial.out ++ listed (map any_word l.values)

abbrev pub invariant-push_pairs-loop-at : goal.invariant-push_pairs-loop-at
invariant-push_pairs-loop-at g l =
    string_bytes l.out ++ left_of l.at (map pair_word (drop l.at l.pairs))
    ≡ string_bytes l.initial.out ++ listed (map pair_word l.pairs)

-- a value's word is longer than what is listed in it, and that no shorter than each part's
abbrev pub decreases-push_value : goal.decreases-push_value
decreases-push_value g l = 2 * length (any_word l.value.now)

abbrev pub decreases-push_array : goal.decreases-push_array
decreases-push_array g l = 2 * length (listed (map any_word l.values.now)) + 1

abbrev pub decreases-push_pairs : goal.decreases-push_pairs
decreases-push_pairs g l = 2 * length (listed (map pair_word l.pairs.now)) + 1
