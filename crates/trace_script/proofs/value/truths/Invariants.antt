use Rattle.std.proofs.Common.{◌≡◌}
use Rattle.text_words.specs.Words.{each_of}
use Rattle.trace_script.specs.Values.{bool_of}
use Rattle.text_words.proofs.Each.{words_at, appended, rest_of}
use Rattle.trace_script.proofs.value.truths.Given as goal

abbrev pub invariant-loop-member : goal.invariant-loop-member
invariant-loop-member g l =
    appended l.all.items (rest_of bool_of l.members l.member-index)
    ≡ each_of bool_of (words_at l.members)
