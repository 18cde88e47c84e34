use Rattle.std.proofs.Common.{◌≡◌}
use Rattle.text_words.specs.Words.{each_of}
use Rattle.text_words.specs.Words.{signed_number}
use Rattle.text_words.proofs.Each.{words_at, appended, rest_of}
use Rattle.trace_script.proofs.value.integers.Given as goal

abbrev pub invariant-loop-member : goal.invariant-loop-member
invariant-loop-member g l =
    appended l.all.items (rest_of signed_number l.members l.member-index)
    ≡ each_of signed_number (words_at l.members)
