use Rattle.std.proofs.Common.{◌≡◌, map, string_bytes}
use Rattle.text_words.specs.Words.{each_of, text_of}
use Rattle.text_words.proofs.Each.{words_at, appended, rest_of}
use Rattle.trace_script.proofs.value.texts.Given as goal

abbrev pub invariant-loop-member : goal.invariant-loop-member
invariant-loop-member g l =
    appended (map string_bytes l.all.items) (rest_of text_of l.members l.member-index)
    ≡ each_of text_of (words_at l.members)
