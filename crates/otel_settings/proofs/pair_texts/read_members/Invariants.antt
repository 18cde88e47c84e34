use Rattle.std.proofs.Common.{◌≡◌}
use Rattle.text_words.specs.Words.{each_of}
use Rattle.text_words.proofs.Each.{words_at, appended, rest_of}
use Rattle.otel_settings.specs.ResourcePairs.{member_of, pairs_view}
use Rattle.otel_settings.proofs.pair_texts.read_members.Given as goal

abbrev pub invariant-loop-member : goal.invariant-loop-member
invariant-loop-member g l =
    appended (pairs_view l.all.items) (rest_of member_of l.members l.member-index)
    ≡ each_of member_of (words_at l.members)
