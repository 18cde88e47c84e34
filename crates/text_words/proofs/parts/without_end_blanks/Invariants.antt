use Rattle.std.proofs.Common.{◌≡◌, length}
use Rattle.text_words.specs.Parts.{without_end_blanks}
use Rattle.text_words.proofs.parts.without_end_blanks.Given as goal

-- what was left out is blank
abbrev pub invariant-loop-rest : goal.invariant-loop-rest
invariant-loop-rest l = without_end_blanks l.rest ≡ without_end_blanks l.text

abbrev pub decreases-loop-rest : goal.decreases-loop-rest
decreases-loop-rest l = length l.rest
