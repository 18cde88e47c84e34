use Rattle.std.proofs.Common.{◌≡◌, ◌≤◌, length, take}
use Rattle.otlp_serve.specs.Answers.{without_end_blanks}
use Rattle.otlp_serve.proofs.answer.without_end_blanks.Given as goal

-- what comes after the end is blank
abbrev pub invariant-loop-end : goal.invariant-loop-end
invariant-loop-end l =
    (l.end ≤ length l.text) × (without_end_blanks l.text ≡ without_end_blanks (take l.end l.text))

abbrev pub decreases-loop-end : goal.decreases-loop-end
decreases-loop-end l = l.end
