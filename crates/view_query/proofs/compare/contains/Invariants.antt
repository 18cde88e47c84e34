use Rattle.std.proofs.Common.{◌≡◌, drop}
use Rattle.view_query.specs.Matching as spec
use Rattle.view_query.proofs.compare.contains.Given as goal

-- the part is at the front of nothing before
abbrev pub invariant-loop-at : goal.invariant-loop-at
invariant-loop-at l = spec.contains l.part (drop l.at l.text) ≡ spec.contains l.part l.text
