use Rattle.std.proofs.Common.{◌≡◌}
use Rattle.view_query.specs.Matching as spec
use Rattle.view_query.proofs.query.Query.finds.Given as goal

-- no span before fulfils all terms
abbrev pub invariant-loop-span : goal.invariant-loop-span
invariant-loop-span g l = spec.finds l.self l.span-iterator ≡ spec.finds l.self l.spans
