use Rattle.std.proofs.Common.{◌≡◌}
use Rattle.trace_lines.specs.Lists.{has_some}
use Rattle.trace_lines.proofs.filter.Filter.has_some.Given as goal

-- it made none of those that came before
abbrev pub invariant-loop-span : goal.invariant-loop-span
invariant-loop-span g l = has_some l.self l.span-iterator ≡ has_some l.self l.spans
