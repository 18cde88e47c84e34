use Rattle.std.proofs.Common.{◌≡◌, take}
use Rattle.otlp_value.specs.Value.{attributes_view}
use Rattle.trace_api.specs.Lent.{lent_pairs}
use Rattle.trace_api.proofs.lent.copy_pairs.Given as goal

-- The pairs so far are copied.
abbrev pub invariant-loop-pair : goal.invariant-loop-pair
invariant-loop-pair g l = attributes_view l.copied.items ≡ lent_pairs (take l.pair-index l.pairs)
