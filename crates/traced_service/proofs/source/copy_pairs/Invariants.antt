use Rattle.std.proofs.Common.{◌≡◌, take}
use Rattle.otlp_value.specs.Value.{attributes_view}
use Rattle.traced_service.proofs.source.copy_pairs.Given as goal

-- The pairs so far are copied.
abbrev pub invariant-loop-key : goal.invariant-loop-key
invariant-loop-key l = attributes_view l.copied.items ≡ attributes_view (take l.key-index l.pairs)
