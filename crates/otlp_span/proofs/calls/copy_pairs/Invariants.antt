use Rattle.std.proofs.Common.{◌≡◌, take}
use Rattle.otlp_value.specs.Value.{attributes_view}
use Rattle.otlp_span.proofs.calls.copy_pairs.Given as goal

-- The pairs so far are copied.
abbrev pub invariant-loop-key : goal.invariant-loop-key
invariant-loop-key g l = attributes_view l.copied.items ≡ attributes_view (take l.key-index l.pairs)
