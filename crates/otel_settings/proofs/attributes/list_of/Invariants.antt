use Rattle.std.proofs.Common.{◌≡◌, map, take}
use Rattle.model_span.specs.Attributes.{attribute_list}
use Rattle.otel_settings.specs.ResourcePairs.{pairs_view}
use Rattle.otel_settings.specs.Attributes.{attribute_of, no_limits}
use Rattle.otel_settings.proofs.attributes.list_of.Given as goal

-- the pairs so far are set
abbrev pub invariant-loop-key : goal.invariant-loop-key
invariant-loop-key g l =
    l.list ≡ attribute_list no_limits (map attribute_of (pairs_view (take l.key-index l.pairs)))
