use Rattle.std.proofs.Common.{◌≡◌, option_map, take}
use Rattle.otel_settings.specs.Pairs.{last_of, pairs_view}
use Rattle.otel_settings.proofs.pairs.last_of.Given as goal

abbrev pub invariant-loop-key : goal.invariant-loop-key
invariant-loop-key l =
    option_map (λ t. t.now) l.last ≡ last_of l.name (pairs_view (take l.key-index l.pairs))
