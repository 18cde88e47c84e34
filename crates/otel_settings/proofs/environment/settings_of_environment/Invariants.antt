use Rattle.std.proofs.Common.{◌≡◌, take}
use Rattle.otel_settings.specs.Environments.{texts_view}
use Rattle.otel_settings.specs.Pairs.{pairs_view}
use Rattle.otel_settings.proofs.environment.settings_of_environment.Given as goal

-- the pairs so far are lent
abbrev pub invariant-loop-name : goal.invariant-loop-name
invariant-loop-name g l =
    pairs_view l.pairs.items ≡ texts_view (take l.name-index l.name-items)
