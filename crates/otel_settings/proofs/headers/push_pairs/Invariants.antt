use Rattle.std.proofs.Common.{◌≡◌, ◌++◌, drop}
use Rattle.otel_settings.specs.Headers.{refusal_after}
use Rattle.otel_settings.specs.ResourcePairs.{pairs_view}
use Rattle.otel_settings.proofs.headers.push_pairs.Given as goal

-- what is left to push is refused as all is, and comes after what is pushed
abbrev pub invariant-loop-name : goal.invariant-loop-name
invariant-loop-name g l =
    (refusal_after l.initial.fields (pairs_view l.pairs)
    ≡ refusal_after l.fields (pairs_view (drop l.name-index l.pairs)))
    × (l.fields ++ pairs_view (drop l.name-index l.pairs)
    ≡ l.initial.fields ++ pairs_view l.pairs)
