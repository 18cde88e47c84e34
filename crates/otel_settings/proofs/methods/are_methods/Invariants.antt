use Rattle.std.proofs.Common.{◌≡◌, length, map}
use Rattle.otel_settings.specs.Methods.{are_methods}
use Rattle.otel_settings.proofs.methods.are_methods.Given as goal

-- those that are done are methods, or nothing
abbrev pub invariant-loop-rest : goal.invariant-loop-rest
invariant-loop-rest l =
    are_methods (map (λ p. p.now) l.rest) ≡ are_methods (map (λ p. p.now) l.parts)

abbrev pub decreases-loop-rest : goal.decreases-loop-rest
decreases-loop-rest l = length l.rest
