use Rattle.std.proofs.Common.{ℕ, List, take}
use Rattle.otel_settings.specs.Environments.{texts_view}
use Rattle.otel_settings.proofs.Environments.{IsRead}
use Rattle.otel_settings.proofs.environment.variables.Given as goal

-- what is known of each name after the variables so far
abbrev pub invariant-loop-variable : goal.invariant-loop-variable
invariant-loop-variable g l = (name : List ℕ)
    → IsRead (g.E.Environment.gives l.environment) (take l.variable-index l.variable-items)
    (texts_view l.all.items) name
