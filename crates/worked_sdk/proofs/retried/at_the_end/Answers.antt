use Rattle.std.proofs.Common.{refl, arith, [], ◌∷◌}
use Rattle.model_span.specs.Identifiers.{first_valid}
use Rattle.model_span.specs.Starts.{started_span, ids_of, ids_words}
use Rattle.model_run.specs.History.{start_results_after}
use Rattle.model_run.specs.Runs.{ended_by, desk_events}
use Rattle.worked_sdk.proofs.retried.at_the_end.Goals as goal

-- one exchange puts the tickets in order
pub returns-clause-once : goal.returns-clause-once
unfolding desk_events ended_by start_results_after started_span ids_of ids_words first_valid
returns-clause-once c =
    record { moves = (0, 1) ∷ []; below = (omega arith, omega arith, tt); is = refl }
