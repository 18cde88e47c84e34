use Rattle.std.proofs.Common.{refl, arith, [], ◌∷◌}
use Rattle.model_span.specs.Identifiers.{first_valid}
use Rattle.model_span.specs.Starts.{started_span, ids_of, ids_words}
use Rattle.model_run.specs.History.{start_results_after}
use Rattle.model_run.specs.Runs.{ended_by, desk_events}
use Rattle.worked_sdk.specs.Worked.{worked_places, worked_events}
use Rattle.worked_sdk.proofs.whole.places.Goals as goal

-- three exchanges put the tickets in order
pub returns : goal.returns
unfolding worked_places worked_events desk_events ended_by start_results_after started_span ids_of
    ids_words first_valid
returns c = record {
  tickets = refl;
  once = record {
    moves = (2, 4) ∷ (1, 3) ∷ (0, 2) ∷ [];
    below = (omega arith, omega arith, (omega arith, omega arith, (omega arith, omega arith, tt)));
    is = refl;
  };
}
