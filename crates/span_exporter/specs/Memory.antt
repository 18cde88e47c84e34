-- What an exporter over memory shows. (profile)
use Rattle.std.specs.Prelude.{List, [], ◌∷◌}
use Rattle.model_desk.specs.Retries.{Outcome}
use Rattle.span_exporter.specs.Handed.{Handed}
use Rattle.span_exporter.specs.Room.{Room}

-- what it was handed, the outcomes that come next, and its room
pub record Memory : Type 0 where
  pub handed : List Handed
  pub outcomes : List Outcome
  pub room : Room

-- the first of the listed outcomes, and after the last always that the batch was taken
abbrev pub next_outcome : List Outcome → Outcome
next_outcome [] = Outcome.delivered
next_outcome (outcome ∷ outcomes) = outcome
