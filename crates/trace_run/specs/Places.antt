-- Where a step is among those of a run, as far as its line says it.
use Rattle.std.specs.Prelude.{◌≡◌, List, length}
use Rattle.model_run.specs.Runs.{Answered}
use Rattle.model_run.specs.Headline.{attempts}
use Rattle.trace_run.specs.Lines.{starts}
use Rattle.trace_run.specs.declared.text.place.Place.{Place}

-- the next step comes after these
pub record IsAfter (before : List Answered) (place : Place) : Type 0 where
  pub starts : place.starts ≡ starts before
  pub sent : place.sent ≡ length (attempts before)
