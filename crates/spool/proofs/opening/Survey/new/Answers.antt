use Rattle.std.proofs.Common.{refl}
use Rattle.spool.proofs.SurveyLaws.{survey-none}
use Rattle.spool.proofs.opening.Survey.new.Goals as goal

pub returns : goal.returns
returns c = survey-none _ c.new.ensures.items refl refl refl refl refl
