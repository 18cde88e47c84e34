use Rattle.std.proofs.Common.{refl}
use Rattle.model_body.specs.Examples.{named}
use Rattle.model_body.proofs.worked.names.Goals as goal

pub returns-clause-one : goal.returns-clause-one
unfolding named
returns-clause-one c = refl

pub returns-clause-both : goal.returns-clause-both
unfolding named
returns-clause-both c = refl

pub returns-clause-other_order : goal.returns-clause-other_order
unfolding named
returns-clause-other_order c = refl

pub returns-clause-nothing : goal.returns-clause-nothing
unfolding named
returns-clause-nothing c = refl

pub returns-clause-none : goal.returns-clause-none
unfolding named
returns-clause-none c = refl
