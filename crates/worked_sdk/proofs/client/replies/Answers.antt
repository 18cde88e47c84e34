use Rattle.std.proofs.Common.{refl}
use Rattle.std.specs.Fmt.{digits}
use Rattle.worked_sdk.proofs.client.replies.Goals as goal

pub returns-clause-error : goal.returns-clause-error
unfolding digits
returns-clause-error c = refl

pub returns-clause-below : goal.returns-clause-below
unfolding digits
returns-clause-below c = refl
