-- The texts compute.
use Rattle.std.proofs.Common.{refl}
use Rattle.std.specs.Fmt.{digits}
use Rattle.otlp_serve.specs.Replies.{reply_front}
use Rattle.worked_sdk.proofs.posts.texts.Goals as goal

pub returns-clause-taken : goal.returns-clause-taken
unfolding reply_front digits
returns-clause-taken c = refl

pub returns-clause-method : goal.returns-clause-method
unfolding reply_front digits
returns-clause-method c = refl

pub returns-clause-busy : goal.returns-clause-busy
unfolding reply_front digits
returns-clause-busy c = refl
