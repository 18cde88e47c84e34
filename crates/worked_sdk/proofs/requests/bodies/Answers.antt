-- The texts compute.
use Rattle.std.proofs.Common.{refl}
use Rattle.std.specs.Fmt.{digits}
use Rattle.otlp_http.specs.Request.{request_head}
use Rattle.worked_sdk.proofs.requests.bodies.Goals as goal

pub returns-clause-none : goal.returns-clause-none
unfolding request_head digits
returns-clause-none c = refl

pub returns-clause-some : goal.returns-clause-some
unfolding request_head digits
returns-clause-some c = refl
