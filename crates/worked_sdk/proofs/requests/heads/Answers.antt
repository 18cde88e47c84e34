-- The texts compute.
use Rattle.std.proofs.Common.{refl}
use Rattle.std.specs.Fmt.{digits}
use Rattle.otlp_http.specs.Request.{request_head}
use Rattle.worked_sdk.proofs.requests.heads.Goals as goal

pub returns-clause-head : goal.returns-clause-head
unfolding request_head digits
returns-clause-head c = refl

pub returns-clause-head_bytes : goal.returns-clause-head_bytes
unfolding request_head digits
returns-clause-head_bytes c = refl

pub returns-clause-whole_bytes : goal.returns-clause-whole_bytes
unfolding request_head digits
returns-clause-whole_bytes c = refl
