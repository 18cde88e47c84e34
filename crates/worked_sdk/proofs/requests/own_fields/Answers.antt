-- The texts compute.
use Rattle.std.proofs.Common.{refl}
use Rattle.std.specs.Fmt.{digits}
use Rattle.otlp_http.specs.Request.{kept_head, request_head}
use Rattle.worked_sdk.proofs.requests.own_fields.Goals as goal

pub returns-clause-closed : goal.returns-clause-closed
unfolding request_head digits
returns-clause-closed c = refl

pub returns-clause-kept : goal.returns-clause-kept
unfolding kept_head digits
returns-clause-kept c = refl
