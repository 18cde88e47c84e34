-- The texts compute.
use Rattle.std.proofs.Common.{refl}
use Rattle.std.specs.Fmt.{digits}
use Rattle.otlp_http.specs.Request.{gzip_head}
use Rattle.worked_sdk.proofs.requests.codings.Goals as goal

pub returns-clause-gzip : goal.returns-clause-gzip
unfolding gzip_head digits
returns-clause-gzip c = refl

pub returns-clause-kept : goal.returns-clause-kept
unfolding gzip_head digits
returns-clause-kept c = refl
