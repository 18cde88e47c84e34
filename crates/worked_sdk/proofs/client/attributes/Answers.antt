use Rattle.std.proofs.Common.{refl}
use Rattle.std.specs.Fmt.{digits}
use Rattle.traced_http.specs.Methods.{is_known}
use Rattle.traced_http.specs.Queries.{is_secret, redacted_parameter, redacted_path, redacted_query}
use Rattle.worked_sdk.proofs.client.attributes.Goals as goal

pub returns-clause-known : goal.returns-clause-known
unfolding is_known digits redacted_parameter redacted_path redacted_query is_secret
returns-clause-known c = refl

pub returns-clause-unknown : goal.returns-clause-unknown
unfolding is_known digits redacted_parameter redacted_path redacted_query is_secret
returns-clause-unknown c = refl
