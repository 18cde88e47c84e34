use Rattle.std.proofs.Common.{refl}
use Rattle.traced_http.specs.Queries.{is_secret, redacted_parameter, redacted_path}
use Rattle.traced_http.specs.Queries.{redacted_query}
use Rattle.worked_sdk.proofs.queries.paths.Goals as goal

pub returns-clause-alone : goal.returns-clause-alone
unfolding is_secret redacted_parameter redacted_query redacted_path
returns-clause-alone c = refl

pub returns-clause-secret : goal.returns-clause-secret
unfolding is_secret redacted_parameter redacted_query redacted_path
returns-clause-secret c = refl

pub returns-clause-empty : goal.returns-clause-empty
unfolding is_secret redacted_parameter redacted_query redacted_path
returns-clause-empty c = refl

pub returns-clause-second_mark : goal.returns-clause-second_mark
unfolding is_secret redacted_parameter redacted_query redacted_path
returns-clause-second_mark c = refl
