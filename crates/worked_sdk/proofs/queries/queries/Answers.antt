use Rattle.std.proofs.Common.{refl}
use Rattle.traced_http.specs.Queries.{is_secret, redacted_parameter, redacted_query}
use Rattle.worked_sdk.proofs.queries.queries.Goals as goal

pub returns-clause-standard : goal.returns-clause-standard
unfolding is_secret redacted_parameter redacted_query
returns-clause-standard c = refl

pub returns-clause-none : goal.returns-clause-none
unfolding is_secret redacted_parameter redacted_query
returns-clause-none c = refl

pub returns-clause-first : goal.returns-clause-first
unfolding is_secret redacted_parameter redacted_query
returns-clause-first c = refl

pub returns-clause-two : goal.returns-clause-two
unfolding is_secret redacted_parameter redacted_query
returns-clause-two c = refl

pub returns-clause-google : goal.returns-clause-google
unfolding is_secret redacted_parameter redacted_query
returns-clause-google c = refl

pub returns-clause-amazon : goal.returns-clause-amazon
unfolding is_secret redacted_parameter redacted_query
returns-clause-amazon c = refl

pub returns-clause-token : goal.returns-clause-token
unfolding is_secret redacted_parameter redacted_query
returns-clause-token c = refl

pub returns-clause-no_value : goal.returns-clause-no_value
unfolding is_secret redacted_parameter redacted_query
returns-clause-no_value c = refl

pub returns-clause-other_letters : goal.returns-clause-other_letters
unfolding is_secret redacted_parameter redacted_query
returns-clause-other_letters c = refl

pub returns-clause-longer : goal.returns-clause-longer
unfolding is_secret redacted_parameter redacted_query
returns-clause-longer c = refl

pub returns-clause-value : goal.returns-clause-value
unfolding is_secret redacted_parameter redacted_query
returns-clause-value c = refl

pub returns-clause-between : goal.returns-clause-between
unfolding is_secret redacted_parameter redacted_query
returns-clause-between c = refl

pub returns-clause-empty : goal.returns-clause-empty
unfolding is_secret redacted_parameter redacted_query
returns-clause-empty c = refl
