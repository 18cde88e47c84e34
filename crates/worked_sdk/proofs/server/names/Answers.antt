use Rattle.std.proofs.Common.{refl}
use Rattle.traced_http.specs.Methods.{is_known}
use Rattle.worked_sdk.proofs.server.names.Goals as goal

pub returns-clause-route : goal.returns-clause-route
unfolding is_known
returns-clause-route c = refl

pub returns-clause-no_route : goal.returns-clause-no_route
unfolding is_known
returns-clause-no_route c = refl

pub returns-clause-unknown : goal.returns-clause-unknown
unfolding is_known
returns-clause-unknown c = refl

pub returns-clause-known_value : goal.returns-clause-known_value
unfolding is_known
returns-clause-known_value c = refl

pub returns-clause-small_letters : goal.returns-clause-small_letters
unfolding is_known
returns-clause-small_letters c = refl

pub returns-clause-original : goal.returns-clause-original
unfolding is_known
returns-clause-original c = refl

pub returns-clause-no_original : goal.returns-clause-no_original
unfolding is_known
returns-clause-no_original c = refl

pub returns-clause-replaced : goal.returns-clause-replaced
unfolding is_known
returns-clause-replaced c = refl

pub returns-clause-no_standard : goal.returns-clause-no_standard
unfolding is_known
returns-clause-no_standard c = refl
