use Rattle.std.proofs.Common.{refl}
use lib.Ieee.{is_nan as nan_test, of_bits}
use Rattle.law_json.proofs.worked.doubles.Goals as goal

pub returns-clause-one : goal.returns-clause-one
unfolding nan_test of_bits
returns-clause-one c = refl

pub returns-clause-minus_zero : goal.returns-clause-minus_zero
unfolding nan_test of_bits
returns-clause-minus_zero c = refl

pub returns-clause-infinity : goal.returns-clause-infinity
unfolding nan_test of_bits
returns-clause-infinity c = refl

pub returns-clause-payload : goal.returns-clause-payload
unfolding nan_test of_bits
returns-clause-payload c = refl

pub returns-clause-minus : goal.returns-clause-minus
unfolding nan_test of_bits
returns-clause-minus c = refl
