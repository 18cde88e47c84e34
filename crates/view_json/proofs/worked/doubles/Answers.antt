use Rattle.std.proofs.Common.{refl}
use lib.Ieee.{of_bits}
use Rattle.view_json.proofs.worked.doubles.Goals as goal

pub returns-clause-one_and_a_half : goal.returns-clause-one_and_a_half
unfolding of_bits
returns-clause-one_and_a_half c = refl

pub returns-clause-not_a_number : goal.returns-clause-not_a_number
unfolding of_bits
returns-clause-not_a_number c = refl

pub returns-clause-infinite : goal.returns-clause-infinite
unfolding of_bits
returns-clause-infinite c = refl

pub returns-clause-less : goal.returns-clause-less
unfolding of_bits
returns-clause-less c = refl
