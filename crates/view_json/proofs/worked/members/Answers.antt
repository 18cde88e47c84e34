use Rattle.std.proofs.Common.{refl}
use Rattle.std.specs.Fmt.{digits}
use Rattle.hex.specs.Hex.{encode_with}
use Rattle.view_json.proofs.worked.members.Goals as goal

pub returns-clause-hex : goal.returns-clause-hex
unfolding encode_with
returns-clause-hex c = refl

pub returns-clause-long : goal.returns-clause-long
unfolding digits
returns-clause-long c = refl
