use Rattle.std.proofs.Common.{ap, bit_xor}
use Rattle.model_deflate.specs.Crc.{crc32}
use Rattle.gzip.proofs.crc.CrcTable.check.Goals as goal

pub returns : goal.returns
unfolding crc32
returns g c = ap (λ x. bit_xor x 4294967295) c.update.ensures
