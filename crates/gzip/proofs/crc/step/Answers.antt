use Rattle.std.proofs.Common.{sym}
use Rattle.gzip.proofs.CrcLaws.{divided-product}
use Rattle.gzip.proofs.crc.step.Goals as goal

pub returns : goal.returns
returns c = sym (divided-product c.args.state)
