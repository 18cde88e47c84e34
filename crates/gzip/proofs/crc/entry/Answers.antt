use Rattle.gzip.proofs.CrcLaws.{entry-at}
use Rattle.gzip.proofs.crc.entry.Goals as goal

pub returns : goal.returns
returns c = entry-at c.args.table.now c.args.others c.args.word c.requires.table c.requires.few
