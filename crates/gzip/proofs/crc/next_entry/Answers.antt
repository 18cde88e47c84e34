use Rattle.std.proofs.Common.{refl, get_or, ◌-◌}
use Rattle.gzip.proofs.CrcLaws.{entry-later}
use Rattle.gzip.proofs.crc.next_entry.Goals as goal

pub returns : goal.returns
returns c =
    entry-later c.args.entries.now c.args.index
    (get_or c.args.entries.now (c.args.index - 256) 0) c.requires.exact c.if-index-lt256.false refl
