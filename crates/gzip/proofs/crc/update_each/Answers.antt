use Rattle.std.proofs.Common.{arith, sym, ◌∙◌}
use Rattle.gzip.proofs.CrcLaws.{crc-more, crc-all}
use Rattle.gzip.proofs.crc.update_each.Goals as goal

pub loop-byte-preserved : goal.loop-byte-preserved
loop-byte-preserved c =
    crc-more c.args.table.now c.loop-byte.state c.from.result c.loop-byte.byte-index
    c.args.bytes.now c.requires
    (omega (arith, c.from.ensures, c.type_inv.bytes c.loop-byte.byte-index)) c.loop-byte-test.true
    (sym c.from.ensures)
    ∙ c.loop-byte.invariant

pub returns : goal.returns
returns c =
    sym (crc-all c.loop-byte.state c.loop-byte.byte-index c.args.bytes.now (omega arith))
    ∙ c.loop-byte.invariant
