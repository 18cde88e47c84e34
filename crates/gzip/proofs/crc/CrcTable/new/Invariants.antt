use Rattle.std.proofs.Common.{◌≡◌, vec_len, vec_capacity}
use Rattle.gzip.specs.Tables.{AreCrcEntries}
use Rattle.gzip.proofs.crc.CrcTable.new.Given as goal

abbrev pub invariant-loop-index : goal.invariant-loop-index
invariant-loop-index g l = record {
  sized : vec_len l.entries ≡ l.index;
  room : vec_capacity l.entries ≡ 4096;
  exact : AreCrcEntries l.entries.items l.index;
}
