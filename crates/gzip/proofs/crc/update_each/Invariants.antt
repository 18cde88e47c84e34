use Rattle.std.proofs.Common.{◌≡◌, drop}
use Rattle.model_deflate.specs.Crc.{crc_bytes}
use Rattle.gzip.proofs.crc.update_each.Given as goal

-- the bytes that are left lead to the same
abbrev pub invariant-loop-byte : goal.invariant-loop-byte
invariant-loop-byte l = crc_bytes l.state (drop l.byte-index l.bytes) ≡ crc_bytes l.fn.state l.bytes
