use Rattle.std.proofs.Common.{◌≡◌, ℕ, ◌<◌, length, get_or}
use Rattle.model_deflate.specs.Crc.{crc_bytes}
use Rattle.gzip.proofs.crc.update.Given as goal

-- the bytes that are left lead to the same
abbrev pub invariant-words : goal.invariant-words
invariant-words l = record {
  small : (k : ℕ) → get_or l.rest k 0 < 256;
  same : crc_bytes l.state l.rest ≡ crc_bytes l.fn.state l.fn.bytes;
}

abbrev pub decreases-words : goal.decreases-words
decreases-words l = length l.rest
