use Rattle.std.proofs.Common.{take}
use Rattle.std.specs.Io.KnownBytes.{Appends}
use Rattle.hex.specs.Hex.{encode_lower}
use Rattle.otlp_relay.proofs.names.write_digits.Given as goal

-- the digits of the bytes below the index went out
abbrev pub invariant-loop-byte : goal.invariant-loop-byte
invariant-loop-byte g l =
    Appends (g.W.Write.contents l.initial.writer) (g.W.Write.contents l.writer)
    (encode_lower (take l.byte-index l.bytes))
