use Rattle.std.proofs.Common.{subst}
use Rattle.std.specs.Io.KnownBytes.{Appends}
use Rattle.otlp_relay.proofs.Digits.{none-yet, one-more}
use Rattle.otlp_relay.proofs.names.write_digits.Goals as goal

pub loop-byte-init : goal.loop-byte-init
loop-byte-init g c = none-yet (g.W.Write.contents c.args.writer.now) c.args.bytes.now

pub loop-byte-preserved : goal.loop-byte-preserved
loop-byte-preserved g c =
    let contents = g.W.Write.contents in
    one-more (contents c.args.writer.now) (contents c.loop-byte.writer)
    (contents c.write_all.new.self) c.args.bytes.now c.loop-byte.byte-index 0
    c.loop-byte-test.true c.loop-byte.invariant
    (subst (Appends (contents c.loop-byte.writer) (contents c.write_all.new.self))
    c.digits_of.ensures c.in_ok-write_all.ensures.bytes)
