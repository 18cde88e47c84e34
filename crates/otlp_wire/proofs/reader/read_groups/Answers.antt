use Rattle.std.proofs.Common.{arith}
use Rattle.otlp_wire.proofs.VarintSteps.{begun-none, begun-more, is-truncated, is-long, is-number}
use Rattle.otlp_wire.proofs.reader.read_groups.Goals as goal

pub loop-i-init : goal.loop-i-init
loop-i-init c = begun-none c.args.bytes.now

pub returns-in_default : goal.returns-in_default
returns-in_default c =
    is-truncated _ _ _ _ c.loop-i.invariant c.loop-i-test.true c.in_default.ensures.lookup.3

pub returns-then-byte-lt128 : goal.returns-then-byte-lt128
returns-then-byte-lt128 c =
    is-number _ _ _ _ c.in-Some.byte.now _ c.loop-i.invariant c.loop-i-test.true
    c.in-Some.ensures.lookup.3.0
    (c.in-Some.ensures.lookup.4 (omega arith) 0) c.from.ensures c.if-byte-lt128.true

pub loop-i-preserved : goal.loop-i-preserved
loop-i-preserved c =
    begun-more _ _ _ _ c.in-Some.byte.now _ c.loop-i.invariant c.loop-i-test.true
    c.in-Some.ensures.lookup.3.0
    (c.in-Some.ensures.lookup.4 (omega arith) 0) c.from.ensures c.if-byte-lt128.false

pub returns : goal.returns
returns c = is-long _ _ _ _ c.loop-i.invariant c.loop-i-test.false
