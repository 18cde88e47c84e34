use Rattle.std.proofs.Common.{arith, ◌≡◌, sym, ap, subst, ℕ, ◌<◌, length}
use Rattle.model_message.specs.Canon.{shortest}
use Rattle.otlp_wire.specs.Writing.{IsLeastSize, IsReachedSize}
use Rattle.otlp_wire.proofs.Groups.{low_groups, high_groups, shortest-least, shortest-reached}
use Rattle.otlp_wire.proofs.varint_size.Invariants.{Counted}
use Rattle.otlp_wire.proofs.varint_size.Goals as goal

pub loop-uncounted-init : goal.loop-uncounted-init
unfolding shortest
loop-uncounted-init c = record {
  room = 9;
  in_range = omega (arith, c.ranges.value.fits);
  positive = omega arith;
  in_room = omega arith;
  whole = omega arith;
}

pub loop-uncounted-preserved : goal.loop-uncounted-preserved
loop-uncounted-preserved c =
    let i = c.loop-uncounted.invariant in
    let more =
    high_groups i.room c.loop-uncounted.uncounted c.loop-uncounted-test.true i.in_range in
    record {
      room = more.less;
      in_range = more.in_range;
      positive = omega arith;
      in_room = omega (arith, more.one_less);
      whole = omega (arith, ap length more.first);
    }

-- At the last group, the count is the size of the shortest varint.
all-counted : (value size rest : ℕ) → Counted value size rest → rest < 128
    → length (shortest value) ≡ size
all-counted value size rest i l = omega (arith, i.whole, ap length (low_groups i.room rest l))

pub returns-clause-least : goal.returns-clause-least
returns-clause-least c =
    subst (IsLeastSize c.args.value)
    (all-counted _ _ _ c.loop-uncounted.invariant c.loop-uncounted-test.false)
    (shortest-least c.args.value)

pub returns-clause-reached : goal.returns-clause-reached
returns-clause-reached c =
    subst (IsReachedSize c.args.value)
    (all-counted _ _ _ c.loop-uncounted.invariant c.loop-uncounted-test.false)
    (shortest-reached c.args.value c.ranges.value.fits)

pub returns-clause-size : goal.returns-clause-size
returns-clause-size c =
    sym (all-counted _ _ _ c.loop-uncounted.invariant c.loop-uncounted-test.false)
