use Rattle.std.proofs.Common.{arith}
use Rattle.span_ring.proofs.Steps.{pushed, spare_to_fill}
use Rattle.span_ring.proofs.ring.SpanRing.push.Goals as goal

pub make_room-requires-clause-there : goal.make_room-requires-clause-there
make_room-requires-clause-there g c filled =
    let r = c.self.inside in let s = r.segments in
    spare_to_fill r.queue r.batch s.full.items s.filling s.spare.items r.len r.run_out
    c.self.invariant.0 c.if-self.false filled

-- the item is in the segment that is being filled
pub invariant_of-self : goal.invariant_of-self
invariant_of-self g c =
    let r = c.self.inside in
    let s = r.segments in
    let now = c.make_room.new.self in
    let made = c.make_room.ensures in
    rw c.push.ensures (
      pushed r.queue r.batch s.full.items s.filling s.spare.items r.len now.full.items now.filling
          now.spare.items r.run_out c.args.item
          c.self.invariant.0 c.if-self.false made.items made.all_full made.filling made.all_spare
          made.count,
      omega (arith, c.self.invariant.1, made.count, made.full_capacity),
      omega (arith, c.self.invariant.2, made.count, made.spare_capacity),
    )
