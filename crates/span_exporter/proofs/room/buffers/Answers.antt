use Rattle.std.proofs.Common.{arith}
use Rattle.span_exporter.proofs.Rooms.{one_more}
use Rattle.span_exporter.proofs.room.buffers.Goals as goal

pub loop-preserved : goal.loop-preserved
loop-preserved g c = record {
  count = omega arith;
  capacity = omega arith;
  buffers = rw c.push_reserved.ensures.items
      (one_more c.args.size c.loop.made.items c.in_ok-buffer.buffer c.loop.invariant.buffers
      (record { empty = c.in_ok-buffer.ensures.items; room = c.in_ok-buffer.ensures.capacity }));
}
