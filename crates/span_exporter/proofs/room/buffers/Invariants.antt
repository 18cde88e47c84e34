use Rattle.std.proofs.Common.{◌≡◌, vec_len, vec_capacity}
use Rattle.span_exporter.specs.Buffers.{AreBuffers}
use Rattle.span_exporter.proofs.room.buffers.Given as goal

abbrev pub invariant-loop : goal.invariant-loop
invariant-loop g l = record {
  count : vec_len l.made ≡ l.counter;
  capacity : vec_capacity l.made ≡ l.count;
  buffers : AreBuffers l.size l.made.items;
}
