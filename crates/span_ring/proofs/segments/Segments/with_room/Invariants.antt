use Rattle.std.proofs.Common.{◌≡◌, length, vec_capacity}
use Rattle.span_ring.specs.Segments.{AreSpare}
use Rattle.span_ring.proofs.segments.Segments.with_room.Given as goal

-- this many spare segments are made
abbrev pub invariant-loop : goal.invariant-loop
invariant-loop g l = record {
  made : length l.spare.items ≡ l.counter;
  all_spare : AreSpare l.batch l.spare.items;
  capacity : vec_capacity l.spare ≡ l.spares;
}
