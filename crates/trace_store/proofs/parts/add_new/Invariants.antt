use Rattle.std.proofs.Common.{◌≡◌, ◌≤◌, ◌++◌, length, vec_len}
use Rattle.std.specs.Prelude.{vec_capacity}
use Rattle.trace_store.specs.Parts.{ArePartway}
use Rattle.trace_store.proofs.parts.add_new.Given as goal

-- the new ones of the parts so far were added, and there is room for all others
abbrev pub invariant-loop-part : goal.invariant-loop-part
invariant-loop-part g l = record {
  rest : l.yielded ++ l.part-iterator.rest.items ≡ l.fn.parts.items;
  room : vec_len l.others ≤ length l.yielded;
  capacity : length l.fn.parts.items ≤ vec_capacity l.others;
  partway : ArePartway l.fn.traces.entries l.yielded l.traces.entries l.others.items;
  cap : l.traces.cap ≡ l.fn.traces.cap;
}
