use Rattle.std.proofs.Common.{◌≡◌, ◌++◌}
use Rattle.trace_store.proofs.Groups.{AreOpen}
use Rattle.trace_store.proofs.group.group.Given as goal

-- the spans so far are in parts, of which the last one is open
abbrev pub invariant-loop-key : goal.invariant-loop-key
invariant-loop-key g l = record {
  rest : l.yielded ++ l.key-iterator.rest.items ≡ l.fn.spans.items;
  open_parts : AreOpen l.fn.spans.items l.yielded l.parts.items l.last;
}
