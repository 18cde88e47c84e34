use Rattle.std.proofs.Common.{◌≡◌, ◌↔◌, IsTrue, length}
use Rattle.trace_store.specs.Stores.{AreNewest, AreWithin, Evicts, IsAccounted}
use Rattle.trace_store.proofs.kept.Kept.evict.Given as goal

-- the newest are left, and nothing was received
abbrev pub invariant-loop-is_within : goal.invariant-loop-is_within
invariant-loop-is_within g l = record {
  newest : AreNewest g.S.SpanSize.size_of l.limits.max_spans l.limits.max_bytes l.fn.self.traces
      l.self.traces;
  named : Evicts l.fn.self.traces l.fn.self l.self;
  within : IsTrue l.is_within
      ↔ AreWithin g.S.SpanSize.size_of l.limits.max_spans l.limits.max_bytes l.self.traces;
  accounted : IsAccounted l.self;
  received : l.self.received ≡ l.fn.self.received;
}

abbrev pub decreases-loop-is_within : goal.decreases-loop-is_within
decreases-loop-is_within g l = length l.self.traces
