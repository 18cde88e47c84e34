use Rattle.std.proofs.Common.{◌≡◌, ◌≤◌, ◌-◌, ◌⊎◌, ◌↔◌, [], IsTrue, length}
use Rattle.trace_store.specs.Stores.{Evicts, IsAccounted}
use Rattle.trace_store.specs.Traces.{byte_count}
use Rattle.trace_store.proofs.Rooms.{IsGiving}
use Rattle.trace_store.proofs.kept.Kept.make_room.Given as goal

-- those that went had to go, and nothing was received
abbrev pub invariant-loop-is_done : goal.invariant-loop-is_done
invariant-loop-is_done g l = record {
  giving : IsGiving g.S.SpanSize.size_of l.bytes l.fn.self.traces l.self.traces;
  named : Evicts l.fn.self.traces l.fn.self l.self;
  done : IsTrue l.is_done
      ↔ ((l.bytes ≤ l.before - byte_count g.S.SpanSize.size_of l.self.traces)
      ⊎ (l.self.traces ≡ []));
  accounted : IsAccounted l.self;
  received : l.self.received ≡ l.fn.self.received;
}

abbrev pub decreases-loop-is_done : goal.decreases-loop-is_done
decreases-loop-is_done g l = length l.self.traces
