use Rattle.std.proofs.Common.{◌≡◌, ◌++◌}
use Rattle.std.specs.Vec.Iter.{into_iter_items}
use Rattle.otlp_value.specs.Value.{attributes_view}
use Rattle.otlp_span.specs.Pairs.{SetsPairs}
use Rattle.otlp_span.proofs.pairs.set_all.Given as goal

-- The pairs so far are set, and the others are to come.
abbrev pub invariant-loop-key : goal.invariant-loop-key
invariant-loop-key g l = record {
  all : l.fn.pairs.items ≡ l.yielded ++ into_iter_items l.key-iterator;
  set : SetsPairs (attributes_view l.yielded) l.fn.list l.list;
}
