use Rattle.std.proofs.Common.{◌≡◌, ◌++◌, map, length}
use Rattle.std.specs.Vec.Iter.{into_iter_items, into_iter_len}
use Rattle.otlp_span.specs.Parts.{scope_view}
use Rattle.trace_run.specs.Table.{tracers_of}
use Rattle.trace_run.proofs.table.tracers.Given as goal

-- The scopes so far have tracers.
abbrev pub invariant-loop-scope : goal.invariant-loop-scope
invariant-loop-scope g l =
    (l.tracers.items ++ tracers_of l.provider (map scope_view (into_iter_items l.scope-iterator))
    ≡ tracers_of l.provider (map scope_view (into_iter_items l.initial.scope-iterator)))
    × (into_iter_len l.scope-iterator ≡ length (into_iter_items l.scope-iterator))
