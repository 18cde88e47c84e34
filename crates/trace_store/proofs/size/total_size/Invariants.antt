use Rattle.std.proofs.Common.{◌≡◌, ◌+◌}
use Rattle.std.specs.Prelude.{sum_by}
use Rattle.trace_store.proofs.size.total_size.Given as goal

-- the bytes so far, and those of the spans that are left, are all
abbrev pub invariant-loop-span : goal.invariant-loop-span
invariant-loop-span g l =
    l.total + sum_by g.S.SpanSize.size_of l.span-iterator ≡ sum_by g.S.SpanSize.size_of l.fn.spans
