use Rattle.std.proofs.Common.{◌≡◌, ◌+◌, ◌≤◌, length}
use Rattle.model_span.specs.Dropped.{count_of_reason}
use Rattle.otlp_span.specs.Dropped.{reason_view}
use Rattle.drop_ledger.proofs.ledger.count_in.Given as goal

-- those that were counted, and those that are left, are all
abbrev pub invariant-loop-entry : goal.invariant-loop-entry
invariant-loop-entry g l =
    ((goal.iterator-loop-entry g).can_next l.entry-iterator) ×
    ((goal.iterator-loop-entry g).is_finite l.entry-iterator) ×
    (l.count + count_of_reason (reason_view l.fn.reason) l.entry-iterator
    ≡ count_of_reason (reason_view l.fn.reason) l.fn.entries) ×
    (l.count + length l.entry-iterator ≤ l.fn.len)
