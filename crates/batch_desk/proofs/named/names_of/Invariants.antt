use Rattle.std.proofs.Common.{◌≡◌, ◌+◌, ◌++◌, length}
use Rattle.std.specs.Prelude.{map, reverse}
use Rattle.model_span.specs.Dropped.{entry_of}
use Rattle.otlp_span.specs.Dropped.{reason_view}
use Rattle.batch_desk.proofs.named.names_of.Given as goal

-- the names so far, the oldest first, and those of what is left, are all
abbrev pub invariant-loop : goal.invariant-loop
invariant-loop g l = record {
  ledger : reverse l.newest_first ++ map (entry_of (reason_view l.reason)) l.run.items
      ≡ map (entry_of (reason_view l.reason)) l.initial.run.items;
  room : l.run.room ≡ l.initial.run.room;
  named : length l.newest_first ≡ l.counter;
  left : l.counter + length l.run.items ≡ length l.initial.run.items;
}
