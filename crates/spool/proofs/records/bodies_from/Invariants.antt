use Rattle.std.proofs.Common.{◌≡◌, ◌+◌, ◌++◌, length}
use Rattle.spool.specs.Records.{contents, bodies, numbered}
use Rattle.spool.specs.Spools.{numbered_from}
use Rattle.spool.specs.Settled.{waiting_view}
use Rattle.spool.specs.Reading.{IsRead}
use Rattle.spool.proofs.records.bodies_from.Given as goal

abbrev pub invariant-loop-entry : goal.invariant-loop-entry
invariant-loop-entry l = record {
  read : IsRead l.bytes l.left l.records;
  found_are : waiting_view l.found.items
      ++ numbered_from l.from (numbered (l.number + l.records.place) (bodies (contents l.left)))
      ≡ numbered_from l.from (numbered l.number (bodies (contents l.bytes)));
}

abbrev pub decreases-loop-entry : goal.decreases-loop-entry
decreases-loop-entry l = length l.left
