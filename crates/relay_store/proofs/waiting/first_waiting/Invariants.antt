use Rattle.std.proofs.Common.{◌≡◌}
use Rattle.spool.specs.Spools.{numbered_from, waiting}
use Rattle.spool.specs.Settled.{IsSettled, device_of}
use Rattle.relay_store.proofs.Waits.{rest_waits}
use Rattle.relay_store.proofs.waiting.first_waiting.Given as goal

-- nothing waits in the files so far
abbrev pub invariant-loop-index : goal.invariant-loop-index
invariant-loop-index g l = record {
  settled : g.D.Device.is_known
      → IsSettled g.D.Device.files g.D.Device.moment g.D.Device.left_at l.spool;
  same : g.D.Device.is_known → g.D.Device.files (device_of l.spool)
      ≡ g.D.Device.files (device_of l.fn.spool);
  rest : g.D.Device.is_known
      → numbered_from l.fn.from (waiting (g.D.Device.files (device_of l.fn.spool)))
      ≡ rest_waits l.fn.from (g.D.Device.files (device_of l.fn.spool)) l.index;
}
