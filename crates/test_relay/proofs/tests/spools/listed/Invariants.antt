use Rattle.spool.specs.Settled.{IsSettled}
use Rattle.test_relay.proofs.tests.spools.listed.Given as goal

abbrev pub invariant-loop-index : goal.invariant-loop-index
invariant-loop-index g l =
    g.D.Device.is_known → IsSettled g.D.Device.files g.D.Device.moment g.D.Device.left_at l.spool
