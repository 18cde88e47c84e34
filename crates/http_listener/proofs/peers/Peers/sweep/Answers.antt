use Rattle.http_listener.proofs.InTime.{in-time}
use Rattle.http_listener.proofs.Joining.{none-joins}
use Rattle.http_listener.proofs.peers.Peers.sweep.Goals as goal

pub returns-then-saturating_sub-ge-TICK_MS-clause-in_time :
    goal.returns-then-saturating_sub-ge-TICK_MS-clause-in_time
returns-then-saturating_sub-ge-TICK_MS-clause-in_time g c due key =
    in-time _ _ _ _ (c.sweep.ensures.judged key)

pub returns-then-saturating_sub-ge-TICK_MS-clause-joins :
    goal.returns-then-saturating_sub-ge-TICK_MS-clause-joins
returns-then-saturating_sub-ge-TICK_MS-clause-joins g c key none =
    none-joins _ _ _ _ (c.sweep.ensures.judged key) none
