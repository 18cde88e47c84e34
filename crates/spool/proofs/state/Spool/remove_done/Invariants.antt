use Rattle.std.proofs.Common.{◌≡◌, vec_len}
use Rattle.std.specs.Prelude.{IsSome}
use Rattle.spool.specs.Crashes.{LeavesOnly}
use Rattle.spool.specs.Settled.{IsSettled, IsNoted, IsNoLarger}
use Rattle.spool.proofs.state.Spool.remove_done.Given as goal

abbrev pub invariant-loop-self : goal.invariant-loop-self
invariant-loop-self g l = record {
  is_open : IsSome l.self.growing;
  settled : g.D.Device.is_known
      → IsSettled g.D.Device.files g.D.Device.moment g.D.Device.left_at l.self;
  noted : g.D.Device.is_known → IsNoted (g.D.Device.files l.self.device);
  done : l.self.done ≡ l.fn.self.done;
  next : l.self.next ≡ l.fn.self.next;
  growing : l.self.growing ≡ l.fn.self.growing;
  limit : l.self.limit ≡ l.fn.self.limit;
  same : g.D.Device.is_known
      → IsNoLarger (g.D.Device.files l.fn.self.device) (g.D.Device.files l.self.device);
  crash : g.D.Device.is_known
      → LeavesOnly g.D.Device.moment g.D.Device.left_at l.fn.self.device l.self.device
      (IsNoLarger (g.D.Device.files l.fn.self.device));
}

abbrev pub decreases-loop-self : goal.decreases-loop-self
decreases-loop-self g l = vec_len l.self.older
