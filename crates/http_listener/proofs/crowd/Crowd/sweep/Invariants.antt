use Rattle.std.proofs.Common.{◌≡◌}
use Rattle.http_listener.proofs.Sweeping.{AreSwept}
use Rattle.http_listener.proofs.crowd.Crowd.sweep.Given as goal

-- the peers with lower keys were judged
abbrev pub invariant-loop-key : goal.invariant-loop-key
invariant-loop-key g l = record {
  swept : AreSwept l.fn.self.settings.times l.now_ms l.key l.fn.self.peers l.self.peers;
  settings : l.self.settings ≡ l.fn.self.settings;
  listener : l.self.listener ≡ l.fn.self.listener;
}
