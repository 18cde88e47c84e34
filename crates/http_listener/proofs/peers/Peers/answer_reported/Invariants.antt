use Rattle.std.proofs.Common.{◌≡◌}
use Rattle.http_listener.specs.Crowds.{NoneJoins}
use Rattle.http_listener.specs.Rounds.{end_of, peers_of, settings_of, swept_at}
use Rattle.http_listener.proofs.peers.Peers.answer_reported.Given as goal

-- none joins, and the rest is kept: the settings, the listener, and the moments
abbrev pub invariant-loop-event : goal.invariant-loop-event
invariant-loop-event g l = record {
  settings : l.self.1.0.settings ≡ settings_of l.fn.self;
  listener : l.self.1.0.listener ≡ l.fn.self.crowd.listener;
  joins : NoneJoins (peers_of l.fn.self) l.self.1.0.peers;
  swept : l.self.1.1.1.0 ≡ swept_at l.fn.self;
  end : l.self.1.1.1.1.0 ≡ end_of l.fn.self;
}
