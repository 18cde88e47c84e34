use Rattle.std.proofs.Common.{◌≡◌}
use Rattle.http_listener.proofs.crowd.Crowd.accept_at.Given as goal

-- the settings are kept
abbrev pub invariant-loop-accepted : goal.invariant-loop-accepted
invariant-loop-accepted g l = l.self.settings ≡ l.fn.self.settings
