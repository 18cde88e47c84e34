use Rattle.std.proofs.Common.{◌≡◌, ◌<◌, None, false}
use Rattle.http_connection.specs.Connections.{whole_of}
use Rattle.http_listener.specs.Crowds.{IsLive}
use Rattle.http_listener.specs.Serving.{Serves, connection_of}
use Rattle.http_listener.proofs.peer.Peer.turn.Given as goal

-- the steps so far
abbrev pub invariant-loop-done : goal.invariant-loop-done
invariant-loop-done g l = record {
  served : Serves g.S.Service.answers g.P.Pieces.writes l.fn.service l.fn.self l.service l.self;
  lives : IsLive l.fn.self → IsLive l.self;
  limits : (connection_of l.self).limits ≡ (connection_of l.fn.self).limits;
  answered : l.pauses ≡ false → 0 < l._done → whole_of (connection_of l.self) ≡ None;
}
