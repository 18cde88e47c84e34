-- What the connection of a peer does with the service.
use Rattle.std.specs.Prelude.{◌≡◌, ℕ, List, IfSome}
use Rattle.http_connection.specs.declared.connection.Connection.{Connection}
use Rattle.http_connection.specs.Connections.{max_body_of, phase_of, place_of}
use Rattle.http_connection.specs.Runs.{Act, Chain, Place}
use Rattle.http_connection.specs.Turns.{Turn}
use Rattle.http_listener.specs.Stages.{stage_at}
use Rattle.http_listener.specs.declared.peer.Peer.{Peer}

-- the connection of a peer
abbrev pub connection_of : {T P : Type 0} → Peer T P → Connection P
connection_of peer = peer.connection

-- its clock is at the stage that its connection is at
abbrev pub IsSeen : {T P : Type 0} → Peer T P → Type 0
IsSeen peer = IfSome (stage_at (phase_of peer.connection) peer.is_shut)
    (λ stage. peer.clock.stage ≡ stage)

-- some acts lead from one state of the service and place of a connection to another, one after
-- another, where a body has at most this number of bytes
pub record Leads {S P : Type 0} (answers : S → Turn P → S → Type 0) (writes : P → List ℕ → Type 0)
    (most : ℕ) (s : S) (place : Place P) (t : S) (after : Place P) : Type 0 where
  pub acts : List (Act P)
  pub chain : Chain answers writes most s place acts t after

-- from one state of the service and of a peer to another
abbrev pub Serves : {S T P : Type 0} → (S → Turn P → S → Type 0) → (P → List ℕ → Type 0) → S
    → Peer T P → S → Peer T P → Type 0
Serves answers writes s old t new = Leads answers writes (max_body_of (connection_of old))
    s (place_of (connection_of old)) t (place_of (connection_of new))
