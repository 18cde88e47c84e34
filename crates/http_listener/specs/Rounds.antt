-- What the rounds of a server change. (profile)
use Rattle.std.specs.Prelude.{◌≡◌, ◌⊎◌, ◌≤◌, ℕ, Option, None, Some}
use Rattle.mio.specs.declared.net.stream.TcpStream.{TcpStream}
use Rattle.slab.specs.Slab.{Slab, slab_len}
use Rattle.http_listener.specs.declared.peer.Peer.{Peer}
use Rattle.http_listener.specs.declared.peers.Peers.{Peers}
use Rattle.http_listener.specs.declared.settings.Settings.{Settings}

-- no more is to be done at a moment for peers with this end: there is one, and either it has come
-- or none of them is left
abbrev pub IsOverAt : {P : Type 0} → Option ℕ → ℕ → Slab (Peer TcpStream P) → Type 0
IsOverAt None now peers = ⊥
IsOverAt (Some end) now peers = (end ≤ now) ⊎ (slab_len peers ≡ 0)

module _ {R P : Type 0} where
  -- how the peers are served
  abbrev pub settings_of : Peers R P → Settings
  settings_of peers = peers.crowd.settings

  -- the peers, by their keys
  abbrev pub peers_of : Peers R P → Slab (Peer TcpStream P)
  peers_of peers = peers.crowd.peers

  -- the moment at which those over their time were looked for last, in milliseconds
  abbrev pub swept_at : Peers R P → ℕ
  swept_at peers = peers.swept_ms

  -- the moment at which what was begun is waited for no longer, where it was stopped
  abbrev pub end_of : Peers R P → Option ℕ
  end_of peers = peers.ends_ms

  -- no further peer is accepted: nothing listens
  abbrev pub HasStopped : Peers R P → Type 0
  HasStopped peers = peers.crowd.listener ≡ None

  -- no more is to be done at a moment for the peers of a server
  abbrev pub IsDone : ℕ → Peers R P → Type 0
  IsDone now peers = IsOverAt (end_of peers) now (peers_of peers)
