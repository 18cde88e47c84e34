-- The peers of a server, by their keys: who is closed, and when. (profile)
use Rattle.std.specs.Prelude.{◌≡◌, ◌≢◌, ◌⊎◌, ◌+◌, ◌<◌, ◌≤◌, ◌^◌, ◌-◌, ℕ, Bool, true, false, List}
use Rattle.std.specs.Prelude.{[], ◌∷◌, if◌then◌else◌, Option, Some, None, IfSome, IsSome, min}
use Rattle.std.specs.List.{flat_map}
use Rattle.slab.specs.Slab.{Slab, Updates, entries, get, slab_len}
use Rattle.http_connection.specs.Connections.{held_of, phase_of}
use Rattle.http_connection.specs.declared.limits.Phase.TheVariants.{Done}
use Rattle.http_listener.specs.Clocks.{IsOver, due_at}
use Rattle.http_listener.specs.Waiting.{IsLongest}
use Rattle.http_listener.specs.declared.clock.Due.TheVariants.{Close, ShutDown}
use Rattle.http_listener.specs.declared.clock.PeerClock.{PeerClock}
use Rattle.http_listener.specs.declared.clock.Stage.{Stage}
use Rattle.http_listener.specs.declared.clock.Stage.TheVariants.{Idle, Closing}
use Rattle.http_listener.specs.declared.clock.StageTimes.{StageTimes}
use Rattle.http_listener.specs.declared.longest.Waiter.{Waiter}
use Rattle.http_listener.specs.declared.peer.Peer.{Peer}

-- no byte of a request has come there
abbrev pub is_idle : Stage → Bool
is_idle Idle = true
is_idle _ = false

-- a peer at a stage is looked at: each one is, or those without a request
abbrev pub is_looked_at : Bool → Stage → Bool
is_looked_at false stage = true
is_looked_at true stage = is_idle stage

module _ {T P : Type 0} where
  -- the clock of a peer
  abbrev pub clock_of : Peer T P → PeerClock
  clock_of peer = peer.clock

  -- its connection hasn't ended
  abbrev pub IsLive : Peer T P → Type 0
  IsLive peer = phase_of peer.connection ≢ Done

  -- since when a peer waits
  abbrev pub waiter_of : ℕ × Peer T P → Waiter
  waiter_of entry = record { key = entry.0; since_ms = entry.1.clock.since_ms }

  -- the same where it is looked at
  abbrev pub waiter_in : Bool → ℕ × Peer T P → List Waiter
  waiter_in only_idle entry =
      if is_looked_at only_idle entry.1.clock.stage then waiter_of entry ∷ [] else []

  abbrev pub waiters_of : Bool → List (ℕ × Peer T P) → List Waiter
  waiters_of only_idle peers = flat_map (waiter_in only_idle) peers

  -- the one that has waited longest of those is closed, if there is one, and no other
  abbrev pub IsWithout : Option Waiter → Slab (Peer T P) → Slab (Peer T P) → Type 0
  IsWithout None old new = new ≡ old
  IsWithout (Some waiter) old new = Updates old new waiter.key None

  pub record Sheds (only_idle : Bool) (old new : Slab (Peer T P)) : Type 0 where
    pub found : Option Waiter
    pub longest : IsLongest (waiters_of only_idle (entries old)) found
    pub closed : IsWithout found old new

  -- the peers stay, and those that joined did so at this moment
  pub record Joins (now : ℕ) (old new : Slab (Peer T P)) : Type 0 where
    pub kept : (key : ℕ) → IsSome (get old key) → get new key ≡ get old key
    pub joined : (key : ℕ) → get old key ≡ None
        → IfSome (get new key) (λ peer. peer.clock ≡ record { stage = Idle; since_ms = now })

  -- none joins: where there was none at a key, there is none
  abbrev pub NoneJoins : Slab (Peer T P) → Slab (Peer T P) → Type 0
  NoneJoins old new = (key : ℕ) → get old key ≡ None → get new key ≡ None

  -- one is taken: where there are as many as there may be, another one is closed for it
  pub record Takes (most now : ℕ) (old new : Slab (Peer T P)) : Type 0 where
    pub rest : Slab (Peer T P)
    pub full : most ≤ slab_len old → Sheds false old rest
    pub fits : slab_len old < most → rest ≡ old
    pub joins : Joins now rest new

  -- writing to a peer was shut down at a moment, from which its end is waited for
  pub record IsShut (now : ℕ) (peer after : Peer T P) : Type 0 where
    pub connection : after.connection ≡ peer.connection
    pub clock : IsLive peer → peer.clock.stage ≢ Closing
        → after.clock ≡ record { stage = Closing; since_ms = now }

  -- so it was, or the system refused that and the peer was closed
  abbrev pub ShutAt : ℕ → Option (Peer T P) → Option (Peer T P) → Type 0
  ShutAt now None after = after ≡ None
  ShutAt now (Some peer) after = IfSome after (IsShut now peer)

  -- What is left of a peer that is judged at a moment: all of it where it isn't over its time, and
  -- else nothing, or, where the rest of a refused request was read, it with writing shut down (and
  -- nothing where the system refuses that).
  pub record IsJudged (times : StageTimes) (now : ℕ) (peer : Peer T P) (after : Option (Peer T P))
      : Type 0 where
    pub waits : ¬ IsOver times peer.clock now → after ≡ Some peer
    pub closed : IsOver times peer.clock now → due_at peer.clock.stage ≡ Close → after ≡ None
    pub shut : IsOver times peer.clock now → due_at peer.clock.stage ≡ ShutDown
        → IfSome after (IsShut now peer)

  abbrev pub JudgedAt : StageTimes → ℕ → Option (Peer T P) → Option (Peer T P) → Type 0
  JudgedAt times now None after = after ≡ None
  JudgedAt times now (Some peer) after = IsJudged times now peer after

  -- each one is judged
  abbrev pub AreJudged : StageTimes → ℕ → Slab (Peer T P) → Slab (Peer T P) → Type 0
  AreJudged times now old new = (key : ℕ) → JudgedAt times now (get old key) (get new key)

  -- a peer has time left, or waits for the client's end from now on
  abbrev pub IsInTime : StageTimes → ℕ → Peer T P → Type 0
  IsInTime times now peer = (¬ IsOver times peer.clock now)
      ⊎ (IsLive peer → peer.clock ≡ record { stage = Closing; since_ms = now })

  -- each one does
  abbrev pub AreInTime : StageTimes → ℕ → Slab (Peer T P) → Type 0
  AreInTime times now peers = (key : ℕ) → IfSome (get peers key) (IsInTime times now)

  -- how many bytes the connection at a key holds, as far as that can be counted
  abbrev pub held_by : Option (Peer T P) → ℕ
  held_by None = 0
  held_by (Some peer) = min (held_of peer.connection) (2 ^ 64 - 1)

  -- what is at other keys stays as it is
  abbrev pub SameBeside : ℕ → Slab (Peer T P) → Slab (Peer T P) → Type 0
  SameBeside key old new = (other : ℕ) → other ≢ key → get new other ≡ get old other

  -- The bytes that are held were those of the connection at a key and others: now they are what it
  -- holds now, and those others.
  abbrev pub Counts : ℕ → Slab (Peer T P) → ℕ → Slab (Peer T P) → ℕ → Type 0
  Counts key old held new after = (others : ℕ) → held ≡ held_by (get old key) + others
      → held_by (get new key) + others < 2 ^ 64 → after ≡ held_by (get new key) + others
