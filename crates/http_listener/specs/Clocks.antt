-- How long a peer may wait. (profile)
use Rattle.std.specs.Prelude.{ℕ, ◌+◌, ◌≤◌, Bool, true, false}
use Rattle.http_listener.specs.declared.clock.Due.{Due}
use Rattle.http_listener.specs.declared.clock.Due.TheVariants.{Close, ShutDown}
use Rattle.http_listener.specs.declared.clock.PeerClock.{PeerClock}
use Rattle.http_listener.specs.declared.clock.Stage.{Stage}
use Rattle.http_listener.specs.declared.clock.Stage.TheVariants.{Idle, Receiving, Answering}
use Rattle.http_listener.specs.declared.clock.Stage.TheVariants.{Discarding, Closing}
use Rattle.http_listener.specs.declared.clock.StageTimes.{StageTimes}

-- the time that a peer may stay at a stage, in milliseconds
abbrev pub time_at : StageTimes → Stage → ℕ
time_at times Idle = times.idle_ms
time_at times Receiving = times.request_ms
time_at times Answering = times.answer_ms
time_at times Discarding = times.discard_ms
time_at times Closing = times.close_ms

-- an answer goes out there, or a request arrives, while an earlier one's answer may still go out
-- (RFC 9112, section 9.3.2)
abbrev pub is_of_requests : Stage → Bool
is_of_requests Receiving = true
is_of_requests Answering = true
is_of_requests _ = false

-- the peer is over its time: it has been at its stage for as long as it may, or for longer
abbrev pub IsOver : StageTimes → PeerClock → ℕ → Type 0
IsOver times clock now = clock.since_ms + time_at times clock.stage ≤ now

-- what is done with a peer that is over its time: the rest of a refused request is read no longer,
-- and its end is waited for (RFC 9112, section 9.6); at any other stage it is closed
abbrev pub due_at : Stage → Due
due_at Discarding = ShutDown
due_at _ = Close
