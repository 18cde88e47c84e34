-- How far a batch is on its way to an exporter. (Trace SDK, Span Exporter; OTLP Specification,
-- OTLP/HTTP Response)
use Rattle.std.specs.Prelude.{ℕ, ◌+◌, ◌<◌, ◌≤◌, Bool, true, false, List, length}
use Rattle.model_desk.specs.Retries.{Outcome}
use Rattle.model_desk.specs.Waits.{RetryConfig}

-- How far it is: its body is to be sent; or it was sent in this attempt, with this outcome; or it
-- had this number of attempts, and is to be sent again from this moment on, in nanoseconds since
-- 1970.
pub data Stage : Type 0 where
  to_send : Stage
  to_judge : ℕ → Outcome → Stage
  to_retry : ℕ → ℕ → Stage

-- A batch on its way: its number, its body, how often it is sent, and how far it is. (numbers:
-- profile)
pub record Sending : Type 0 where
  pub number : ℕ
  pub body : List ℕ
  pub retry : RetryConfig
  pub stage : Stage

-- how many attempts were made
abbrev pub attempts_at : Stage → ℕ
attempts_at to_send = 0
attempts_at (to_judge attempt outcome) = attempt
attempts_at (to_retry attempts moment) = attempts

-- whether one was made
abbrev pub is_sent_at : Stage → Bool
is_sent_at to_send = false
is_sent_at (to_judge attempt outcome) = true
is_sent_at (to_retry attempts moment) = true

-- whether an outcome is to be judged
abbrev pub is_pending_at : Stage → Bool
is_pending_at (to_judge attempt outcome) = true
is_pending_at _ = false

-- An attempt that was made is one of those configured, and where another follows, it was not the
-- last.
abbrev pub IsCountedAt : RetryConfig → Stage → Type 0
IsCountedAt retry to_send = Unit {0}
IsCountedAt retry (to_judge attempt outcome) = (1 ≤ attempt) × (attempt ≤ retry.attempts)
IsCountedAt retry (to_retry attempts moment) = (1 ≤ attempts) × (attempts < retry.attempts)

-- The exporter has room for what is left of its attempts. (profile)
abbrev pub HasRoom : (ℕ → ℕ) → Sending → Type 0
HasRoom room sending =
    sending.retry.attempts ≤ room (length sending.body) + attempts_at sending.stage
