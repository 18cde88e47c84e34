-- When a batch is sent again. (OTLP Specification, Retryable Response Codes, OTLP/HTTP Throttling)
use Rattle.std.specs.Prelude.{ℕ, ◌+◌, ◌-◌, ◌*◌, ◌/◌, ◌%◌, ◌^◌, ◌≤◌, nat_lt, min, max, if◌then◌else◌}
use Rattle.std.specs.Prelude.{Option, Some, None}
use Rattle.std.specs.Option.{option_map_or}
use Rattle.model_desk.specs.Retries.{RetryAfter, seconds, date, Outcome, later, no_reply, Next}
use Rattle.model_desk.specs.Retries.{again, next_of}

-- How often a batch is sent, and how long the waits between are, in milliseconds. (OpenTelemetry
-- Protocol Exporter, Retry: exponential backoff with jitter; the numbers: profile)
pub record RetryConfig : Type 0 where
  -- the attempts that a batch has
  pub attempts : ℕ
  -- what the first wait is at most, and what any is where the collector asks for none
  pub initial_ms : ℕ
  pub max_ms : ℕ
  -- what any wait is at least, also one that the collector asks for
  pub least_ms : ℕ

-- the numbers that are taken (profile)
pub record IsRetryConfig (config : RetryConfig) : Type 0 where
  pub some : 1 ≤ config.attempts
  pub few : config.attempts ≤ 5
  pub positive : 1 ≤ config.initial_ms
  pub short : config.initial_ms ≤ 30000
  pub ordered : config.initial_ms ≤ config.max_ms
  pub bounded : config.max_ms ≤ 300000
  pub least : config.least_ms ≤ config.max_ms

-- After the first attempt the wait is at most the initial one, and after each later attempt at
-- most twice as long as after the one before it, up to the greatest. (profile)
abbrev pub longest_ms : RetryConfig → ℕ → ℕ
longest_ms config attempt = min (config.initial_ms * 2 ^ (attempt - 1)) config.max_ms

-- A random word takes off up to a half. (OpenTelemetry Protocol Exporter, Retry: jitter; how much:
-- profile)
abbrev pub backoff_ms : RetryConfig → ℕ → ℕ → ℕ
backoff_ms config attempt word =
    let longest = longest_ms config attempt in longest - word % (longest / 2 + 1)

-- a second, and the most that a reply is waited for, in nanoseconds (300 seconds: profile)
abbrev pub second : ℕ
second = 1000000000

abbrev pub greatest_wait : ℕ
greatest_wait = 300 * second

-- How long a wait is asked for after this attempt, in nanoseconds, from a moment on, which is in
-- nanoseconds since 1970: as the reply asks, in a number of seconds or until a date, or else the
-- backoff. (OTLP Specification, OTLP/HTTP Throttling; RFC 9110, Retry-After; with each status that
-- is tried again: profile)
abbrev pub asked_ns : RetryConfig → ℕ → Option RetryAfter → ℕ → ℕ → ℕ
asked_ns config attempt None now word = backoff_ms config attempt word * 1000000
asked_ns config attempt (Some (seconds n)) now word = min (n * second) greatest_wait
asked_ns config attempt (Some (date d)) now word = min (d * second - now) greatest_wait

-- How long the wait is: so long, but never shorter than the least. (profile)
abbrev pub wait_ns : RetryConfig → ℕ → Option RetryAfter → ℕ → ℕ → ℕ
wait_ns config attempt after now word =
    max (config.least_ms * 1000000) (asked_ns config attempt after now word)

-- the last moment that fits 64 bits (profile)
abbrev pub greatest_moment : ℕ
greatest_moment = 2 ^ 64 - 1

-- Whether an outcome is to be tried again, and what its reply asks for: a status that says so, or
-- no reply. (OTLP Specification, Retryable Response Codes; no reply: All Other Responses)
abbrev pub retried : Outcome → Option (Option RetryAfter)
retried (later status after) = Some after
retried no_reply = Some None
retried _ = None

-- What follows from the outcome of this attempt, the first one being 1: another one, as long as
-- there are attempts left. (OTLP Specification, OTLP/HTTP Response)
abbrev pub next_after : RetryConfig → ℕ → Outcome → ℕ → ℕ → Next
next_after config attempt outcome now word =
    if nat_lt attempt config.attempts
    then option_map_or
    (λ after. again (min (now + wait_ns config attempt after now word) greatest_moment))
    (retried outcome) (next_of outcome)
    else next_of outcome
