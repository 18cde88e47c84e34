-- A sender of bodies, and what follows from the attempts of a batch. (OTLP Specification, OTLP/HTTP
-- Response, OTLP/HTTP Throttling)
use Rattle.std.specs.Prelude.{◌≡◌, ◌≢◌, ℕ, ◌-◌, ◌^◌, ◌≤◌, nat_le, nat_lt, min, Bool, true, false}
use Rattle.std.specs.Prelude.{◌||◌, if◌then◌else◌, List, [], Option, None, Some}
use Rattle.model_desk.specs.Retries.{Fate, Next, Outcome, fate_of, next_of, give_up, attempts}
use Rattle.model_desk.specs.Waits.{RetryConfig, next_after}
use Rattle.model_body.specs.Names.{LostSpan, lost_names}

-- ---- settings

-- The waits between the attempts of a batch, and how many it has at most, if there is such a
-- number.
pub record SendConfig : Type 0 where
  pub retry : RetryConfig
  pub attempts : Option ℕ

-- whether there were as many attempts as are allowed
abbrev pub is_spent : Option ℕ → ℕ → Bool
is_spent None made = false
is_spent (Some most) made = nat_le most made

-- Whether the attempt after which there were so many is the last one. Where the waits are those of
-- a single attempt, each is. (profile)
abbrev pub is_last : SendConfig → ℕ → Bool
is_last config made = nat_le config.retry.attempts 1 || is_spent config.attempts made

-- What follows from the outcome of the attempt after which there were so many: what follows from
-- the last one, or else what follows from this one, where later ones are judged as the last but one
-- of those whose waits are set. (OTLP Specification, OTLP/HTTP Response; the latter: profile)
abbrev pub next_by : SendConfig → ℕ → Outcome → ℕ → ℕ → Next
next_by config made outcome now word =
    if is_last config made then next_of outcome
    else next_after config.retry (min made (config.retry.attempts - 1)) outcome now word

-- No attempt is the last one: no number is set, and the waits are those of several attempts.
-- (profile)
pub record HasNoLast (config : SendConfig) : Type 0 where
  pub unset : config.attempts ≡ None
  pub several : 2 ≤ config.retry.attempts

-- A batch is not given up for the number of its attempts.
abbrev pub GoesOn : SendConfig → Next → Type 0
GoesOn config next = HasNoLast config → next ≢ give_up attempts

-- ---- a sender

-- How far a sender is: it has no batch; or its batch is to be sent, or was sent, with this outcome,
-- which is to be judged; or the batch is to be sent again from this moment on, in nanoseconds since
-- 1970.
pub data Stage : Type 0 where
  no_batch to_send : Stage
  to_judge : Outcome → Stage
  to_retry : ℕ → Stage

-- whether it has a batch in hand
abbrev pub has_batch : Stage → Bool
has_batch no_batch = false
has_batch to_send = true
has_batch (to_judge outcome) = true
has_batch (to_retry moment) = false

-- whether an outcome is to be judged
abbrev pub is_pending : Stage → Bool
is_pending (to_judge outcome) = true
is_pending _ = false

-- The moment before which a batch is not sent again, where it has not come. (OTLP Specification,
-- OTLP/HTTP Throttling)
abbrev pub early_at : ℕ → Stage → Option ℕ
early_at now (to_retry moment) = if nat_lt now moment then Some moment else None
early_at now _ = None

-- How far it is once this follows. (OTLP Specification, OTLP/HTTP Throttling)
abbrev pub stage_by : Next → Stage
stage_by (Next.again moment) = to_retry moment
stage_by _ = no_batch

-- The settings of a sender, the bytes of the batch that it has in hand, the number of its last
-- batch, how many attempts that had, and how far it is. (numbers: profile)
pub record Sender : Type 0 where
  pub config : SendConfig
  pub body : List ℕ
  pub number : ℕ
  pub attempts : ℕ
  pub stage : Stage

-- One that is new.
abbrev pub new_sender : SendConfig → Sender
new_sender config =
    record { config = config; body = []; number = 0; attempts = 0; stage = no_batch }

-- One that has no batch in hand any more. (profile)
abbrev pub forgotten : Sender → Sender
forgotten sender =
    if has_batch sender.stage then record sender { body = []; stage = no_batch } else sender

-- A batch whose outcome is to be judged had an attempt, and without a batch there are no bytes.
pub record AreSound (stage : Stage) (made : ℕ) (body : List ℕ) : Type 0 where
  pub counted : is_pending stage ≡ true → 1 ≤ made
  pub empty : has_batch stage ≡ false → body ≡ []

-- counts of 32 and of 64 bits, which stop at their greatest number (profile)
abbrev pub capped_32 : ℕ → ℕ
capped_32 n = min n (2 ^ 32 - 1)

abbrev pub capped_64 : ℕ → ℕ
capped_64 n = min n (2 ^ 64 - 1)

-- ---- lost spans

-- The names of the spans of bodies that end by this, where they are lost by it, else none. (OTLP
-- Specification, OTLP/HTTP Response)
abbrev pub names_by : Option Fate → List (List ℕ) → List LostSpan
names_by None ended = []
names_by (Some fate) ended = lost_names fate ended

-- The same of bodies that end as this follows, if they do.
abbrev pub names_after : Next → List (List ℕ) → List LostSpan
names_after next ended = names_by (fate_of next) ended
