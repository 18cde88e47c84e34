-- What comes of an attempt to send a batch, and what follows from it. (OTLP Specification,
-- OTLP/HTTP Response)
use Rattle.std.specs.Prelude.{ℕ, ℤ, Option, Some, None}

-- when another attempt is welcome: in a number of seconds, or at a date, in seconds since 1970 (RFC
-- 9110, Retry-After)
pub data RetryAfter : Type 0 where
  seconds date : ℕ → RetryAfter

-- What came of an attempt. (OTLP Specification, OTLP/HTTP Response)
pub data Outcome : Type 0 where
  -- it was taken whole
  delivered : Outcome
  -- it was taken, but this number of spans were rejected
  partial : ℤ → Outcome
  -- a status that is to be tried again, and when
  later : ℕ → Option RetryAfter → Outcome
  -- any other status
  refused : ℕ → Outcome
  no_reply : Outcome
  -- a reply that is none
  bad : Outcome

-- why a batch is given up (profile)
pub data Cause : Type 0 where
  -- with this status
  refused : ℕ → Cause
  bad_reply : Cause
  -- there were as many attempts as are allowed
  attempts : Cause

-- what follows from an outcome (profile)
pub data Next : Type 0 where
  done : Next
  partial : ℤ → Next
  -- another attempt, not before this moment
  again : ℕ → Next
  give_up : Cause → Next

-- how a batch that was handed to the exporter is settled (profile)
pub data Fate : Type 0 where
  delivered : Fate
  partial : ℤ → Fate
  refused : ℕ → Fate
  bad_reply : Fate
  -- after as many attempts as are allowed
  given_up : Fate
  -- nobody sends it any more
  abandoned : Fate

-- What follows from the last attempt of a batch: it is not tried again. (OTLP Specification,
-- Retryable Response Codes, All Other Responses; giving up: profile)
abbrev pub next_of : Outcome → Next
next_of Outcome.delivered = done
next_of (Outcome.partial rejected) = Next.partial rejected
next_of (later status after) = give_up attempts
next_of (Outcome.refused status) = give_up (Cause.refused status)
next_of no_reply = give_up attempts
next_of bad = give_up Cause.bad_reply

-- how this settles the batch, if it does
abbrev pub fate_of : Next → Option Fate
fate_of done = Some Fate.delivered
fate_of (Next.partial rejected) = Some (Fate.partial rejected)
fate_of (again moment) = None
fate_of (give_up (Cause.refused status)) = Some (Fate.refused status)
fate_of (give_up Cause.bad_reply) = Some Fate.bad_reply
fate_of (give_up attempts) = Some given_up
