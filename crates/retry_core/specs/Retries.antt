-- What outcomes of attempts, what follows from them, and how batches end are in the model.
use Rattle.std.specs.Prelude.{ℕ, option_map}
use Rattle.model_desk.specs.Retries as model
use Rattle.model_desk.specs.Waits as waiting
use Rattle.retry_core.specs.declared.outcome.Outcome.{Outcome}
use Rattle.retry_core.specs.declared.outcome.Outcome.TheVariants as outcomes
use Rattle.retry_core.specs.declared.outcome.RetryAfter.{RetryAfter}
use Rattle.retry_core.specs.declared.outcome.RetryAfter.TheVariants as waits
use Rattle.retry_core.specs.declared.next.Next.{Next}
use Rattle.retry_core.specs.declared.next.Next.TheVariants as nexts
use Rattle.retry_core.specs.declared.next.Cause.{Cause}
use Rattle.retry_core.specs.declared.next.Cause.TheVariants as causes
use Rattle.retry_core.specs.declared.fate.Fate.{Fate}
use Rattle.retry_core.specs.declared.fate.Fate.TheVariants as fates

abbrev pub retry_after_view : RetryAfter → model.RetryAfter
retry_after_view (waits.Seconds seconds) = model.seconds seconds
retry_after_view (waits.Date date) = model.date date

abbrev pub outcome_view : Outcome → model.Outcome
outcome_view outcomes.Delivered = model.Outcome.delivered
outcome_view (outcomes.Partial rejected) = model.Outcome.partial rejected
outcome_view (outcomes.Later status after) = model.later status (option_map retry_after_view after)
outcome_view (outcomes.Refused status) = model.Outcome.refused status
outcome_view outcomes.NoReply = model.no_reply
outcome_view outcomes.Bad = model.bad

abbrev pub cause_view : Cause → model.Cause
cause_view (causes.Refused status) = model.Cause.refused status
cause_view causes.BadReply = model.Cause.bad_reply
cause_view causes.Attempts = model.attempts

abbrev pub next_view : Next → model.Next
next_view nexts.Done = model.done
next_view (nexts.Partial rejected) = model.Next.partial rejected
next_view (nexts.Again moment) = model.again moment
next_view (nexts.GiveUp cause) = model.give_up (cause_view cause)

abbrev pub fate_view : Fate → model.Fate
fate_view fates.Delivered = model.Fate.delivered
fate_view (fates.Partial rejected) = model.Fate.partial rejected
fate_view (fates.Refused status) = model.Fate.refused status
fate_view fates.BadReply = model.Fate.bad_reply
fate_view fates.GivenUp = model.given_up
fate_view fates.Abandoned = model.abandoned

-- what may be set before a least wait is (profile)
abbrev pub without_least : ℕ → ℕ → ℕ → waiting.RetryConfig
without_least attempts initial_ms max_ms =
    record { attempts = attempts; initial_ms = initial_ms; max_ms = max_ms; least_ms = 0 }

-- five attempts, waits of at most 1 second first and of at most 30 seconds where no reply asks for
-- one, and no least wait (profile)
abbrev pub default_retry : waiting.RetryConfig
default_retry = without_least 5 1000 30000
