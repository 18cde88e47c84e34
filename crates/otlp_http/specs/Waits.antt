-- How long a reply asks to wait before another attempt (RFC 9110, section 10.2.3).
use Rattle.std.specs.Prelude.{ℕ, ◌-◌, ◌^◌, List, [], ◌∷◌, min, if◌then◌else◌}
use Rattle.std.specs.Prelude.{Option, None, Some, option_map}
use Rattle.std.specs.Str.Parse.{digits_value}
use Rattle.httpdate.specs.Date.{parse_secs}
use Rattle.retry_core.specs.declared.outcome.RetryAfter.{RetryAfter}
use Rattle.retry_core.specs.declared.outcome.RetryAfter.TheVariants.{Seconds, Date}
use Rattle.http_wire.specs.Fields.{is_digits}

-- what a value of Retry-After says: a number of seconds, 2^64 - 1 where they are more (profile), or
-- a date; any other value says nothing
abbrev pub asked_wait : List ℕ → Option RetryAfter
asked_wait value =
    if is_digits value then Some (Seconds (min (digits_value 10 value) (2 ^ 64 - 1)))
    else option_map Date (parse_secs value)

-- what the first value of Retry-After says (profile)
abbrev pub retry_after : List (List ℕ) → Option RetryAfter
retry_after [] = None
retry_after (value ∷ values) = asked_wait value
