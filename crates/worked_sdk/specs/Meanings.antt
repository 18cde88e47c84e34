-- What replies mean, with all that it computes by.
use Rattle.std.specs.Prelude.{ℕ, List, [], None, Ok}
use Rattle.std.specs.Str.{is_utf8, chars}
use lib.Utf8.{encode}
use Rattle.model_message.specs.Wire.{septets}
use Rattle.model_message.specs.Messages.{meaning}
use Rattle.model_desk.specs.Retries.{Outcome}
use Rattle.otlp_http.specs.Outcomes.{outcome_of, outcome_of_body}

-- what a body means that was taken, in a reply with a status from 200 to 299
unfoldable pub outcome_by : List ℕ → Outcome
unfolding meaning septets is_utf8 chars encode
outcome_by body = outcome_of_body (Ok body)

-- what a reply with this status means that has an empty body and asks for no wait
unfoldable pub outcome_at : ℕ → Outcome
unfolding meaning septets is_utf8 chars encode
outcome_at status = outcome_of (Ok (record { status = status; retry_after = None; body = Ok [] }))
