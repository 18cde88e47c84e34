-- A service whose answers say when they were made. (RFC 9110, section 6.6.1)
use Rattle.std.specs.Prelude.{◌≡◌, ◌⊎◌, ℕ}
use Rattle.http_connection.specs.Turns.{Turn, Admitted, Rejected, Answered, Refused}
use Rattle.http_server.specs.declared.response.Response.{Response}
use Rattle.http_connection.specs.Dates.{SaysDate}
use Rattle.http_listener.specs.declared.dated.Dated.{Dated}

-- The response as it was, or with the moment at which it was made.
abbrev pub MayBeDated : Response → Response → Type 0
MayBeDated plain response = (response ≡ plain) ⊎ ((at : ℕ) × SaysDate at plain response)

-- In each turn the service below does what it does, and fills a plain response; the answer is that,
-- with the moment at which it was made.
abbrev pub Serves : {S R P : Type 0} → (S → Turn P → S → Type 0) → Dated S R → Turn P → Dated S R
    → Type 0
Serves answers old (Admitted head) new = answers old.service (Admitted head) new.service
Serves answers old (Rejected head response) new = (plain : Response)
    × answers old.service (Rejected head plain) new.service × MayBeDated plain response
Serves answers old (Answered request response rest) new = (plain : Response)
    × answers old.service (Answered request plain rest) new.service × MayBeDated plain response
Serves answers old (Refused refusal response) new = (plain : Response)
    × answers old.service (Refused refusal plain) new.service × MayBeDated plain response
