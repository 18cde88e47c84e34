-- What a service does that adds the fields of the CORS protocol to another one's answers.
use Rattle.std.specs.Prelude.{◌≡◌, ℕ, List, Option}
use Rattle.http.specs.Request.{head_of}
use Rattle.http_connection.specs.Turns.{Turn, Admitted, Rejected, Answered, Refused}
use Rattle.http.specs.declared.request.Parts.{Parts as Head}
use Rattle.http_listener.specs.CorsFields.{AllowsKnown, AllowsOrigin}
use Rattle.http_listener.specs.declared.cors.Cors.{Cors}
use Rattle.http_server.specs.declared.response.Response.{Response}

module _ {S : Type 0} where
  -- the service whose answers they are
  abbrev pub service_of : Cors S → S
  service_of cors = cors.service

  -- the origins whose pages may post
  abbrev pub origins_of : Cors S → List (List ℕ)
  origins_of cors = cors.origins

  -- where they may post
  abbrev pub path_of : Cors S → List ℕ
  path_of cors = cors.path.now

-- It goes on with the same origins and the same path.
pub record GoesOn {S : Type 0} (old new : Cors S) : Type 0 where
  pub origins : origins_of new ≡ origins_of old
  pub path : path_of new ≡ path_of old

-- In each turn the service below does what it does, and fills a plain response; the answer is that,
-- with the fields for the request where its head is known.
abbrev pub Serves : {S P : Type 0} → (S → Turn P → S → Type 0) → Cors S → Turn P → Cors S → Type 0
Serves answers old (Admitted head) new =
    answers (service_of old) (Admitted head) (service_of new) × GoesOn old new
Serves answers old (Rejected head response) new = (plain : Response)
    × answers (service_of old) (Rejected head plain) (service_of new)
    × AllowsOrigin (origins_of old) (path_of old) (head_of head) plain response × GoesOn old new
Serves answers old (Answered request response rest) new = (plain : Response)
    × answers (service_of old) (Answered request plain rest) (service_of new)
    × AllowsOrigin (origins_of old) (path_of old) (head_of request) plain response
    × GoesOn old new
Serves answers old (Refused refusal response) new = (plain : Response) × (head : Option Head)
    × answers (service_of old) (Refused refusal plain) (service_of new)
    × AllowsKnown (origins_of old) (path_of old) head plain response × GoesOn old new
