-- What a service does for a connection.
use Rattle.std.specs.Prelude.{ℕ, Bool, List, Option, if◌then◌else◌}
use Rattle.http.specs.declared.request.Request.{Request}
use Rattle.http_server.specs.declared.response.Response.{Response}
use Rattle.http_connection.specs.declared.limits.Refusal.{Refusal}

-- A request was let in by its head, or answered and refused by its head; a whole request was
-- answered, by a response and the pieces that go on with its body; or what the connection refuses
-- was answered.
pub data Turn (P : Type 0) : Type 0 where
  Admitted : Request (List ℕ) → Turn P
  Rejected : Request (List ℕ) → Response → Turn P
  Answered : Request (List ℕ) → Response → Option P → Turn P
  Refused : Refusal → Response → Turn P

-- a request that was judged by its head
abbrev pub judged : {P : Type 0} → Bool → Request (List ℕ) → Response → Turn P
judged admitted head response = if admitted then Admitted head else Rejected head response
