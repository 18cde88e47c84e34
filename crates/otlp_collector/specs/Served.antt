-- What the program prints. (profile)
use Rattle.std.specs.Prelude.{◌≡◌, ◌≢◌, ℕ, ◌+◌, List, [], ◌∷◌, ◌++◌, length, All, Option, Some}
use Rattle.std.specs.Prelude.{None, codes, decimal, option_map}
use Rattle.std.specs.Option.{option_map_or}
use Rattle.std.specs.Io.KnownBytes.{Appends}
use Rattle.model_message.specs.Messages.{triples}
use Rattle.model_message.specs.Tables
use Rattle.model_message.specs.Tables.{Message}
use Rattle.http_wire.specs.declared.limits.HeadLimits.{HeadLimits}
use Rattle.otlp_read.specs.Requests.{request_view}
use Rattle.otlp_collector.specs.Answering.{Serves, Breaks}
use Rattle.otlp_collector.specs.declared.connection.Answered.{Answered}
use Rattle.otlp_collector.specs.Lines.{spans_text}
use Rattle.otlp_collector.specs.Printed.{AppendsFront}

-- the line that says the port, up to its end (10)
abbrev pub listening_line : ℕ → List ℕ
listening_line port = codes "listening " ++ (decimal port ++ 10 ∷ [])

-- ---- a connection

-- what became of a connection: the status that it was answered, if it was, and the request that was
-- taken, if one was
pub record Outcome : Type 0 where
  pub status : Option ℕ
  pub request : Option (Message Tables.request)

-- what became of a connection, as the code says it
abbrev pub outcome_view : {A : Type 0} → Answered A → Outcome
outcome_view a = record { status = a.status; request = option_map request_view a.request }

-- nothing was answered
abbrev pub no_outcome : Outcome
no_outcome = record { status = None; request = None }

-- the status, or `none`
abbrev pub status_word : Option ℕ → List ℕ
status_word None = codes "none"
status_word (Some status) = decimal status

-- the line of the connection with this number, a space (32) before its status
abbrev pub connection_line : ℕ → Option ℕ → List ℕ
connection_line number status = codes "connection "
    ++ (decimal number ++ (32 ∷ (status_word status ++ 10 ∷ [])))

-- the line of a connection, and those of the spans of its request
abbrev pub connection_text : ℕ → Outcome → List ℕ
connection_text number outcome = connection_line number outcome.status
    ++ option_map_or (λ request. spans_text (triples request)) outcome.request []

-- What came is served so. Where the reply broke off, there was no whole one: that counts as none,
-- and the spans of its request are not printed.
pub data HasOutcome (limits : HeadLimits) (old new : Option (List ℕ)) (before after : ℕ)
    (written writes : Option (List ℕ)) (outcome : Outcome) : Type 0 where
  whole : Serves limits None old new before after written writes outcome.status outcome.request
      → HasOutcome limits old new before after written writes outcome
  broken : (sent : ℕ) → Breaks limits None old new before after written writes sent
      → outcome ≡ no_outcome
      → HasOutcome limits old new before after written writes outcome

-- The connection is served so, and what is known of the output gained its text.
pub record PrintsServed (limits : HeadLimits) (number : ℕ) (old new : Option (List ℕ))
    (before after : ℕ) (written writes printed prints : Option (List ℕ)) : Type 0 where
  pub outcome : Outcome
  pub is : HasOutcome limits old new before after written writes outcome
  pub gained : Appends printed prints (connection_text number outcome)

-- The connection is served so, and what is known of the output gained a front of its text.
pub record PrintsServedFront (limits : HeadLimits) (number : ℕ) (old new : Option (List ℕ))
    (before after : ℕ) (written writes printed prints : Option (List ℕ)) : Type 0 where
  pub outcome : Outcome
  pub is : HasOutcome limits old new before after written writes outcome
  pub front : AppendsFront printed prints (connection_text number outcome)

-- ---- the program

-- what is read of a request: heads as `HeadLimits::default` has them, and bodies up to the limit
abbrev pub collector_limits : ℕ → HeadLimits
collector_limits max_body = record { head = 16_384; fields = 64; body = max_body }

-- It is what can become of a connection: there was none, or none that could be made ready; or it
-- was served so, whatever came over it.
pub data MayBecome (limits : HeadLimits) (outcome : Outcome) : Type 0 where
  nothing : outcome ≡ no_outcome → MayBecome limits outcome
  served : (old new : Option (List ℕ)) (before after : ℕ) (written writes : Option (List ℕ))
      → HasOutcome limits old new before after written writes outcome
      → MayBecome limits outcome

-- what is known of the output gained the text of what can become of the connection with this number
pub record PrintsOne (limits : HeadLimits) (number : ℕ) (old new : Option (List ℕ)) : Type 0 where
  pub outcome : Outcome
  pub is : MayBecome limits outcome
  pub gained : Appends old new (connection_text number outcome)

-- the texts of connections, which are counted from this number
abbrev pub connections_text : ℕ → List Outcome → List ℕ
connections_text number [] = []
connections_text number (outcome ∷ rest) =
    connection_text number outcome ++ connections_text (number + 1) rest

-- what is known of the output gained the texts of what can become of this many connections
pub record PrintsConnections (limits : HeadLimits) (count : ℕ) (old new : Option (List ℕ))
    : Type 0 where
  pub outcomes : List Outcome
  pub many : length outcomes ≡ count
  pub each : All (MayBecome limits) outcomes
  pub gained : Appends old new (connections_text 1 outcomes)

-- It gained the line of the port, which is the one that was asked for where that isn't 0, and
-- after it the texts of what can become of this many connections, with bodies up to the limit.
pub record PrintsAll (port count max_body : ℕ) (old new : Option (List ℕ)) : Type 0 where
  pub told : ℕ
  pub named : port ≢ 0 → told ≡ port
  pub outcomes : List Outcome
  pub many : length outcomes ≡ count
  pub each : All (MayBecome (collector_limits max_body)) outcomes
  pub gained : Appends old new (listening_line told ++ connections_text 1 outcomes)
