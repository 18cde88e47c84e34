-- What an attempt met that didn't deliver its batch, as a person may ask for it. (OTLP
-- Specification, OTLP/HTTP Response; what is kept of it: profile)
use Rattle.std.specs.Prelude.{◌≡◌, ℕ, ◌<◌, ◌≤◌, pos, int_lt, if◌then◌else◌, List, [], ◌∷◌, take}
use Rattle.std.specs.Prelude.{Option, Some, None, Result, Ok, Err, IsCharBoundary}
use Rattle.std.specs.Str.{is_utf8}
use Rattle.model_message.specs.Reading.{Fault, Reading}
use Rattle.model_message.specs.Tables
use Rattle.model_message.specs.Tables.{Message}
use Rattle.model_message.specs.Messages.{meaning}
use Rattle.otlp_wire.specs.Response.{message_text, rejected_in, row_faults, status}
use Rattle.http_wire.specs.declared.fault.HttpFault.{HttpFault}
use Rattle.otlp_http.specs.Outcomes.{is_success}
use Rattle.otlp_http.specs.Replies.{HttpReply}
use Rattle.http_exporter.specs.declared.failure.Failure.{Failure}
use Rattle.http_exporter.specs.declared.failure.Failure.TheVariants as failures

-- the bytes where they are UTF-8; of others nothing is said (profile)
abbrev pub text_in : List ℕ → List ℕ
text_in bytes = if is_utf8 bytes then bytes else []

-- The message of a Status without a fault, if it has one, and else the body as a text. (OTLP
-- Specification, OTLP/HTTP Response: Failures; bodies that are no Status: profile)
abbrev pub message_by : List Fault → List ℕ → List ℕ → List ℕ
message_by [] [] body = text_in body
message_by [] (byte ∷ message) body = byte ∷ message
message_by (fault ∷ faults) message body = text_in body

abbrev pub message_in : Reading (Message status) → List ℕ → List ℕ
message_in reading body = message_by reading.faults reading.value.0 body

-- what a body says of a batch that wasn't taken, if the body could be had
abbrev pub message_of : Result (List ℕ) HttpFault → List ℕ
message_of (Ok body) = message_in (meaning status body) body
message_of (Err fault) = []

-- By a response whose fields have no fault, spans were rejected; a message that isn't UTF-8 is left
-- out. (OTLP Specification, Partial Success; such a message: profile)
abbrev pub rejection_by : List Fault → Message Tables.response → Option Failure
rejection_by [] response =
    if int_lt (pos 0) (rejected_in response)
    then Some (failures.Partial (rejected_in response) (text_in (message_text response)))
    else None
rejection_by (fault ∷ faults) response = None

abbrev pub rejection_of : Result (List ℕ) HttpFault → Option Failure
rejection_of (Ok body) = rejection_by (row_faults body) (meaning Tables.response body).value
rejection_of (Err fault) = None

-- what a reply says, with its whole message; of one that says that all was taken there is nothing
abbrev pub failure_of_reply : HttpReply → Option Failure
failure_of_reply reply =
    if is_success reply.status then rejection_of reply.body
    else Some (failures.Status reply.status (message_of reply.body))

-- what a reply says, or why there is none
abbrev pub failure_of : Result HttpReply HttpFault → Option Failure
failure_of (Ok reply) = failure_of_reply reply
failure_of (Err fault) = Some (failures.NoReply fault)

-- where a write failed, a reply counts that came with a whole head, and nothing else (profile)
abbrev pub failure_after_a_stop : Result HttpReply HttpFault → Option Failure
failure_after_a_stop (Ok reply) = failure_of_reply reply
failure_after_a_stop (Err fault) = Some failures.WriteStopped

-- The longest beginning of a text that has 256 bytes at most and no part of a character. (profile)
pub record IsFront (text front : List ℕ) : Type 0 where
  pub size : ℕ
  pub is : front ≡ take size text
  pub short : size ≤ 256
  pub whole : IsCharBoundary text size
  pub longest : (i : ℕ) → size < i → i ≤ 256 → ¬ (IsCharBoundary text i)

-- This failure is kept of that one: its message is cut. (profile)
abbrev pub IsKept : Failure → Failure → Type 0
IsKept (failures.Status code text) kept =
    (front : List ℕ) × IsFront text front × (kept ≡ failures.Status code front)
IsKept (failures.Partial rejected text) kept =
    (front : List ℕ) × IsFront text front × (kept ≡ failures.Partial rejected front)
IsKept failures.NoConnection kept = kept ≡ failures.NoConnection
IsKept failures.WriteStopped kept = kept ≡ failures.WriteStopped
IsKept (failures.NoReply fault) kept = kept ≡ failures.NoReply fault

-- This is kept of what was met, if anything was.
abbrev pub AreKept : Option Failure → Option Failure → Type 0
AreKept None kept = kept ≡ None
AreKept (Some failure) kept = (one : Failure) × IsKept failure one × (kept ≡ Some one)

-- The last failure after an attempt: what that met, if anything, and else what it was before.
-- (profile)
abbrev pub IsLast : Option Failure → Option Failure → Option Failure → Type 0
IsLast None old new = new ≡ old
IsLast (Some failure) old new = (one : Failure) × IsKept failure one × (new ≡ Some one)
