-- What a reply, or the lack of one, means for the batch that was sent. (OTLP Specification,
-- OTLP/HTTP Response; which faults are no reply: profile)
use Rattle.std.specs.Prelude.{ℕ, ℤ, pos, int_lt, nat_le, Bool, ◌&&◌, ◌||◌, ◌==◌, if◌then◌else◌}
use Rattle.std.specs.Prelude.{List, [], ◌∷◌, option_map, Result, Ok, Err}
use Rattle.std.specs.Result.{result_map_both}
use Rattle.model_message.specs.Reading.{Reading, Fault}
use Rattle.model_message.specs.Tables
use Rattle.model_message.specs.Tables.{Message}
use Rattle.model_message.specs.Messages.{meaning}
use Rattle.model_desk.specs.Retries.{Outcome, delivered, later, no_reply, bad}
use Rattle.retry_core.specs.Retries.{retry_after_view}
use Rattle.otlp_wire.specs.Response.{rejected_in}
use Rattle.http_wire.specs.declared.fault.HttpFault.{HttpFault}
use Rattle.http_wire.specs.declared.fault.HttpFault.TheVariants as faults
use Rattle.otlp_http.specs.declared.reply.Reply.{Reply}
use Rattle.otlp_http.specs.Replies.{HttpReply}

abbrev pub reply_view : {A : Type 0} → Reply A → HttpReply
reply_view reply = record {
  status = reply.status;
  retry_after = reply.retry_after;
  body = result_map_both (λ body. body.items) (λ fault. fault) reply.body;
}

-- the collector took the batch (OTLP Specification, Full Success, Partial Success; statuses from
-- 201 on: profile)
abbrev pub is_success : ℕ → Bool
is_success status = nat_le 200 status && nat_le status 299

-- it is to be sent again (OTLP Specification, Retryable Response Codes)
abbrev pub is_retryable : ℕ → Bool
is_retryable status = status == 429 || status == 502 || status == 503 || status == 504

-- By a response without a fault that says that spans were rejected, the batch was taken in part.
-- (OTLP Specification, Partial Success; one with a fault: profile)
abbrev pub taken_by : List Fault → ℤ → Outcome
taken_by [] rejected = if int_lt (pos 0) rejected then Outcome.partial rejected else delivered
taken_by (fault ∷ faults) rejected = delivered

abbrev pub outcome_of_response : Reading (Message Tables.response) → Outcome
outcome_of_response reading = taken_by reading.faults (rejected_in reading.value)

-- by a body, if it could be had (profile)
abbrev pub outcome_of_body : Result (List ℕ) HttpFault → Outcome
outcome_of_body (Ok body) = outcome_of_response (meaning Tables.response body)
outcome_of_body (Err fault) = delivered

abbrev pub outcome_of_reply : HttpReply → Outcome
outcome_of_reply reply =
    if is_success reply.status then outcome_of_body reply.body
    else if is_retryable reply.status
    then later reply.status (option_map retry_after_view reply.retry_after)
    else Outcome.refused reply.status

-- Where there is no whole head that could be kept, there is no reply; anything else in its place is
-- a bad one. (profile)
abbrev pub outcome_without : HttpFault → Outcome
outcome_without faults.Ended = no_reply
outcome_without faults.Device = no_reply
outcome_without faults.OutOfMemory = no_reply
outcome_without _ = bad

abbrev pub outcome_of : Result HttpReply HttpFault → Outcome
outcome_of (Ok reply) = outcome_of_reply reply
outcome_of (Err fault) = outcome_without fault
