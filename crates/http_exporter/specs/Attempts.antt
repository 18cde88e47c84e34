-- An attempt to send a body over a link. (OTLP Specification, OTLP/HTTP; a link an attempt, and the
-- outcome of a stopped request: profile)
use Rattle.std.specs.Prelude.{◌≡◌, ℕ, ◌-◌, ◌^◌, ◌<◌, ◌≤◌, Bool, true, false, List, length, take}
use Rattle.std.specs.Prelude.{Option, Some, None, Result, Ok, Err, IsOk}
use Rattle.std.specs.Io.KnownBytes.{Appends}
use Rattle.model_desk.specs.Retries.{Outcome, no_reply}
use Rattle.http_wire.specs.declared.fault.HttpFault.{HttpFault}
use Rattle.http_wire.specs.declared.limits.HeadLimits.{HeadLimits}
use Rattle.otlp_http.specs.Address.{Address}
use Rattle.http_wire.specs.Devices.{HasFailed, one_more}
use Rattle.otlp_http.specs.Outcomes.{outcome_of, outcome_of_reply}
use Rattle.otlp_http.specs.Replies.{HttpReply, IsReply, HasNoReply}
use Rattle.otlp_http.specs.Request.{text_in}
use Rattle.otlp_http.specs.declared.request.Coding.{Coding}
use Rattle.otlp_http.specs.declared.request.Connection.TheVariants.{Close}
use Rattle.http_exporter.specs.declared.failure.Failure.{Failure}
use Rattle.http_exporter.specs.declared.failure.Failure.TheVariants as failures
use Rattle.http_exporter.specs.Failures.{failure_of, failure_after_a_stop, IsLast}

-- what a link shows: the bytes that it took and those that it has yet to give, where it shows them,
-- and how often a write and a read failed
pub record Shown (Link : Type 0) : Type 0 where
  pub contents : Link → Option (List ℕ)
  pub remaining : Link → Option (List ℕ)
  pub failed_writes : Link → ℕ
  pub failed_reads : Link → ℕ

-- what the four functions show of a link
abbrev pub shown : {Link : Type 0} → (Link → Option (List ℕ)) → (Link → Option (List ℕ))
    → (Link → ℕ) → (Link → ℕ) → Shown Link
shown contents remaining failed_writes failed_reads = record {
  contents = contents;
  remaining = remaining;
  failed_writes = failed_writes;
  failed_reads = failed_reads;
}

-- an exporter over links: what dials, where requests go, in which coding they say that their bodies
-- are, how much of a reply is read, whether what came is read where a write failed, and what the
-- last attempt met that failed
pub record Exporting (Dial : Type 0) : Type 0 where
  pub dial : Dial
  pub target : Address
  pub coding : Coding
  pub limits : HeadLimits
  pub reads_after_a_stop : Bool
  pub last_failure : Option Failure

-- the whole text went out, and no write failed
pub record IsSent {Link : Type 0} (shown : Shown Link) (text : List ℕ)
    (old new : Link) : Type 0 where
  pub written : Appends (shown.contents old) (shown.contents new) text
  pub counted : shown.failed_writes new ≡ shown.failed_writes old

-- a write failed, before which this count of the text's bytes went out, and not all
pub record IsStopped {Link : Type 0} (shown : Shown Link) (text : List ℕ)
    (old new : Link) : Type 0 where
  pub count : ℕ
  pub short : count < length text
  pub written : Appends (shown.contents old) (shown.contents new) (take count text)
  pub counted : shown.failed_writes new ≡ one_more (shown.failed_writes old)

-- what the link then gave is a reply, or is none for this cause
abbrev pub IsAnswer : {Link : Type 0} → Shown Link → HeadLimits → Link → Link
    → Result HttpReply HttpFault → Type 0
IsAnswer shown limits old new (Ok reply) =
    IsReply limits (shown.remaining old) (shown.remaining new)
    (HasFailed (shown.failed_reads old) (shown.failed_reads new)) reply
IsAnswer shown limits old new (Err fault) =
    HasNoReply limits (shown.remaining old) (shown.remaining new)
    (HasFailed (shown.failed_reads old) (shown.failed_reads new)) fault

-- where a write failed, a reply counts that came with a whole head, and nothing else (profile)
abbrev pub outcome_after_a_stop : Result HttpReply HttpFault → Outcome
outcome_after_a_stop (Ok reply) = outcome_of_reply reply
outcome_after_a_stop (Err fault) = no_reply

-- The outcome of a text that was posted over a link, and what failed, if anything did: what the
-- reply says; that there is none, since a write failed; or, where that is asked for, what a reply
-- says that came all the same.
pub data IsPosted {Link : Type 0} (shown : Shown Link) (limits : HeadLimits)
    (reads_after_a_stop : Bool) (text : List ℕ) (old new : Link)
    (outcome : Outcome) (failure : Option Failure) : Type 0 where
  replied : (sent : Link) (answer : Result HttpReply HttpFault)
      → IsSent shown text old sent → IsAnswer shown limits sent new answer
      → outcome ≡ outcome_of answer → failure ≡ failure_of answer
      → IsPosted shown limits reads_after_a_stop text old new outcome failure
  stopped : reads_after_a_stop ≡ false → IsStopped shown text old new
      → outcome ≡ no_reply → failure ≡ Some failures.WriteStopped
      → IsPosted shown limits reads_after_a_stop text old new outcome failure
  replied_after_a_stop : (stopped : Link) (answer : Result HttpReply HttpFault)
      → reads_after_a_stop ≡ true → IsStopped shown text old stopped
      → IsAnswer shown limits stopped new answer
      → outcome ≡ outcome_after_a_stop answer → failure ≡ failure_after_a_stop answer
      → IsPosted shown limits reads_after_a_stop text old new outcome failure

-- The outcome of an attempt: no link could be had, so there is no reply; or the request of this
-- body was posted over the link that the dial gave. What failed is then the last failure.
pub data IsAttempt {Dial Link : Type 0}
    (dials : Dial → List ℕ → ℕ → Option Link → Dial → Type 0) (shown : Shown Link)
    (body : List ℕ) (old new : Exporting Dial) (outcome : Outcome) : Type 0 where
  unlinked : dials old.dial old.target.host old.target.port None new.dial
      → outcome ≡ no_reply
      → IsLast (Some failures.NoConnection) old.last_failure new.last_failure
      → IsAttempt dials shown body old new outcome
  linked : (fresh spent : Link) (failure : Option Failure)
      → dials old.dial old.target.host old.target.port (Some fresh) new.dial
      → IsPosted shown old.limits old.reads_after_a_stop (text_in old.coding Close old.target body)
      fresh spent outcome failure
      → IsLast failure old.last_failure new.last_failure
      → IsAttempt dials shown body old new outcome

-- What an attempt does to the exporter: its outcome, and of the exporter only what dials and the
-- last failure may have changed.
abbrev pub Attempts : {Dial Link : Type 0}
    → (Dial → List ℕ → ℕ → Option Link → Dial → Type 0) → Shown Link
    → Exporting Dial → List ℕ → Outcome → Exporting Dial → Type 0
Attempts dials shown old body outcome new =
    IsAttempt dials shown body old new outcome
    × (new ≡ record old { dial = new.dial; last_failure = new.last_failure })

-- Nothing has to be made ready for attempts: there is room for any number of them, of any body.
abbrev pub NeedsNothing : {State T E : Type 0} → Result T E → State → State → ℕ → ℕ → Type 0
NeedsNothing answer old new size attempts =
    IsOk answer × (new ≡ old) × ((len : ℕ) → len ≤ size → attempts ≤ 2 ^ 32 - 1)
