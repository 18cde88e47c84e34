-- Attempts over a link that is kept. (RFC 9112, sections 9.3 and 9.5; when a link is given up:
-- profile)
use Rattle.std.specs.Prelude.{◌≡◌, ℕ, Bool, true, false, if◌then◌else◌, List, Option, Some, None}
use Rattle.std.specs.Prelude.{Result, Ok, Err}
use Rattle.model_desk.specs.Retries.{Outcome, no_reply}
use Rattle.http_wire.specs.declared.fault.HttpFault.{HttpFault}
use Rattle.http_wire.specs.declared.limits.HeadLimits.{HeadLimits}
use Rattle.http_wire.specs.Devices.{HasFailed}
use Rattle.otlp_http.specs.Outcomes.{outcome_of}
use Rattle.otlp_http.specs.Persistence.{lasts_after}
use Rattle.otlp_http.specs.Replies.{HttpReply, HasNoReply, IsReply}
use Rattle.otlp_http.specs.Request.{text_in}
use Rattle.otlp_http.specs.declared.request.Connection.TheVariants.{KeepAlive}
use Rattle.http_exporter.specs.declared.failure.Failure.{Failure}
use Rattle.http_exporter.specs.declared.failure.Failure.TheVariants as failures
use Rattle.http_exporter.specs.Attempts.{Exporting, IsAnswer, IsSent, IsStopped, Shown}
use Rattle.http_exporter.specs.Attempts.{outcome_after_a_stop}
use Rattle.http_exporter.specs.Failures.{failure_of, failure_after_a_stop, IsLast}

-- an exporter that keeps a link: the exporter that it was made of, and the link, if it has one
pub record Keeping (Dial Link : Type 0) : Type 0 where
  pub exporter : Exporting Dial
  pub link : Option Link

-- What a link then gave, what failed, and whether the link may carry another request: as the reply
-- says by its head, if its body could be had; and not if there is none.
pub data IsKeptAnswer {Link : Type 0} (shown : Shown Link) (limits : HeadLimits) (old new : Link)
    (outcome : Outcome) (failure : Option Failure) (lasts : Bool) : Type 0 where
  read : (reply : HttpReply) (is : IsReply limits (shown.remaining old) (shown.remaining new)
      (HasFailed (shown.failed_reads old) (shown.failed_reads new)) reply)
      → lasts ≡ lasts_after is.head reply.body
      → outcome ≡ outcome_of (Ok reply) → failure ≡ failure_of (Ok reply)
      → IsKeptAnswer shown limits old new outcome failure lasts
  none : (fault : HttpFault) → HasNoReply limits (shown.remaining old) (shown.remaining new)
      (HasFailed (shown.failed_reads old) (shown.failed_reads new)) fault
      → lasts ≡ false
      → outcome ≡ outcome_of (Err fault) → failure ≡ failure_of (Err fault)
      → IsKeptAnswer shown limits old new outcome failure lasts

-- The outcome of a text that was posted over a link, what failed, and whether the link may carry
-- another request: not where a write failed.
pub data IsKeptPost {Link : Type 0} (shown : Shown Link) (limits : HeadLimits)
    (reads_after_a_stop : Bool) (text : List ℕ) (old new : Link)
    (outcome : Outcome) (failure : Option Failure) (lasts : Bool) : Type 0 where
  replied : (sent : Link) → IsSent shown text old sent
      → IsKeptAnswer shown limits sent new outcome failure lasts
      → IsKeptPost shown limits reads_after_a_stop text old new outcome failure lasts
  stopped : reads_after_a_stop ≡ false → IsStopped shown text old new
      → lasts ≡ false → outcome ≡ no_reply → failure ≡ Some failures.WriteStopped
      → IsKeptPost shown limits reads_after_a_stop text old new outcome failure lasts
  replied_after_a_stop : (stopped : Link) (answer : Result HttpReply HttpFault)
      → reads_after_a_stop ≡ true → IsStopped shown text old stopped
      → IsAnswer shown limits stopped new answer → lasts ≡ false
      → outcome ≡ outcome_after_a_stop answer → failure ≡ failure_after_a_stop answer
      → IsKeptPost shown limits reads_after_a_stop text old new outcome failure lasts

-- The link that was kept, if it is ready for another request.
pub data IsReady {Link : Type 0} (renews : Link → Bool → Link → Type 0)
    (kept ready : Option Link) : Type 0 where
  renewed : (before after : Link) → kept ≡ Some before → renews before true after
      → ready ≡ Some after → IsReady renews kept ready
  spent : (before after : Link) → kept ≡ Some before → renews before false after
      → ready ≡ None → IsReady renews kept ready
  absent : kept ≡ None → ready ≡ None → IsReady renews kept ready

-- Where the link of an attempt comes from: it is the one that was kept, if that is ready for
-- another request, and else a fresh one, if one can be had.
pub data GetsLink {Dial Link : Type 0}
    (dials : Dial → List ℕ → ℕ → Option Link → Dial → Type 0)
    (renews : Link → Bool → Link → Type 0)
    (old : Keeping Dial Link) (dial : Dial) (link : Option Link) : Type 0 where
  kept : (ready : Link) → IsReady renews old.link (Some ready) → link ≡ Some ready
      → dial ≡ old.exporter.dial → GetsLink dials renews old dial link
  dialed : IsReady renews old.link None
      → dials old.exporter.dial old.exporter.target.host old.exporter.target.port link dial
      → GetsLink dials renews old dial link

-- The outcome of an attempt: no link could be had, so there is no reply; or the request of this
-- body was posted over one link, once. The link is kept just where it may carry another request:
-- after a reply that was read whole, to an end of its own.
pub data IsKeptAttempt {Dial Link : Type 0}
    (dials : Dial → List ℕ → ℕ → Option Link → Dial → Type 0)
    (renews : Link → Bool → Link → Type 0) (shown : Shown Link)
    (body : List ℕ) (old new : Keeping Dial Link) (outcome : Outcome) : Type 0 where
  unlinked : GetsLink dials renews old new.exporter.dial None
      → outcome ≡ no_reply → new.link ≡ None
      → IsLast (Some failures.NoConnection) old.exporter.last_failure new.exporter.last_failure
      → IsKeptAttempt dials renews shown body old new outcome
  linked : (link spent : Link) (failure : Option Failure) (lasts : Bool)
      → GetsLink dials renews old new.exporter.dial (Some link)
      → IsKeptPost shown old.exporter.limits old.exporter.reads_after_a_stop
      (text_in old.exporter.coding KeepAlive old.exporter.target body) link spent outcome failure
      lasts
      → new.link ≡ (if lasts then Some spent else None)
      → IsLast failure old.exporter.last_failure new.exporter.last_failure
      → IsKeptAttempt dials renews shown body old new outcome

-- What an attempt does to the exporter: its outcome, and of the exporter only what dials, the last
-- failure and the link may have changed.
abbrev pub KeptAttempts : {Dial Link : Type 0}
    → (Dial → List ℕ → ℕ → Option Link → Dial → Type 0) → (Link → Bool → Link → Type 0)
    → Shown Link → Keeping Dial Link → List ℕ → Outcome → Keeping Dial Link → Type 0
KeptAttempts dials renews shown old body outcome new =
    IsKeptAttempt dials renews shown body old new outcome × (new ≡ record {
      exporter = record old.exporter {
        dial = new.exporter.dial;
        last_failure = new.exporter.last_failure;
      };
      link = new.link;
    })
