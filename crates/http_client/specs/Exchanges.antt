-- A request over a connection. (RFC 9112, sections 6.3, 9.3 and 9.6)
use Rattle.std.specs.Prelude.{◌≡◌, ℕ, ◌⊎◌, ◌&&◌, not, Bool, false, if◌then◌else◌}
use Rattle.std.specs.Prelude.{List, [], bytes_eq, codes, Option, Some, None, Result, Ok, Err}
use Rattle.http_wire.specs.declared.fault.HttpFault.{HttpFault}
use Rattle.http_wire.specs.declared.limits.HeadLimits.{HeadLimits}
use Rattle.http_wire.specs.Devices.{HasFailed}
use Rattle.http_exporter.specs.Attempts.{Shown, IsSent, IsStopped}
use Rattle.otlp_http.specs.Address.{Address}
use Rattle.otlp_http.specs.Persistence.{lasts_after}
use Rattle.otlp_http.specs.Replies.{HttpReply, HasNoReply, IsReply}
use Rattle.trace_context.specs.Carriers.{Field}
use Rattle.http_client.specs.declared.fault.SendFault.{SendFault}
use Rattle.http_client.specs.declared.fault.SendFault.TheVariants as faults
use Rattle.http_client.specs.Requests.{Request, request_text}

-- how much of a reply is read (profile)
abbrev pub limits : HeadLimits
limits = record { head = 16_384; fields = 64; body = 65_536 }

-- a HEAD, whose reply has no body (RFC 9110, section 9.3.2)
abbrev pub is_head : List ℕ → Bool
is_head method = bytes_eq method (codes "HEAD")

-- how much of the reply to a request of this method is read: of one to a HEAD no byte of a body
abbrev pub limits_for : List ℕ → HeadLimits
limits_for method = if is_head method then record limits { body = 0 } else limits

-- The reply to a request of this method: one to a HEAD has no body, whatever its fields say of one.
-- (RFC 9112, section 6.3)
abbrev pub reply_to : List ℕ → HttpReply → HttpReply
reply_to method reply = if is_head method then record reply { body = Ok [] } else reply

-- What a link gives after a request of this method, and whether it may carry another request: not
-- after a HEAD, of whose reply no field says where it ends. (RFC 9112, sections 6.3 and 9.3)
pub data IsAnswered {Link : Type 0} (shown : Shown Link) (method : List ℕ) (old new : Link)
    (result : Result HttpReply SendFault) (lasts : Bool) : Type 0 where
  read : (reply : HttpReply) (is : IsReply (limits_for method)
      (shown.remaining old) (shown.remaining new)
      (HasFailed (shown.failed_reads old) (shown.failed_reads new)) reply)
      → lasts ≡ (not (is_head method) && lasts_after is.head reply.body)
      → result ≡ Ok (reply_to method reply) → IsAnswered shown method old new result lasts
  none : (fault : HttpFault) → HasNoReply (limits_for method)
      (shown.remaining old) (shown.remaining new)
      (HasFailed (shown.failed_reads old) (shown.failed_reads new)) fault
      → lasts ≡ false → result ≡ Err (faults.NoReply fault)
      → IsAnswered shown method old new result lasts

-- What came of the text of a request of this method that was sent over a link, and whether that may
-- carry another request: the whole text went out, and the reply is what the link then gave, or it
-- didn't go out.
pub data IsExchange {Link : Type 0} (shown : Shown Link) (method text : List ℕ) (old new : Link)
    (result : Result HttpReply SendFault) (lasts : Bool) : Type 0 where
  replied : (sent : Link) → IsSent shown text old sent
      → IsAnswered shown method sent new result lasts
      → IsExchange shown method text old new result lasts
  stopped : IsStopped shown text old new → result ≡ Err faults.NotSent → lasts ≡ false
      → IsExchange shown method text old new result lasts

-- What came of a text that was sent to an address: no link could be had, or it was sent over the
-- link that the dial gave, which is closed after it.
pub data IsSending {Dial Link : Type 0}
    (dials : Dial → List ℕ → ℕ → Option Link → Dial → Type 0) (shown : Shown Link)
    (address : Address) (method text : List ℕ) (old new : Dial)
    (result : Result HttpReply SendFault) : Type 0 where
  unlinked : dials old address.host address.port None new → result ≡ Err faults.NoConnection
      → IsSending dials shown address method text old new result
  linked : (fresh spent : Link) (lasts : Bool)
      → dials old address.host address.port (Some fresh) new
      → IsExchange shown method text fresh spent result lasts
      → IsSending dials shown address method text old new result

-- A request with these fields that carry a context was sent, once, or there was no memory for its
-- head, and nothing was dialed.
abbrev pub IsAsked : {Dial Link : Type 0} → (Dial → List ℕ → ℕ → Option Link → Dial → Type 0)
    → Shown Link → Address → Request → List Field → Dial → Dial → Result HttpReply SendFault
    → Type 0
IsAsked dials shown address request carried old new result =
    ((result ≡ Err faults.OutOfMemory) × (new ≡ old))
    ⊎ IsSending dials shown address request.method (request_text address carried request) old new
    result
