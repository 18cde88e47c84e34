-- Requests over a connection that is kept for the next one. (RFC 9110, section 9.2.2; RFC 9112,
-- sections 9.3 and 9.5; when a connection is given up: profile)
use Rattle.std.specs.Prelude.{◌≡◌, ℕ, ◌⊎◌, ◌&&◌, ◌==◌, Bool, true, false, if◌then◌else◌}
use Rattle.std.specs.Prelude.{List, bytes_eq, codes, Option, Some, None, Result, Err}
use Rattle.std.specs.Io.KnownBytes.{IsAtEnd, Keeps}
use Rattle.http_wire.specs.declared.fault.HttpFault.TheVariants.{Device, Ended}
use Rattle.http_wire.specs.Devices.{one_more}
use Rattle.http_exporter.specs.Attempts.{Shown, IsSent, IsStopped}
use Rattle.http_exporter.specs.Kept.{IsReady}
use Rattle.otlp_http.specs.Address.{Address}
use Rattle.otlp_http.specs.Replies.{HttpReply}
use Rattle.otlp_http.specs.declared.request.Connection.{Connection}
use Rattle.otlp_http.specs.declared.request.Connection.TheVariants.{Close, KeepAlive}
use Rattle.trace_context.specs.Carriers.{Field}
use Rattle.std.specs.Result.{result_map_both}
use Rattle.otlp_http.specs.Outcomes.{reply_view}
use Rattle.http_client.specs.declared.exchange.Came.{Came}
use Rattle.http_client.specs.declared.exchange.Came.TheVariants as came
use Rattle.http_client.specs.declared.fault.SendFault.{SendFault}
use Rattle.http_client.specs.declared.fault.SendFault.TheVariants as faults
use Rattle.http_client.specs.Exchanges.{IsAnswered, IsExchange, is_head}
use Rattle.http_client.specs.Requests.{Request, text_for}

-- a link that is kept, and the host and the port that it leads to
pub record LinkTo (Link : Type 0) : Type 0 where
  pub link : Link
  pub host : List ℕ
  pub port : ℕ

-- what dials, and the link that is kept, if there is one
pub record KeptDial (Dial Link : Type 0) : Type 0 where
  pub dial : Dial
  pub kept : Option (LinkTo Link)

-- whether it leads to this address
abbrev pub leads_to : {Link : Type 0} → Address → LinkTo Link → Bool
leads_to address kept = kept.port == address.port && bytes_eq kept.host address.host

-- the link that is kept, where it leads to this address
abbrev pub link_to : {Link : Type 0} → Address → Option (LinkTo Link) → Option Link
link_to address None = None
link_to address (Some kept) = if leads_to address kept then Some kept.link else None

-- A link is kept for this address, if it lasts; where memory is refused, it is given up.
abbrev pub MayKeep : {Link : Type 0} → Address → Bool → Link → Option (LinkTo Link) → Type 0
MayKeep address lasts link kept =
    (kept ≡ None)
    ⊎ ((lasts ≡ true)
    × (kept ≡ Some (record { link = link; host = address.host; port = address.port })))

-- A request of this method may be sent again where no reply came: what it asks for is the same if
-- it is asked for twice. (RFC 9110, section 9.2.2)
unfoldable pub is_idempotent : List ℕ → Bool
is_idempotent method =
    if bytes_eq method (codes "DELETE") then true
    else if bytes_eq method (codes "GET") then true
    else if bytes_eq method (codes "HEAD") then true
    else if bytes_eq method (codes "OPTIONS") then true
    else if bytes_eq method (codes "PUT") then true
    else if bytes_eq method (codes "TRACE") then true
    else false

-- what a request of this method asks of its connection: a HEAD that it be closed, since no field of
-- its reply says where that ends
abbrev pub connection_for : List ℕ → Connection
connection_for method = if is_head method then Close else KeepAlive

-- Nothing of a reply was read of a link, for this cause: the bytes ended, or a read failed.
pub data IsSilent {Link : Type 0} (shown : Shown Link) (old new : Link) (fault : SendFault)
    : Type 0 where
  ended : Keeps (shown.remaining old) (shown.remaining new) → IsAtEnd (shown.remaining new)
      → fault ≡ faults.NoReply Ended → IsSilent shown old new fault
  failed : Keeps (shown.remaining old) (shown.remaining new)
      → shown.failed_reads new ≡ one_more (shown.failed_reads old)
      → fault ≡ faults.NoReply Device → IsSilent shown old new fault

-- Nothing of a reply came to a text that was sent over a link: a write failed, or nothing was read.
pub data IsUnanswered {Link : Type 0} (shown : Shown Link) (text : List ℕ) (old new : Link)
    (fault : SendFault) : Type 0 where
  stopped : IsStopped shown text old new → fault ≡ faults.NotSent
      → IsUnanswered shown text old new fault
  silent : (sent : Link) → IsSent shown text old sent → IsSilent shown sent new fault
      → IsUnanswered shown text old new fault

-- what a link which was kept gives after a request of this method
abbrev pub ComesAfter : {Link : Type 0} → Shown Link → List ℕ → Link → Link → Came → Type 0
ComesAfter shown method old new (came.Nothing fault) = IsSilent shown old new fault
ComesAfter shown method old new (came.Answer result lasts) =
    IsAnswered shown method old new (result_map_both reply_view (λ fault. fault) result) lasts

-- what came of the text of a request of this method that was sent over a link which was kept
abbrev pub ComesTo : {Link : Type 0} → Shown Link → List ℕ → List ℕ → Link → Link → Came → Type 0
ComesTo shown method text old new (came.Nothing fault) = IsUnanswered shown text old new fault
ComesTo shown method text old new (came.Answer result lasts) =
    IsExchange shown method text old new (result_map_both reply_view (λ fault. fault) result) lasts

-- What came of a text that was sent to an address over a new connection: no link could be had, or
-- it was sent over the link that the dial gave, which is then kept where it lasts.
pub data IsSentAnew {Dial Link : Type 0}
    (dials : Dial → List ℕ → ℕ → Option Link → Dial → Type 0) (shown : Shown Link)
    (address : Address) (method text : List ℕ) (old : Dial) (new : KeptDial Dial Link)
    (result : Result HttpReply SendFault) : Type 0 where
  unlinked : dials old address.host address.port None new.dial → new.kept ≡ None
      → result ≡ Err faults.NoConnection
      → IsSentAnew dials shown address method text old new result
  linked : (fresh spent : Link) (lasts : Bool)
      → dials old address.host address.port (Some fresh) new.dial
      → IsExchange shown method text fresh spent result lasts
      → MayKeep address lasts spent new.kept
      → IsSentAnew dials shown address method text old new result

-- What came of a text that was sent to an address: over a new connection, where no link to it is
-- ready; over the link that was kept; and where nothing of a reply came over that, no more, or, if
-- the method lets it be sent again, once more over a new connection.
pub data IsSentKept {Dial Link : Type 0}
    (dials : Dial → List ℕ → ℕ → Option Link → Dial → Type 0)
    (renews : Link → Bool → Link → Type 0) (shown : Shown Link)
    (address : Address) (method text : List ℕ) (old new : KeptDial Dial Link)
    (result : Result HttpReply SendFault) : Type 0 where
  anew : IsReady renews (link_to address old.kept) None
      → IsSentAnew dials shown address method text old.dial new result
      → IsSentKept dials renews shown address method text old new result
  answered : (link spent : Link) (lasts : Bool)
      → IsReady renews (link_to address old.kept) (Some link)
      → IsExchange shown method text link spent result lasts
      → new.dial ≡ old.dial → MayKeep address lasts spent new.kept
      → IsSentKept dials renews shown address method text old new result
  unanswered : (link spent : Link) (fault : SendFault)
      → IsReady renews (link_to address old.kept) (Some link)
      → IsUnanswered shown text link spent fault → is_idempotent method ≡ false
      → new ≡ record { dial = old.dial; kept = None } → result ≡ Err fault
      → IsSentKept dials renews shown address method text old new result
  again : (link spent : Link) (fault : SendFault)
      → IsReady renews (link_to address old.kept) (Some link)
      → IsUnanswered shown text link spent fault → is_idempotent method ≡ true
      → IsSentAnew dials shown address method text old.dial new result
      → IsSentKept dials renews shown address method text old new result

-- A request with these fields that carry a context was sent so, or there was no memory for its
-- head, and nothing was dialed.
abbrev pub IsAskedKept : {Dial Link : Type 0}
    → (Dial → List ℕ → ℕ → Option Link → Dial → Type 0) → (Link → Bool → Link → Type 0)
    → Shown Link → Address → Request → List Field → KeptDial Dial Link → KeptDial Dial Link
    → Result HttpReply SendFault → Type 0
IsAskedKept dials renews shown address request carried old new result =
    ((result ≡ Err faults.OutOfMemory) × (new ≡ old))
    ⊎ IsSentKept dials renews shown address request.method
    (text_for (connection_for request.method) address carried request) old new result
