-- Which requests a service refuses by their head, and what it says where the connection refuses
-- one.
use Rattle.std.specs.Prelude.{ℕ, ◌==◌, ◌||◌, not, if◌then◌else◌, List, nat_lt, Option, Some, None}
use Rattle.std.specs.Prelude.{Bool, bytes_eq, codes, unwrap_or}
use Rattle.http.specs.declared.request.Parts.{Parts as Head}
use Rattle.http_uri.specs.Uri.{uri_path}
use Rattle.otlp_receiver.specs.Hosts.{allows_head}
use Rattle.http_connection.specs.declared.limits.Refusal.{Refusal}
use Rattle.http_connection.specs.declared.limits.Refusal.TheVariants as refusals
use Rattle.otlp_receiver.specs.declared.reply.denial.Denial.{Denial}
use Rattle.otlp_receiver.specs.declared.reply.denial.Denial.TheVariants as denials

-- A request is for one of the hosts, or it asks whether the service is well, under any host or
-- none. (profile)
abbrev pub may_ask : List (List ℕ) → Head → Bool
may_ask hosts head = allows_head hosts head || bytes_eq (uri_path head.uri) (codes "/healthz")

-- Why a request is refused by its head, where this many bytes may still be pending: it is for
-- another host, or its body, if it says how long that is, is longer; or nothing more may be
-- pending.
abbrev pub head_denial : List (List ℕ) → Head → Option ℕ → ℕ → Option Denial
head_denial hosts head body room =
    if not (may_ask hosts head) then Some denials.Host
    else if room == 0 || nat_lt room (unwrap_or body 0) then Some denials.NoRoom
    else None

-- why the connection refuses a request (RFC 9110, section 15; RFC 6585, section 5)
abbrev pub denial_by : Refusal → Denial
denial_by refusals.BadRequest = denials.BadRequest
denial_by refusals.UriTooLong = denials.UriTooLong
denial_by refusals.FieldsTooLarge = denials.FieldsTooLarge
denial_by refusals.BodyTooLarge = denials.BodyTooLarge
denial_by refusals.NoRoom = denials.NoRoom
denial_by refusals.UnknownCoding = denials.UnknownCoding
denial_by refusals.UnknownVersion = denials.UnknownVersion
