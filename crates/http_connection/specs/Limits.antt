-- The status that answers a refusal.
use Rattle.std.specs.Prelude.{ℕ}
use Rattle.http_connection.specs.declared.limits.Refusal.{Refusal}
use Rattle.http_connection.specs.declared.limits.Refusal.TheVariants.{BadRequest, UriTooLong}
use Rattle.http_connection.specs.declared.limits.Refusal.TheVariants.{FieldsTooLarge, BodyTooLarge}
use Rattle.http_connection.specs.declared.limits.Refusal.TheVariants.{NoRoom, UnknownCoding}
use Rattle.http_connection.specs.declared.limits.Refusal.TheVariants.{UnknownVersion}

-- its code (RFC 9110, section 15; RFC 6585, section 5)
abbrev pub status_of : Refusal → ℕ
status_of BadRequest = 400
status_of UriTooLong = 414
status_of FieldsTooLarge = 431
status_of BodyTooLarge = 413
status_of NoRoom = 503
status_of UnknownCoding = 501
status_of UnknownVersion = 505
