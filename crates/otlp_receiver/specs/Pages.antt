-- The pages of a service. (RFC 9110, sections 9.3.1 and 9.3.2; which fields: profile)
use Rattle.std.specs.Prelude.{ℕ, Bool, true, false, if◌then◌else◌, List, codes, bytes_eq}
use Rattle.http_server.specs.Response.{IsResponse}
use Rattle.http_server.specs.declared.response.Response.{Response}
use Rattle.otlp_receiver.specs.Formats.{format_fields}
use Rattle.otlp_receiver.specs.declared.reply.format.Format.{Format}

-- the methods that pages have
unfoldable pub is_read : List ℕ → Bool
is_read method =
    if bytes_eq method (codes "GET") then true
    else if bytes_eq method (codes "HEAD") then true
    else false

-- the answer has this status, this format and this body, or this beginning of a body
abbrev pub IsPage : ℕ → Format → List ℕ → Response → Type 0
IsPage code format body response = IsResponse code (format_fields format) body response
