-- Whether a connection may carry another request after a reply (RFC 9112, sections 6.1, 6.3, 9.3).
use Rattle.std.specs.Prelude.{ℕ, Bool, true, false, ◌&&◌, ◌||◌, ◌==◌, nat_lt, List, length, codes}
use Rattle.std.specs.Prelude.{bytes_eq, if◌then◌else◌, Result, Ok, Err}
use Rattle.std.specs.List.{list_all}
use Rattle.httparse.specs.Grammar.{ResponseHead, status_code}
use Rattle.http_header.specs.Token.{lowercase}
use Rattle.http_wire.specs.declared.fault.HttpFault.{HttpFault}
use Rattle.http_wire.specs.Bodies.{Framing, empty, sized, chunked, to_end, unknown}
use Rattle.http_wire.specs.Fields.{NameAndValue, values_of}
use Rattle.otlp_http.specs.Heads.{fields_of}
use Rattle.otlp_http.specs.Replies.{framing_of}

-- the body has an end of its own, that isn't the end of the connection
abbrev pub ends_by_itself : Framing → Bool
ends_by_itself empty = true
ends_by_itself (sized size) = true
ends_by_itself chunked = true
ends_by_itself to_end = false
ends_by_itself unknown = false

-- the field is there
abbrev pub has_field : List ℕ → List NameAndValue → Bool
has_field name fields = nat_lt 0 (length (values_of name fields))

-- Transfer-Encoding is of HTTP/1.1, and no Content-Length is beside it
abbrev pub has_sure_framing : ℕ → List NameAndValue → Bool
has_sure_framing minor fields =
    if has_field (codes "transfer-encoding") fields
    then (if has_field (codes "content-length") fields then false else minor == 1)
    else true

-- `keep-alive`, in any case of letters
abbrev pub is_keep_alive : List ℕ → Bool
is_keep_alive value = bytes_eq (lowercase value) (codes "keep-alive")

-- what HTTP/1.MINOR says by the values of Connection: each is `keep-alive`, and for HTTP/1.0 there
-- is one (a list of options in one value isn't looked into: profile)
abbrev pub keeps_alive : ℕ → List (List ℕ) → Bool
keeps_alive minor values = (minor == 1 || nat_lt 0 (length values)) && list_all is_keep_alive values

-- whether the connection may carry another request after a body that goes so far, of a head of
-- HTTP/1.MINOR with these fields, if the body could be had
abbrev pub lasts_with : ℕ → Framing → List NameAndValue → Result (List ℕ) HttpFault → Bool
lasts_with minor framing fields (Ok body) =
    ends_by_itself framing
    && (has_sure_framing minor fields
    && keeps_alive minor (values_of (codes "connection") fields))
lasts_with minor framing fields (Err fault) = false

-- whether it may after the reply with this head and this body
abbrev pub lasts_after : ResponseHead → Result (List ℕ) HttpFault → Bool
lasts_after head body =
    lasts_with head.minor (framing_of (status_code head) (fields_of head)) (fields_of head) body
