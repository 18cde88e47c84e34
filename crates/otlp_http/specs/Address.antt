-- Where a request goes (RFC 9110, sections 4.2 and 7.2; which hosts and paths are taken: profile).
use Rattle.std.specs.Prelude.{ℕ, ◌+◌, ◌-◌, ◌^◌, ◌<◌, Bool, false, not, ◌&&◌, ◌||◌, ◌==◌, nat_le}
use Rattle.std.specs.Prelude.{nat_lt}
use Rattle.std.specs.Prelude.{List, [], ◌∷◌, length, slice_index, slice_range, IsTrue}
use Rattle.std.specs.Char.{is_ascii_alphanumeric, is_ascii_hexdigit}
use Rattle.std.specs.List.{list_all, list_any}
use Rattle.otlp_http.specs.Fields.{Field, AreFields}

-- a host, a port and a path, each text as its bytes, and the fields of a program's own that each
-- request has
pub record Address : Type 0 where
  pub host : List ℕ
  pub port : ℕ
  pub path : List ℕ
  pub fields : List Field

-- an ASCII letter, a digit, `.`, `-` or `_`, which names of containers have
abbrev pub is_host_byte : ℕ → Bool
is_host_byte byte = is_ascii_alphanumeric byte || (byte == 46 || (byte == 45 || byte == 95))

-- a name, or an address of four numbers: one byte at least, each of them such a one
abbrev pub is_name : List ℕ → Bool
is_name host = nat_lt 0 (length host) && list_all is_host_byte host

-- `:`
abbrev pub is_colon : ℕ → Bool
is_colon byte = byte == 58

-- a hexadecimal digit, `:` or `.` (RFC 3986, section 3.2.2, IPv6address)
abbrev pub is_address_byte : ℕ → Bool
is_address_byte byte = is_ascii_hexdigit byte || (byte == 58 || byte == 46)

-- the bytes of an IPv6 address, with a `:` among them (its form: profile)
abbrev pub is_address : List ℕ → Bool
is_address text = list_any is_colon text && list_all is_address_byte text

-- what comes after the first byte and before the last
abbrev pub inside : List ℕ → List ℕ
inside host = slice_range host 1 (length host - 1)

-- an IPv6 address between `[` and `]` (RFC 3986, section 3.2.2, IP-literal)
abbrev pub is_literal : List ℕ → Bool
is_literal host =
    nat_le 3 (length host) && slice_index host 0 == 91 && slice_index host (length host - 1) == 93
    && is_address (inside host)

-- a name, an address of four numbers, or one of IPv6 in brackets (RFC 3986, section 3.2.2)
abbrev pub is_host : List ℕ → Bool
is_host host = is_name host || is_literal host

-- a visible ASCII byte, from `!` to `~`, but no `#` (35), which begins a fragment: a request has
-- none (RFC 9112, section 3.2; RFC 3986, section 3.5)
abbrev pub is_path_byte : ℕ → Bool
is_path_byte byte = nat_le 33 byte && nat_le byte 126 && not (byte == 35)

-- the first byte is a `/`
abbrev pub begins_with_slash : List ℕ → Bool
begins_with_slash [] = false
begins_with_slash (byte ∷ bytes) = byte == 47

-- a `/` and then any visible bytes but `#`
abbrev pub is_path : List ℕ → Bool
is_path path = begins_with_slash path && list_all is_path_byte path

-- host, path and fields are taken, and so short that the bytes of a request can be counted in 64
-- bits
pub record IsTarget (address : Address) : Type 0 where
  pub host : IsTrue (is_host address.host)
  pub path : IsTrue (is_path address.path)
  pub fields : AreFields address.fields
  pub short : length address.host + length address.path < 2 ^ 62
