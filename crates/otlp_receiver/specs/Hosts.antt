-- Under which hosts a service may be asked. A page of another site whose name was bound to the
-- service's address asks under that name, and is refused. (RFC 9110, section 7.2; RFC 9112, section
-- 3.2; which hosts: profile)
use Rattle.std.specs.Prelude.{ℕ, Bool, false, ◌==◌, bytes_eq, if◌then◌else◌, List, [], ◌∷◌, ◌++◌}
use Rattle.std.specs.Prelude.{codes, decimal, flat_map, Option, Some, None}
use Rattle.std.specs.List.{list_any}
use Rattle.std.specs.Net.Addr.{ipv4_octets, ipv6_segments}
use Rattle.std.specs.Net.Text.{ipv4_text, ipv6_text}
use Rattle.std.specs.declared.net.ip_addr.IpAddr.{IpAddr}
use Rattle.std.specs.declared.net.ip_addr.IpAddr.TheVariants as addresses
use Rattle.http.specs.declared.request.Parts.{Parts}
use Rattle.http_header.specs.FieldValue.{FieldValue}
use Rattle.http_header.specs.HeaderMap.{get_all}
use Rattle.http_header.specs.Token.{lowercase}
use Rattle.http_uri.specs.Uri.{uri_authority}

-- equal but for the case of ASCII letters
abbrev pub is_same_word : List ℕ → List ℕ → Bool
is_same_word word other = bytes_eq (lowercase word) (lowercase other)

-- an address as a host: an IPv6 address is in brackets (RFC 3986, section 3.2.2)
abbrev pub host_text : IpAddr → List ℕ
host_text (addresses.V4 address) = ipv4_text (ipv4_octets address)
host_text (addresses.V6 address) = codes "[" ++ ipv6_text (ipv6_segments address) ++ codes "]"

-- a name with the port, and alone where the port is that of `http` (RFC 9110, section 4.2.1)
abbrev pub with_port : ℕ → List ℕ → List (List ℕ)
with_port port name =
    (name ++ codes ":" ++ decimal port) ∷ (if port == 80 then name ∷ [] else [])

-- a name that was given, with the port and just as it was given
abbrev pub as_given : ℕ → List ℕ → List (List ℕ)
as_given port name = name ∷ with_port port name

-- The hosts of a service at this address and this port, which was given these names: its address
-- and the names of this machine, with the port, and the names that it was given.
abbrev pub hosts_of : IpAddr → ℕ → List (List ℕ) → List (List ℕ)
hosts_of address port names =
    with_port port (host_text address)
    ++ (with_port port (codes "localhost")
    ++ (with_port port (codes "127.0.0.1")
    ++ (with_port port (codes "[::1]") ++ flat_map (as_given port) names)))

-- one of the hosts is this one, but for the case of letters
abbrev pub allows : List (List ℕ) → List ℕ → Bool
allows hosts host = list_any (λ known. is_same_word known host) hosts

-- the value, where there is just one
abbrev pub only_value : List FieldValue → Option (List ℕ)
only_value [] = None
only_value (value ∷ []) = Some value.bytes
only_value (value ∷ next ∷ values) = None

-- the host of a target, if it has one, or else the only value of these
abbrev pub host_in : Option (List ℕ) → List FieldValue → Option (List ℕ)
host_in (Some authority) values = Some authority
host_in None values = only_value values

-- The host that a request is for: that of its target, where it has one, in place of the field (RFC
-- 9112, section 3.2.2); else that of its one field Host.
abbrev pub asked_host : Parts → Option (List ℕ)
asked_host head = host_in (uri_authority head.uri) (get_all head.headers (codes "host"))

abbrev pub allows_some : List (List ℕ) → Option (List ℕ) → Bool
allows_some hosts (Some host) = allows hosts host
allows_some hosts None = false

-- A request is for one of the hosts. One that says no host, or several, isn't.
abbrev pub allows_head : List (List ℕ) → Parts → Bool
allows_head hosts head = allows_some hosts (asked_host head)
