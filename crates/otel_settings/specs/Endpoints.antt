-- Where spans are sent to. (OTLP Specification, OTLP Exporter Configuration, Endpoint URLs for
-- OTLP/HTTP; RFC 9110, section 4.2.1; RFC 3986, section 3)
use Rattle.std.specs.Prelude.{ℕ, Bool, true, false, not, ◌&&◌, ◌==◌, List, [], ◌∷◌, ◌++◌, length}
use Rattle.std.specs.Prelude.{drop, Option, Some, None, codes, if◌then◌else◌, nat_eq}
use Rattle.std.specs.Prelude.{option_and_then, unwrap_or}
use Rattle.std.specs.Option.{option_or}
use Rattle.std.specs.List.{list_all, list_any, before_first, after_first, starts_with, ends_with}
use Rattle.otlp_http.specs.Address.{Address, is_host, is_path}
use Rattle.otel_settings.specs.declared.variable.Variable.{Variable}
use Rattle.otel_settings.specs.declared.variable.Variable.TheVariants as variables
use Rattle.otel_settings.specs.declared.fault.Instead.{Instead}
use Rattle.otel_settings.specs.declared.fault.Instead.TheVariants as instead
use Rattle.otel_settings.specs.Pairs.{Pairs, text_set}
use Rattle.otel_settings.specs.Readings.{is_word, number_in}
use Rattle.otel_settings.specs.Faults.{Fault, read_by, faults_by}

-- what comes after this text, if it is at the front
unfoldable pub after_text : List ℕ → List ℕ → Option (List ℕ)
after_text front text =
    if starts_with nat_eq text front then Some (drop (length front) text) else None

-- What comes after the first colon (58) of a URL, whose scheme is what comes before it (RFC 3986,
-- section 3.1).
abbrev pub after_colon : List ℕ → List ℕ
after_colon url = after_first (λ b. b == 58) url

-- whether the scheme is `http`, in letters of either case (profile: no `https`)
abbrev pub is_http : List ℕ → Bool
is_http url = is_word (codes "http") (before_first (λ b. b == 58) url)

-- what comes after `http://`
unfoldable pub after_scheme : List ℕ → Option (List ℕ)
after_scheme url = if is_http url then after_text (codes "//") (after_colon url) else None

-- a port of 1 to 65,535, or 80 where none is named (RFC 9110, section 4.2.1)
abbrev pub port_of : List ℕ → Option ℕ
port_of [] = Some 80
port_of (digit ∷ digits) = number_in 1 65535 (digit ∷ digits)

-- the port that follows an address in brackets: nothing, or a colon and digits
abbrev pub port_after : List ℕ → Option ℕ
port_after [] = Some 80
port_after (byte ∷ bytes) = option_and_then port_of (after_text (codes ":") (byte ∷ bytes))

-- `v1/traces` relative to a base path, which is ended by a `/`
unfoldable pub traces_path : List ℕ → List ℕ
traces_path path =
    if ends_with nat_eq path (codes "/") then path ++ codes "v1/traces"
    else path ++ codes "/v1/traces"

-- the path of requests: the one of traces after a base, and any other as it is
abbrev pub request_path : Bool → List ℕ → List ℕ
request_path true path = traces_path path
request_path false path = path

-- a path with a query after it, if that isn't empty (RFC 3986, section 3.4)
abbrev pub with_query : List ℕ → List ℕ → List ℕ
with_query path [] = path
with_query path (byte ∷ query) = (path ++ codes "?") ++ (byte ∷ query)

-- the path of requests, for traces or as a base of all signals, and its query (that a base keeps
-- its query: profile)
unfoldable pub target_path : Bool → List ℕ → List ℕ → List ℕ
target_path is_base path query = with_query (request_path is_base path) query

-- no `#` (35), which begins a fragment (RFC 9112, section 3.2: a request has none)
abbrev pub is_plain : ℕ → Bool
is_plain byte = not (byte == 35)

-- a place without a fragment, if a target may have its host and its path
unfoldable pub allowed : Address → Option Address
allowed address =
    if list_all is_plain address.path && is_host address.host && is_path address.path
    then Some address else None

-- Of a URL without its scheme, what comes after the first `?` is its query. (RFC 3986, section 3.4)
abbrev pub before_query : List ℕ → List ℕ
before_query rest = before_first (λ b. b == 63) rest

abbrev pub query_of : List ℕ → List ℕ
query_of rest = after_first (λ b. b == 63) rest

-- Of what comes before that, the part before the first `/` (47) is the authority, and what comes
-- after the `/` is the path, without that `/`. (RFC 3986, section 3)
abbrev pub authority_of : List ℕ → List ℕ
authority_of rest = before_first (λ b. b == 47) (before_query rest)

abbrev pub path_of : List ℕ → List ℕ
path_of rest = 47 ∷ after_first (λ b. b == 47) (before_query rest)

-- whether an authority begins with a `[`, as one with an IPv6 address does
abbrev pub is_bracketed : List ℕ → Bool
is_bracketed authority = starts_with nat_eq authority (codes "[")

-- `]`
abbrev pub is_end : ℕ → Bool
is_end byte = byte == 93

-- The host: with a bracket up to the first `]`, and without one up to the first colon. (RFC 3986,
-- sections 3.2.2 and 3.2.3; that there is no user: profile)
unfoldable pub host_of : List ℕ → List ℕ
host_of authority =
    if is_bracketed authority then before_first is_end authority ++ codes "]"
    else before_first (λ b. b == 58) authority

-- the port that comes after the host; none where a bracket stays open
unfoldable pub port_in : List ℕ → Option ℕ
port_in authority =
    if is_bracketed authority
    then (if list_any is_end authority then port_after (after_first is_end authority) else None)
    else port_of (after_first (λ b. b == 58) authority)

-- the place that a URL without its scheme names
abbrev pub place_of : Bool → List ℕ → Option Address
place_of is_base rest =
    option_and_then (λ port. allowed (record {
      host = host_of (authority_of rest);
      port = port;
      path = target_path is_base (path_of rest) (query_of rest);
      fields = [];
    })) (port_in (authority_of rest))

-- the place that a URL names, for traces or as a base of all signals
unfoldable pub endpoint : Bool → List ℕ → Option Address
endpoint is_base url = option_and_then (place_of is_base) (after_scheme url)

abbrev pub endpoint_of : Bool → Variable → Pairs → Option Address
endpoint_of is_base variable pairs = read_by (endpoint is_base) (text_set variable pairs)

abbrev pub endpoint_faults : Bool → Variable → Instead → Pairs → List Fault
endpoint_faults is_base variable other pairs =
    faults_by (endpoint is_base) variable other (text_set variable pairs)

-- where a collector on the same machine takes traces (OTLP Specification, OTLP/HTTP Default Port)
abbrev pub default_address : Address
default_address =
    record { host = codes "localhost"; port = 4318; path = codes "/v1/traces"; fields = [] }

-- That of traces as it is, where it is set, and else the base of all signals.
unfoldable pub target_of : Pairs → Address
target_of pairs =
    unwrap_or (option_or (endpoint_of false variables.OtlpTracesEndpoint pairs)
    (endpoint_of true variables.OtlpEndpoint pairs)) default_address

unfoldable pub target_faults : List Fault → Pairs → List Fault
target_faults before pairs =
    before
    ++ endpoint_faults true variables.OtlpEndpoint instead.DefaultEndpoint pairs
    ++ endpoint_faults false variables.OtlpTracesEndpoint
    (instead.Variable variables.OtlpEndpoint) pairs
