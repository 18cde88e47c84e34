-- The fields of an answer that let a page of another origin post. (Fetch standard, "HTTP responses"
-- of the CORS protocol)
use Rattle.std.specs.Prelude.{◌≡◌, ◌⊎◌, ℕ, bytes_eq, if◌then◌else◌, List, [], ◌∷◌, ◌++◌, codes}
use Rattle.std.specs.Prelude.{Option, Some, None}
use Rattle.http.specs.declared.request.Parts.{Parts as Head}
use Rattle.http1.specs.Fields.{Header}
use Rattle.http_listener.specs.Origins.{has_origin}
use Rattle.http_header.specs.FieldValue.{FieldValue}
use Rattle.http_header.specs.HeaderMap.{get_all}
use Rattle.http_server.specs.Response.{fields_of}
use Rattle.http_server.specs.declared.response.Response.{Response}
use Rattle.http_uri.specs.Uri.{uri_path}

-- the value, where there is just one
abbrev pub only_value : List FieldValue → Option FieldValue
only_value [] = None
only_value (value ∷ []) = Some value
only_value (value ∷ next ∷ values) = None

-- the value of a field that a head has once
abbrev pub value_in : List ℕ → Head → Option FieldValue
value_in name head = only_value (get_all head.headers name)

-- The fields that a request is about to have: it may have all for which a browser asks.
-- ("Access-Control-Allow-Headers")
abbrev pub asked_fields : Option FieldValue → List Header
asked_fields None = []
asked_fields (Some names) = (codes "access-control-allow-headers", names.bytes) ∷ []

-- What a browser asks for before it posts (a preflight): that it may, with which fields, and for
-- how many seconds it needn't ask again. (ten minutes: profile)
abbrev pub posting_fields : Head → List Header
posting_fields head = (codes "access-control-allow-methods", codes "POST")
    ∷ (codes "access-control-max-age", codes "600")
    ∷ asked_fields (value_in (codes "access-control-request-headers") head)

-- those where it asks, which it does by the method OPTIONS
abbrev pub preflight_fields : Head → List Header
preflight_fields head =
    if bytes_eq head.method (codes "OPTIONS") then posting_fields head else []

-- The answer may be read by a page of this origin, which may send its cookies along, as
-- `navigator.sendBeacon` does; for another origin it would have other fields.
abbrev pub allow_fields : List ℕ → Head → List Header
allow_fields origin head = (codes "access-control-allow-origin", origin)
    ∷ (codes "access-control-allow-credentials", codes "true")
    ∷ (codes "vary", codes "origin") ∷ preflight_fields head

-- those where an origin is said, and is one of these
abbrev pub fields_for : List (List ℕ) → Option FieldValue → Head → List Header
fields_for origins None head = []
fields_for origins (Some origin) head =
    if has_origin origins origin.bytes then allow_fields origin.bytes head else []

-- The fields for a request: there are some only at this path, and only for one of these origins.
abbrev pub cors_fields : List (List ℕ) → List ℕ → Head → List Header
cors_fields origins path head =
    if bytes_eq (uri_path head.uri) path
    then fields_for origins (value_in (codes "origin") head) head
    else []

-- The response, with the fields for a request after its own; without them where memory was refused.
pub record AllowsOrigin (origins : List (List ℕ)) (path : List ℕ) (head : Head)
    (plain response : Response) : Type 0 where
  pub status : response.status ≡ plain.status
  pub body : response.body ≡ plain.body
  pub fields : (fields_of response ≡ fields_of plain ++ cors_fields origins path head)
      ⊎ (fields_of response ≡ fields_of plain)

-- the same for the head of a request, if it is known
abbrev pub AllowsKnown : List (List ℕ) → List ℕ → Option Head → Response → Response → Type 0
AllowsKnown origins path None plain response = response ≡ plain
AllowsKnown origins path (Some head) plain response =
    AllowsOrigin origins path head plain response
