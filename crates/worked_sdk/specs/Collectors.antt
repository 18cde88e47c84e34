-- Where the requests of the examples go.
use Rattle.std.specs.Prelude.{ℕ, List, [], ◌∷◌, codes}
use Rattle.otlp_http.specs.Address.{Address}

-- a place to which requests have no fields of a program's own
abbrev pub place : List ℕ → ℕ → List ℕ → Address
place host port path = record { host = host; port = port; path = path; fields = [] }

-- a collector on this machine, as it is by default
abbrev pub local : Address
local = place (codes "127.0.0.1") 4318 (codes "/v1/traces")

-- one elsewhere
abbrev pub elsewhere : Address
elsewhere = place (codes "a-1.test") 0 (codes "/?q=~")

-- the same one, to which requests have two fields of a program's own
abbrev pub with_two : Address
with_two = record elsewhere {
  fields = (codes "api-key", codes "s3cret") ∷ (codes "X-Scope", codes "a \tb") ∷ [];
}
