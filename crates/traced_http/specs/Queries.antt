-- Queries of URLs, without the secrets in them. (RFC 3986, section 3.4; Semantic Conventions,
-- url.query, url.full)
use Rattle.std.specs.Prelude.{ℕ, Bool, ◌==◌, if◌then◌else◌, List, [], ◌∷◌, ◌++◌, codes, bytes_eq}
use Rattle.std.specs.List.{after_first, before_first, join_by, list_any, slice_split}

-- The names of the parameters whose values are secrets, in just these letters. (Semantic
-- Conventions, url.query; those with X-Amz: AWS Signature Version 4)
abbrev pub secret_names : List (List ℕ)
secret_names =
    codes "AWSAccessKeyId" ∷ codes "Signature" ∷ codes "sig" ∷ codes "X-Goog-Signature"
    ∷ codes "X-Amz-Credential" ∷ codes "X-Amz-Security-Token" ∷ codes "X-Amz-Signature" ∷ []

-- whether a parameter of this name has a secret
unfoldable pub is_secret : List ℕ → Bool
is_secret name = list_any (bytes_eq name) secret_names

-- what is before the first `=` of a parameter, or all of it
abbrev pub name_of : List ℕ → List ℕ
name_of parameter = before_first (λ b. b == 61) parameter

-- a parameter with the word REDACTED in place of its value, if that is a secret
unfoldable pub redacted_parameter : List ℕ → List ℕ
redacted_parameter parameter =
    if is_secret (name_of parameter) then name_of parameter ++ codes "=REDACTED" else parameter

-- a query: its parameters, with an `&` between each two
unfoldable pub redacted_query : List ℕ → List ℕ
redacted_query query = join_by redacted_parameter (codes "&") (slice_split (λ b. b == 38) query)

-- whether it is a `?`, which a query comes after
abbrev pub is_question : ℕ → Bool
is_question byte = byte == 63

-- a path, and its query if it has one
unfoldable pub redacted_path : List ℕ → List ℕ
redacted_path path =
    if list_any is_question path
    then before_first is_question path ++ codes "?" ++ redacted_query (after_first is_question path)
    else path
