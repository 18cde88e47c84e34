-- Requests whose bodies come in a coding. (RFC 9110, section 8.4)
use Rattle.std.specs.Prelude.{ℕ, List, [], ◌∷◌, codes}
use Rattle.otlp_serve.specs.Posts.{HttpPost}
use Rattle.worked_sdk.specs.Posted.{under}

-- a post of this body, with these values of Content-Encoding
abbrev pub coded : List (List ℕ) → List ℕ → HttpPost
coded values body = record {
  method = codes "POST";
  target = codes "/v1/traces";
  fields = under (codes "content-encoding") values;
  body = body;
}

-- a post of this body, of this type
abbrev pub of_type : List ℕ → List ℕ → HttpPost
of_type value body = record {
  method = codes "POST";
  target = codes "/v1/traces";
  fields = under (codes "content-type") (value ∷ []);
  body = body;
}
