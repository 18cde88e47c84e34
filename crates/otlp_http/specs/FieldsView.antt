-- What the fields of a program are in contracts.
use Rattle.std.specs.Prelude.{List, map, String, string_bytes}
use Rattle.otlp_http.specs.Fields.{Field}

-- each name and value as its bytes
abbrev pub fields_view : {A : Type 0} → List (String A × String A) → List Field
fields_view fields = map (λ f. (string_bytes f.0, string_bytes f.1)) fields
