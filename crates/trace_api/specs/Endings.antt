-- What a span says of what came of its request. (Semantic Conventions, HTTP spans, Status;
-- http.response.status_code; error.type)
use Rattle.std.specs.Prelude.{ℕ, pos, List, [], ◌∷◌, ◌++◌, codes, Option, Some, None}
use Rattle.std.specs.Option.{option_copied}
use Rattle.model_span.specs.Attributes.{Attribute, text, int}
use Rattle.model_span.specs.Spans.{Call, set_attribute, set_status, error}
use Rattle.trace_api.specs.declared.end.Ending as code

abbrev pub text_pair : List ℕ → List ℕ → Attribute
text_pair key t = record { key = key; value = text t }

abbrev pub int_pair : List ℕ → ℕ → Attribute
int_pair key n = record { key = key; value = int (pos n) }

-- what came of a request: the status that it was answered by, and what went wrong
pub record Ending : Type 0 where
  pub status : Option ℕ
  pub error_type : Option (List ℕ)

abbrev pub ending_view : code.Ending → Ending
ending_view e = record { status = e.status; error_type = option_copied e.error_type }

abbrev pub status_calls : Option ℕ → List Call
status_calls None = []
status_calls (Some status) =
    set_attribute (int_pair (codes "http.response.status_code") status) ∷ []

abbrev pub error_calls : List ℕ → List Call
error_calls what =
    set_attribute (text_pair (codes "error.type") what) ∷ set_status (error []) ∷ []

abbrev pub failure_calls : Option (List ℕ) → List Call
failure_calls None = []
failure_calls (Some what) = error_calls what

-- what is said of it, on the span
abbrev pub ending_calls : Ending → List Call
ending_calls e = status_calls e.status ++ failure_calls e.error_type
