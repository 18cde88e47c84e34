-- The spans of a body, and the names by which they are known where they are lost.
-- (opentelemetry-proto, trace_service.proto: ExportTraceServiceRequest)
use Rattle.std.specs.Prelude.{◌≡◌, ℕ, List, [], map, flat_map, if◌then◌else◌}
use Rattle.model_message.specs.Tables
use Rattle.model_message.specs.Messages.{Triple, meaning, body_meaning}
use Rattle.model_desk.specs.Retries.{Fate}
use Rattle.model_desk.specs.Desks.{is_loss}

-- The body is a request: it is read without a fault.
abbrev pub IsReadable : List ℕ → Type 0
IsReadable body = (meaning Tables.request body).faults ≡ []

-- Its spans, each with its scope and its resource, in the order of reading. Of a body with a fault
-- these are the spans that would be read if no fault counted. (the latter: profile)
unfoldable pub spans_in : List ℕ → List Triple
unfolding body_meaning
spans_in body = (body_meaning body).value

-- A span that is lost: its trace id and its span id, as they were received, and how the body that
-- it is in ended. (trace.proto: Span; profile)
pub record LostSpan : Type 0 where
  pub trace : List ℕ
  pub span : List ℕ
  pub fate : Fate

-- the name of this span, lost by this fate
abbrev pub lost_as : Fate → Triple → LostSpan
lost_as fate x = record { trace = x.span.0; span = x.span.1.0; fate = fate }

-- the names of the spans of a body, which is lost by this fate, in order
abbrev pub names_in : Fate → List ℕ → List LostSpan
names_in fate body = map (lost_as fate) (spans_in body)

-- the names of the spans of bodies that ended by this fate, where they are lost, else none
abbrev pub lost_names : Fate → List (List ℕ) → List LostSpan
lost_names fate bodies = if is_loss fate then flat_map (names_in fate) bodies else []
