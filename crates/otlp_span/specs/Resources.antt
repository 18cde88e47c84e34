-- The resource of a service. (OpenTelemetry Specification, Resource SDK, SDK-provided resource
-- attributes, Merge; Semantic Conventions, Service, Telemetry SDK)
use Rattle.std.specs.Prelude.{ℕ, ◌-◌, ◌^◌, List, [], ◌∷◌, ◌++◌, None, codes, if◌then◌else◌}
use Rattle.model_span.specs.Attributes.{Attribute, Limits, attributes, is_empty, text}
use Rattle.model_span.specs.Spans.{Resource}

-- the name of a service that has one
abbrev pub name_or_unknown : List ℕ → List ℕ
name_or_unknown name = if is_empty name then codes "unknown_service" else name

-- an attribute whose value is a text
abbrev pub text_pair : List ℕ → List ℕ → Attribute
text_pair key value = record { key = key; value = text value }

-- the name of the service, and what makes its spans, in this version
abbrev pub service_attributes : List ℕ → List ℕ → List Attribute
service_attributes version name =
    text_pair (codes "service.name") (name_or_unknown name)
    ∷ text_pair (codes "telemetry.sdk.language") (codes "rattle")
    ∷ text_pair (codes "telemetry.sdk.name") (codes "dulhafrin")
    ∷ text_pair (codes "telemetry.sdk.version") version ∷ []

abbrev pub service_resource : List ℕ → List ℕ → Resource
service_resource version name =
    record { attributes = service_attributes version name; schema = [] }

-- a resource has no limits (Common, Attribute Limits; the greatest count: profile)
abbrev pub no_limits : Limits
no_limits = record { count = 2 ^ 32 - 1; length = None }

-- A resource with these attributes over its own: of equal keys the last value counts, in the place
-- of the first. (Resource SDK, Merge)
abbrev pub overlaid : Resource → List Attribute → Resource
overlaid own others = record {
  attributes = (attributes no_limits (own.attributes ++ others)).items;
  schema = own.schema;
}
