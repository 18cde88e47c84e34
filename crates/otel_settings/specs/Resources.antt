-- What makes the spans. (OpenTelemetry Specification, Resource SDK, Specifying resource information
-- via an environment variable; Environment Variable Specification, General SDK Configuration)
use Rattle.std.specs.Prelude.{ℕ, List, [], ◌∷◌, ◌++◌, Option, Some, None, codes, unwrap_or}
use Rattle.model_span.specs.Attributes.{Attribute}
use Rattle.otel_settings.specs.Attributes.{attributes_of}
use Rattle.otel_settings.specs.ResourcePairs.{Pair, pairs_of}
use Rattle.otel_settings.specs.declared.variable.Variable.TheVariants as variables
use Rattle.otel_settings.specs.declared.fault.Instead.TheVariants as instead
use Rattle.otel_settings.specs.Pairs.{Pairs, text_set}
use Rattle.otel_settings.specs.Faults.{Fault, read_by, faults_by}

-- the pairs of OTEL_RESOURCE_ATTRIBUTES; none where any of it can't be read
abbrev pub resource_pairs : Pairs → List Pair
resource_pairs pairs =
    unwrap_or (read_by pairs_of (text_set variables.ResourceAttributes pairs)) []

-- the name of the service, as a pair (Semantic Conventions, Service)
abbrev pub name_pair : Option (List ℕ) → List Pair
name_pair None = []
name_pair (Some name) = (codes "service.name", name) ∷ []

-- The last of equal keys counts: OTEL_SERVICE_NAME wins over `service.name` in
-- OTEL_RESOURCE_ATTRIBUTES. (Environment Variable Specification: it takes precedence)
unfoldable pub resource_of : Pairs → List Attribute
resource_of pairs =
    attributes_of (resource_pairs pairs ++ name_pair (text_set variables.ServiceName pairs))

-- the faults before it, and then its own
unfoldable pub resource_faults : List Fault → Pairs → List Fault
resource_faults before pairs =
    before
    ++ faults_by pairs_of variables.ResourceAttributes instead.NoAttributes
    (text_set variables.ResourceAttributes pairs)
