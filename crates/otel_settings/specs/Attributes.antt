-- The attributes of a resource. (OpenTelemetry Specification, Resource SDK; Environment Variable
-- Specification, General SDK Configuration)
use Rattle.std.specs.Prelude.{◌-◌, ◌^◌, List, map, None}
use Rattle.model_span.specs.Attributes.{Attribute, Limits, attributes, text}
use Rattle.otel_settings.specs.ResourcePairs.{Pair}

-- a pair as an attribute: each value is a text (Resource SDK, Specifying resource information via
-- an environment variable)
abbrev pub attribute_of : Pair → Attribute
attribute_of pair = record { key = pair.0; value = text pair.1 }

-- a resource has no limits (Common, Attribute Limits; the greatest count: profile)
abbrev pub no_limits : Limits
no_limits = record { count = 2 ^ 32 - 1; length = None }

-- The attributes of pairs: of equal keys the last one counts, in the place of the first. (Common,
-- Attribute Collections: keys are unique; the last: profile)
abbrev pub attributes_of : List Pair → List Attribute
attributes_of pairs = (attributes no_limits (map attribute_of pairs)).items
