-- Resources and scopes as received in the model, and what was gathered of their fields.
-- (opentelemetry-proto)
use Rattle.std.specs.Prelude.{string_bytes}
use Rattle.model_message.specs.Tables
use Rattle.model_message.specs.Tables.{Message, ◌▸◌}
use Rattle.otlp_read.specs.declared.resource.Resource.{Resource}
use Rattle.otlp_read.specs.declared.resource.InstrumentationScope.{InstrumentationScope}
use Rattle.otlp_read.specs.declared.resource.ResourceParts.{ResourceParts}
use Rattle.otlp_read.specs.declared.resource.InstrumentationScopeParts.{InstrumentationScopeParts}
use Rattle.otlp_wire.specs.Gathering.{Gathered}
use Rattle.otlp_read.specs.Values.{pairs_view}

-- (resource.proto: Resource)
abbrev pub resource_view : {A : Type 0} → Resource A → Message Tables.resource
resource_view x =
    pairs_view x.attributes.items ▸ x.dropped_attributes_count ▸ tt

-- what was gathered of its fields
abbrev pub resource_gathered : {A : Type 0} → ResourceParts A → Gathered Tables.resource
resource_gathered x =
    pairs_view x.attributes.items ▸ x.dropped_attributes_count ▸ tt

-- (common.proto: InstrumentationScope)
abbrev pub scope_view : {A : Type 0} → InstrumentationScope A → Message Tables.scope
scope_view x =
    string_bytes x.name ▸ string_bytes x.version ▸ pairs_view x.attributes.items ▸
    x.dropped_attributes_count ▸ tt

-- what was gathered of its fields
abbrev pub scope_gathered : {A : Type 0} → InstrumentationScopeParts A → Gathered Tables.scope
scope_gathered x =
    x.name.now ▸ x.version.now ▸ pairs_view x.attributes.items ▸ x.dropped_attributes_count ▸ tt
