-- What settings are in contracts.
use Rattle.std.specs.Prelude.{option_map, string_bytes}
use Rattle.batch_desk.specs.Views.{config_view}
use Rattle.otlp_span.specs.Parts.{limits_view}
use Rattle.otlp_value.specs.Value.{attributes_view}
use Rattle.otel_settings.specs.declared.settings.Settings.{Settings}
use Rattle.otel_settings.specs.Settings as settings
use Rattle.otel_settings.specs.Faults.{faults_view}

abbrev pub settings_view : {A : Type 0} → Settings A → settings.Settings
settings_view s = record {
  disabled = s.disabled;
  resource = attributes_view s.resource.items;
  service_name = option_map string_bytes s.service_name;
  sampler = s.sampler;
  desk = config_view s.desk;
  export_timeout_ms = s.export_timeout_ms;
  limits = limits_view s.limits;
  target = s.target;
  coding = s.coding;
  timeout_ms = s.timeout_ms;
  known_methods = string_bytes s.known_methods;
  faults = faults_view s.faults.items;
}
