-- What a traced service is started with.
use Rattle.std.specs.Prelude.{◌≡◌, ℕ, List, Bool, if◌then◌else◌}
use Rattle.model_desk.specs.Desks.{DeskConfig}
use Rattle.otlp_http.specs.Address.{Address}
use Rattle.otlp_http.specs.declared.request.Coding.{Coding}
use Rattle.otlp_span.specs.Resources.{overlaid, service_resource}
use Rattle.trace_api.specs.Starts.{ProviderWith}
use Rattle.otel_settings.specs.Faults.{Fault}
use Rattle.otel_settings.specs.Settings.{Settings, request_timeout}
use Rattle.otel_settings.specs.declared.sampler.NamedSampler.{NamedSampler}
use Rattle.otel_settings.specs.declared.sampler.SamplerName.TheVariants.{AlwaysOff}

-- the sampler of the settings, or one that samples no span where tracing is off (Environment
-- Variable Specification, General SDK Configuration, OTEL_SDK_DISABLED)
abbrev pub sampler_of : Bool → NamedSampler → NamedSampler
sampler_of is_off sampler = if is_off then record sampler { name = AlwaysOff } else sampler

-- a service's setup: what its spans are made with, how they wait, where they go, in which coding
-- and in which time, what of the settings can't be used, and whether tracing is off
pub record Setup : Type 0 where
  pub provider : ProviderWith NamedSampler
  pub queue : DeskConfig
  pub target : Address
  pub coding : Coding
  pub timeout_ms : ℕ
  pub faults : List Fault
  pub is_off : Bool

-- The setup of the service with this name by these settings, under the kit's version. The
-- settings' attributes count before the service's own. (Environment Variable Specification)
abbrev pub setup_of : List ℕ → List ℕ → Settings → Setup
setup_of version name s = record {
  provider = record {
    sampler = sampler_of s.disabled s.sampler;
    resource = overlaid (service_resource version name) s.resource;
    limits = s.limits;
  };
  queue = s.desk;
  target = s.target;
  coding = s.coding;
  timeout_ms = request_timeout s.timeout_ms;
  faults = s.faults;
  is_off = s.disabled;
}

-- these are the parts of the setup
pub record IsOf (setup : Setup) (provider : ProviderWith NamedSampler) (queue : DeskConfig)
    (target : Address) (coding : Coding) (timeout_ms : ℕ) (faults : List Fault)
    (is_off : Bool) : Type 0 where
  pub same_provider : provider ≡ setup.provider
  pub same_queue : queue ≡ setup.queue
  pub same_target : target ≡ setup.target
  pub same_coding : coding ≡ setup.coding
  pub same_timeout : timeout_ms ≡ setup.timeout_ms
  pub same_faults : faults ≡ setup.faults
  pub same_is_off : is_off ≡ setup.is_off
