-- What a run begins with.
use Rattle.std.specs.Prelude.{map}
use Rattle.rand_core.specs.Stream.{Stream}
use Rattle.model_span.specs.Sampling.{SamplerMeaning}
use Rattle.model_run.specs.Answers as model
use Rattle.otlp_ids.specs.WordStream.{words_of}
use Rattle.otlp_span.specs.Parts.{limits_view, resource_view, scope_view}
use Rattle.batch_desk.specs.Views.{config_view}
use Rattle.trace_run.specs.declared.config.RunConfig.{RunConfig}

-- with what the sampler means and the words that the generator gives
abbrev pub run_config : {S R A : Type 0} → (S → SamplerMeaning) → (R → Stream) → RunConfig S R A
    → model.RunConfig
run_config meaning stream c = record {
  setup = record {
    words = words_of (stream c.rng);
    provider = record {
      sampler = meaning c.sampler;
      resource = resource_view c.resource;
      limits = limits_view c.limits;
    };
    scopes = map scope_view c.scopes.items;
  };
  desk = config_view c.desk;
  retry = c.retry;
  max_body = c.max_body;
}
