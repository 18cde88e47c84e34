-- Settings of retries, and what is asked of them; and of processors.
use Rattle.std.specs.Prelude.{ℕ, Some}
use Rattle.model_desk.specs.Retries.{RetryAfter, later, no_reply, Next}
use Rattle.model_desk.specs.Waits.{RetryConfig, next_after}
use Rattle.batch_processor.specs.declared.config.BatchConfig.{BatchConfig}

-- five attempts, waits of at most 1 second first and of at most 30 seconds
abbrev pub usual : RetryConfig
usual = record { attempts = 5; initial_ms = 1000; max_ms = 30000; least_ms = 0 }

-- the same, with no wait below 2 seconds
abbrev pub patient : RetryConfig
patient = record usual { least_ms = 2000 }

-- what follows from an attempt without a reply, at a moment, where a random word was drawn
abbrev pub silence : ℕ → ℕ → ℕ → Next
silence attempt now word = next_after usual attempt no_reply now word

-- what follows from the first attempt, at a moment, where its reply asks for a wait
abbrev pub asked : RetryAfter → ℕ → Next
asked wait now = next_after usual 1 (later 503 (Some wait)) now 0

-- settings of a processor, whose queue and whose batch have room for so many spans
abbrev pub sized : ℕ → ℕ → BatchConfig
sized queue batch = record {
  desk = record { queue = queue; batch = batch; delay_ms = 5000 };
  retry = usual;
  max_body = 65536;
}
