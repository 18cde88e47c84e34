-- What a sampler is asked when a span starts, and what it decides. (Trace SDK, Sampling)
use Rattle.std.specs.Prelude.{ℕ, List, Bool, true, false, Option, Some, None, if◌then◌else◌}
use Rattle.std.specs.Option.{option_map_or}
use Rattle.model_span.specs.Spans.{Context, Kind, is_valid}
use Rattle.model_span.specs.Identifiers.{has_sampled_flag}

-- (Trace SDK, Sampling: ShouldSample)
pub data Decision : Type 0 where
  drop record_only record_and_sample : Decision

-- the span keeps what its calls set (Trace SDK, Sampling: IsRecording)
abbrev pub is_recording : Decision → Bool
is_recording drop = false
is_recording record_only = true
is_recording record_and_sample = true

-- the span goes to the processors, and its sampled flag is set (Trace SDK, Sampling: Sampled)
abbrev pub is_sampled : Decision → Bool
is_sampled drop = false
is_sampled record_only = false
is_sampled record_and_sample = true

-- The parent that counts: an invalid one is none. (Trace SDK, Sampling: ShouldSample; profile)
abbrev pub valid_parent : Option Context → Option Context
valid_parent None = None
valid_parent (Some c) = if is_valid c then Some c else None

-- What a sampler is asked about a span that starts: the parent that counts, if there is one, the
-- span's trace id, its name and its kind. (Trace SDK, Sampling: ShouldSample; without links and
-- attributes: profile)
pub record Question : Type 0 where
  pub parent : Option Context
  pub trace : List ℕ
  pub name : List ℕ
  pub kind : Kind

-- what a sampler decides for each span
abbrev pub SamplerMeaning : Type 0
SamplerMeaning = Question → Decision

-- (Trace SDK, Built-in samplers: AlwaysOn)
abbrev pub always_on : SamplerMeaning
always_on span = record_and_sample

-- (Trace SDK, Built-in samplers: AlwaysOff)
abbrev pub always_off : SamplerMeaning
always_off span = drop

-- five samplers, of which the parent picks one (Trace SDK, Built-in samplers: ParentBased)
pub record ByParent : Type 0 where
  pub root : SamplerMeaning
  pub remote_parent_sampled : SamplerMeaning
  pub remote_parent_not_sampled : SamplerMeaning
  pub local_parent_sampled : SamplerMeaning
  pub local_parent_not_sampled : SamplerMeaning

-- the one that the parent picks (Trace SDK, Built-in samplers: ParentBased)
abbrev pub picked_sampler : ByParent → Option Context → SamplerMeaning
picked_sampler five None = five.root
picked_sampler five (Some parent) =
    if parent.remote
    then (if has_sampled_flag parent.flags then five.remote_parent_sampled
    else five.remote_parent_not_sampled)
    else (if has_sampled_flag parent.flags then five.local_parent_sampled
    else five.local_parent_not_sampled)

-- decides as the one that the parent picks (Trace SDK, Built-in samplers: ParentBased)
abbrev pub parent_based : ByParent → SamplerMeaning
parent_based five span = picked_sampler five span.parent span

-- A root is for the sampler to decide. Any other span is sampled exactly where its parent is, and
-- else dropped. (Trace SDK, Built-in samplers: ParentBased, the defaults)
abbrev pub as_parent : SamplerMeaning → SamplerMeaning
as_parent root span =
    option_map_or
    (λ parent. if has_sampled_flag parent.flags then record_and_sample else drop) span.parent
    (root span)
