-- How the span of a request starts. (Semantic Conventions, HTTP spans; Trace API, Span Creation)
use Rattle.std.specs.Prelude.{◌≡◌, ℕ, List, [], ◌∷◌, map, Option, Some, None}
use Rattle.rand_core.specs.Stream.{Stream}
use Rattle.model_span.specs.Attributes.{Attribute}
use Rattle.model_span.specs.Sampling.{valid_parent}
use Rattle.model_span.specs.Spans.{Context, Kind, set_attribute}
use Rattle.model_span.specs.Starts.{HeldSpan, StartedSpan, Tracer, held_span, ids_words}
use Rattle.model_span.specs.Starts.{start_request, started_span}
use Rattle.otlp_ids.specs.WordStream.{Spends, words_of}
use Rattle.trace_api.specs.Endings.{text_pair}
use Rattle.trace_api.specs.Starts.{StartTakesMemory}
use Rattle.trace_api.specs.declared.provider.StartFault.{StartFault}
use Rattle.trace_api.specs.declared.provider.StartFault.TheVariants.{NoRandomness, OutOfMemory}

-- the attribute of this key, if there is a text for it
abbrev pub text_pairs : List ℕ → Option (List ℕ) → List Attribute
text_pairs key None = []
text_pairs key (Some text) = text_pair key text ∷ []

-- A span has started so: with this parent, name, kind and attributes. The generator has given the
-- words of its identifiers, and no others.
pub record StartsSpan (tracer : Tracer) (old new : Stream) (parent : Option Context)
    (name : List ℕ) (kind : Kind) (pairs : List Attribute) (at : ℕ) (span : HeldSpan)
    : Type 0 where
  pub s : StartedSpan
  pub started : started_span tracer (start_request parent name kind at) (words_of old) ≡ Some s
  pub held : span ≡ held_span s (map set_attribute pairs)
  pub spent : Spends (ids_words (valid_parent parent)) old new

-- Why no span has started so. There is no randomness just where the generator's words are only
-- zeros, and it has given them. Else memory was refused: before identifiers were drawn, when the
-- generator has given no word; or after that, for a span that takes some.
pub data StartsNone (tracer : Tracer) (old new : Stream) (parent : Option Context)
    (name : List ℕ) (kind : Kind) (at : ℕ) (fault : StartFault) : Type 0 where
  undrawn : new ≡ old → fault ≡ OutOfMemory → StartsNone tracer old new parent name kind at fault
  zeros : started_span tracer (start_request parent name kind at) (words_of old) ≡ None
      → Spends (ids_words (valid_parent parent)) old new → fault ≡ NoRandomness
      → StartsNone tracer old new parent name kind at fault
  refused : (s : StartedSpan)
      → started_span tracer (start_request parent name kind at) (words_of old) ≡ Some s
      → StartTakesMemory s → Spends (ids_words (valid_parent parent)) old new
      → fault ≡ OutOfMemory → StartsNone tracer old new parent name kind at fault

-- the span that has started so, or none, since it could not start
abbrev pub StartsIfAny : Tracer → Stream → Stream → Option Context → List ℕ → Kind → List Attribute
    → ℕ → Option HeldSpan → Type 0
StartsIfAny tracer old new parent name kind pairs at (Some span) =
    StartsSpan tracer old new parent name kind pairs at span
StartsIfAny tracer old new parent name kind pairs at None =
    (fault : StartFault) × StartsNone tracer old new parent name kind at fault
