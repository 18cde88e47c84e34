-- A span that starts with attributes and no links, and one that ends with what came of its request.
use Rattle.std.proofs.Common.{◌≡◌, refl, ap, subst, ◌∙◌, ℕ, Bool, true, List, [], ◌++◌, map, Option}
use Rattle.std.proofs.Common.{None, Some}
use Rattle.std.proofs.Common.{Result, Ok, Err, IfErr, IfOk}
use Rattle.std.proofs.lemmas.List.{append-nil}
use Rattle.rand_core.specs.Stream.{Stream}
use Rattle.model_span.specs.Attributes.{Attribute}
use Rattle.model_span.specs.Sampling.{valid_parent}
use Rattle.model_span.specs.Spans.{Context, Kind, SpanData, set_attribute}
use Rattle.model_span.specs.Starts.{HeldSpan, Tracer, held_span, ids_words, start_request}
use Rattle.model_span.specs.Starts.{started_span}
use Rattle.otlp_ids.specs.WordStream.{Spends, words_of}
use Rattle.trace_api.specs.Endings.{Ending, ending_calls}
use Rattle.trace_api.specs.Ends.{EndsAs}
use Rattle.trace_api.specs.Request.{StartsWith}
use Rattle.trace_api.specs.declared.pass.Ended.{Ended}
use Rattle.trace_api.specs.declared.provider.StartFault.{StartFault}
use Rattle.trace_api.specs.declared.provider.StartFault.TheVariants.{NoRandomness, OutOfMemory}
use Rattle.traced_http.specs.Starts.{StartsIfAny, StartsNone, StartsSpan, refused, undrawn}
use Rattle.traced_http.specs.Starts.{zeros}

-- A span that starts with attributes has these, and spends the words of its identifiers.
pub starts-span : (tracer : Tracer) (old new : Stream) (parent : Option Context) (name : List ℕ)
    (kind : Kind) (pairs : List Attribute) (at : ℕ) (result : Result HeldSpan StartFault)
    → StartsWith (started_span tracer (start_request parent name kind at) (words_of old))
    (map set_attribute pairs ++ []) result
    → Spends (ids_words (valid_parent parent)) old new
    → IfOk result (StartsSpan tracer old new parent name kind pairs at)
starts-span tracer old new parent name kind pairs at (Ok span) h spent = record {
  s = h.0;
  started = h.1;
  held = h.2 ∙ ap (held_span h.0) (append-nil (map set_attribute pairs));
  spent = spent;
}
starts-span tracer old new parent name kind pairs at (Err fault) h spent = tt

-- Where a start is refused, it says why, and the words of the identifiers are spent.
pub starts-none : (tracer : Tracer) (old new : Stream) (parent : Option Context) (name : List ℕ)
    (kind : Kind) (pairs : List Attribute) (at : ℕ) (result : Result HeldSpan StartFault)
    → StartsWith (started_span tracer (start_request parent name kind at) (words_of old))
    (map set_attribute pairs ++ []) result
    → Spends (ids_words (valid_parent parent)) old new
    → IfErr result (StartsNone tracer old new parent name kind at)
starts-none tracer old new parent name kind pairs at (Ok span) h spent = tt
starts-none tracer old new parent name kind pairs at (Err NoRandomness) h spent = zeros h spent refl
starts-none tracer old new parent name kind pairs at (Err OutOfMemory) h spent =
    refused h.0 h.1 h.2 spent refl

-- Before the identifiers are drawn, the generator has given no word, and memory was refused.
pub starts_undrawn : (tracer : Tracer) (stream : Stream) (parent : Option Context) (name : List ℕ)
    (kind : Kind) (at : ℕ) (fault : StartFault) → fault ≡ OutOfMemory
    → StartsNone tracer stream stream parent name kind at fault
starts_undrawn tracer stream parent name kind at fault is = undrawn refl is

-- Where a start is refused, there is no span, for some reason.
pub starts_none : (tracer : Tracer) (old new : Stream) (parent : Option Context) (name : List ℕ)
    (kind : Kind) (pairs : List Attribute) (at : ℕ) (fault : StartFault)
    → StartsNone tracer old new parent name kind at fault
    → StartsIfAny tracer old new parent name kind pairs at None
starts_none tracer old new parent name kind pairs at fault h = (fault, h)

-- A span has started, also where the request is sent without it.
pub starts_with : (tracer : Tracer) (old new : Stream) (parent : Option Context) (name : List ℕ)
    (kind : Kind) (pairs : List Attribute) (at : ℕ) (span : HeldSpan)
    → StartsSpan tracer old new parent name kind pairs at span
    → (made : Option HeldSpan) × StartsIfAny tracer old new parent name kind pairs at made
starts_with tracer old new parent name kind pairs at span h = (Some span, h)

-- A span that ended with what came of a request ended with that, however it is said.
pub ends-as : {P : Type 0} (admits : P → SpanData → Ended → P → Type 0) (has_ended : Bool)
    (span : Option HeldSpan) (given meant : Ending) (at : ℕ) (before after : P) → given ≡ meant
    → (has_ended ≡ true
    → (held : HeldSpan) × (span ≡ Some held)
    × EndsAs admits (ending_calls given) at held before after)
    → has_ended ≡ true
    → (held : HeldSpan) × (span ≡ Some held)
    × EndsAs admits (ending_calls meant) at held before after
ends-as admits has_ended span given meant at before after is ends =
    subst (λ e. has_ended ≡ true
    → (held : HeldSpan) × (span ≡ Some held)
    × EndsAs admits (ending_calls e) at held before after)
    is ends
