-- The body of spans is the one that is meant.
use Rattle.std.proofs.Common.{◌≡◌, ℕ, List, refl, ◌∙◌}
use Rattle.model_message.specs.Reading.{Reads}
use Rattle.model_message.specs.Messages.{body_meaning}
use Rattle.model_span.specs.Spans.{SpanData}
use Rattle.model_export.specs.Export.{groups, grouped_triples}
use Rattle.otlp_proto.specs.Bodies.{body_bytes}
use Rattle.model_processor.specs.Batches.{IsBodyOf, canonical_body}

same_bytes : (spans : List SpanData) → body_bytes (groups spans) ≡ canonical_body spans
unfolding body_bytes canonical_body
same_bytes spans = refl

-- A body that reads as these spans, with the bytes that their encoding has, is their body.
pub body_is : (spans : List SpanData) (body : List ℕ)
    → Reads (body_meaning body) (grouped_triples spans) → body ≡ body_bytes (groups spans)
    → IsBodyOf spans body
body_is spans body means is = record { means = means; canonical = is ∙ same_bytes spans }
