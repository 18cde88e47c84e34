-- The fields of an answer that a browser may get.
use Rattle.std.proofs.Common.{◌≡◌, ◌≢◌, ◌∷◌, refl, codes}
use Rattle.otlp_receiver.specs.Formats.{format_fields, safety_fields, type_of}
use Rattle.otlp_receiver.specs.declared.reply.format.Format.{Format}
use Rattle.otlp_receiver.specs.declared.reply.format.Format.TheVariants as formats

-- The fields of every format but Protobuf are its content type and the browser's safety fields.
pub safe_unless : (format : Format) → format ≢ formats.Protobuf
    → format_fields format ≡ (codes "content-type", type_of format) ∷ safety_fields
safe_unless formats.Html other = refl
safe_unless formats.Css other = refl
safe_unless formats.JavaScript other = refl
safe_unless formats.Text other = refl
safe_unless formats.Json other = refl
safe_unless formats.Prometheus other = refl
safe_unless formats.Protobuf other = absurd (other refl)
