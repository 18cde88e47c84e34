-- The bytes of a body. (OTLP Specification, OTLP/HTTP; which of the ways that Protocol Buffers
-- allow: profile)
use Rattle.std.specs.Prelude.{ℕ, List}
use Rattle.model_message.specs.Tables
use Rattle.model_message.specs.Canon.{canon}
use Rattle.model_export.specs.Export.{ResourceGroup, request_message}
use Rattle.otlp_span.specs.declared.reason.Reason.{Reason}
use Rattle.otlp_span.specs.declared.reason.Reason.TheVariants as reasons
use Rattle.otlp_proto.specs.declared.encoder.EncodeFault.{EncodeFault}
use Rattle.otlp_proto.specs.declared.encoder.EncodeFault.TheVariants as faults

-- those of the request that carries these groups
unfoldable pub body_bytes : List ResourceGroup → List ℕ
unfolding request_message
body_bytes groups = canon Tables.request (request_message groups)

-- the reason for which spans are dropped whose encoding ends so (profile)
abbrev pub reason_of : EncodeFault → Reason
reason_of faults.OutOfMemory = reasons.EncodeMemory
reason_of faults.TooLarge = reasons.TooLarge
