-- The batch of one span.
use Rattle.std.proofs.Common.{◌≡◌, [], ◌++◌, length, refl, arith, Some, codes, subst}
use Rattle.std.specs.Fmt.{digits}
use Rattle.std.proofs.lemmas.Bool.{leb-true}
use Rattle.model_message.specs.Reading.{Reads}
use Rattle.model_message.specs.Messages.{body_meaning, meaning}
use Rattle.model_message.specs.Tables
use Rattle.model_export.specs.Export.{grouped_triples}
use Rattle.http_wire.specs.Devices.{HasFailed}
use Rattle.otlp_http.specs.Request.{request_head, request_text}
use Rattle.otlp_serve.specs.Posts.{IsPost}
use Rattle.worked_trace.specs.Bytes.{plain_body}
use Rattle.worked_trace.specs.Hex.{hex}
use Rattle.worked_trace.specs.Read.{read}
use Rattle.worked_trace.specs.Samples.{ended_span_of}
use Rattle.worked_trace.specs.Written.{request_with}
use Rattle.law_export.specs.Delivery.{Arrives, Carries, IsAllowed}
use Rattle.law_export.specs.SmallBatch.{batch, local, request_bytes, small}
use Rattle.law_export.proofs.Bytes.{host_bytes}
use Rattle.law_export.proofs.Arrived.{never_failed}
use Rattle.law_export.proofs.Sent.{is_post, post}

-- The body carries the span.
pub carried : Carries plain_body batch
unfolding hex ended_span_of request_with read grouped_triples body_meaning
carried = (refl, refl)

-- The body means the request that has the span.
pub means : Reads (meaning Tables.request plain_body) (request_with batch)
unfolding hex ended_span_of request_with read
means = (refl, refl)

text : request_text local plain_body ++ [] ≡ request_bytes
unfolding hex request_head digits
text = refl

allowed : IsAllowed small local plain_body
unfolding hex request_head digits
allowed = record {
  head_bytes = leb-true (length (request_head local (length plain_body))) 127 refl;
  four_fields = omega arith;
  body_bytes = omega arith;
  counted = omega arith;
}

-- The request comes to a collector whose limits just allow it.
pub comes : Arrives small local plain_body (Some request_bytes) 0 0
unfolding hex request_head digits
comes = record {
  appended = [];
  whole = refl;
  sound = never_failed;
  address_is = record {
    target = record {
      host = refl;
      path = refl;
      fields = record { valid = refl; short = leb-true 0 8192 refl };
      short = omega arith;
    };
    port = omega arith;
    path = refl;
    plain = refl;
  };
  allowed = allowed;
}

-- The bytes of the request are read as this request, and no bytes are left.
pub came : IsPost small (Some request_bytes) (Some []) (HasFailed 0 0)
    (post (codes "127.0.0.1") 4318 plain_body)
came =
    subst (λ bytes.
    IsPost small (Some bytes) (Some []) (HasFailed 0 0) (post (codes "127.0.0.1") 4318 plain_body))
    text
    (is_post small (codes "127.0.0.1") 4318 plain_body [] (HasFailed 0 0) (record {
      visible = host_bytes (codes "127.0.0.1") refl;
      fits = omega arith;
      allowed = allowed;
    }))
