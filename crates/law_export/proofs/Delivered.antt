-- One batch, end to end.
use Rattle.std.proofs.Common.{◌≡◌, ℕ, List, [], ap, subst, ◌∙◌, inl, inr, Option, Some, None}
use Rattle.std.specs.Prelude.{option_map}
use Rattle.std.specs.Option.{option_map_or}
use Rattle.std.specs.Io.KnownBytes.{Appends}
use Rattle.model_message.specs.Tables
use Rattle.model_message.specs.Tables.{Message}
use Rattle.model_span.specs.Spans.{SpanData}
use Rattle.http_wire.specs.declared.limits.HeadLimits.{HeadLimits}
use Rattle.otlp_http.specs.Address.{Address}
use Rattle.otlp_serve.specs.declared.reply.PostReply.{PostReply}
use Rattle.otlp_serve.specs.Replies.{code_of, reply_text}
use Rattle.otlp_collector.specs.Answering.{Judges}
use Rattle.law_export.specs.Requests.{BytesMeanOnePost}
use Rattle.law_export.specs.Delivery.{Arrives, Carries, BatchArrives, BrokenReplyIsOneOfTwo, IsCut}
use Rattle.law_export.specs.Delivery.IsDelivered.{refused, taken}
use Rattle.law_export.proofs.Arrived.{known, stands}
use Rattle.law_export.proofs.Judged.{Verdict, wanting, whole, judged}

verdict : (one_post : BytesMeanOnePost) (limits : HeadLimits) (address : Address)
    (spans : List SpanData) (body : List ℕ) (old new : Option (List ℕ)) (before after : ℕ)
    (reply : Option PostReply) (request : Option (Message Tables.request))
    → Carries body spans → Arrives limits address body old before after
    → Judges limits None old new before after reply request → Verdict spans reply request
verdict one_post limits address spans body old new before after reply request carries a judges =
    judged one_post limits _ body new spans before after reply request
    (stands limits address body old before after a) carries
    (subst (λ known. Judges limits None known new before after reply request)
    (known limits address body old before after a) judges)

-- A batch that arrives is taken with 200, or is answered 503 for want of memory.
pub batch_arrives : BytesMeanOnePost → BatchArrives
batch_arrives one_post limits address spans body old new before after written writes status request
    carries a serves =
    let status_by = λ (r : Option PostReply). option_map (λ (x : PostReply). code_of x.status) r in
    elim (verdict one_post limits address spans body old new before after serves.reply request
    carries a serves.judges) [
      | wanting is without ↦
          refused (serves.status_is ∙ ap status_by is) without
          (subst (λ r. Appends written writes (option_map_or reply_text r [])) is serves.writes_it)
      | whole is holds ↦
          taken (serves.status_is ∙ ap status_by is) holds
          (subst (λ r. Appends written writes (option_map_or reply_text r [])) is serves.writes_it)
    ]

-- A reply that broke off was that of 200 or that of 503.
pub one_of_two : BytesMeanOnePost → BrokenReplyIsOneOfTwo
one_of_two one_post limits address spans body old new before after written writes sent carries a
    breaks =
    elim (verdict one_post limits address spans body old new before after
    (Some breaks.reply) breaks.request carries a breaks.judges) [
      | wanting is without ↦
          inl (subst (λ r. IsCut r written writes sent) (inner is)
          (breaks.within, breaks.writes_it))
      | whole is holds ↦
          inr (subst (λ r. IsCut r written writes sent) (inner is)
          (breaks.within, breaks.writes_it))
    ]
  where
    inner : {x y : PostReply} → Some x ≡ Some y → x ≡ y
    inner e = cc
