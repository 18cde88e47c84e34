-- Replies after which a connection may carry another request.
use Rattle.std.proofs.Common.{◌≡◌, ℕ, Bool, List, map, codes, subst, ap, ◌∙◌, append_assoc}
use Rattle.std.proofs.Common.{Option, Result}
use Rattle.std.specs.List.{flat_map}
use Rattle.std.specs.Io.KnownBytes.{Consumes}
use Rattle.std.proofs.KnownBytes.{Consumes-trans}
use Rattle.httparse.specs.Grammar.{print_response, status_code}
use Rattle.http_header.specs.FieldValue.{FieldValue}
use Rattle.http_header.specs.HeaderMap.{Entries, get_all}
use Rattle.retry_core.specs.declared.outcome.RetryAfter.{RetryAfter}
use Rattle.http_wire.specs.declared.fault.HttpFault.{HttpFault}
use Rattle.http_wire.specs.declared.limits.HeadLimits.{HeadLimits}
use Rattle.http_wire.specs.Bodies.{Framing, IsBody}
use Rattle.http_wire.specs.Devices.{HasFailed}
use Rattle.http_wire.specs.Fields.{NameAndValue, KeepsFields}
use Rattle.otlp_http.specs.Heads.{fields_of}
use Rattle.otlp_http.specs.Parses.{HasKeptHead}
use Rattle.otlp_http.specs.Persistence.{lasts_with, lasts_after}
use Rattle.otlp_http.specs.Replies.{IsReply, framing_of}
use Rattle.otlp_http.specs.Waits.{retry_after}

-- A head that is kept, and then a body, are a reply, and the connection lasts by that head.
pub lasting : (limits : HeadLimits) (old mid new : Option (List ℕ))
    (first before after minor status : ℕ) (kept : Entries FieldValue)
    (framing : Framing) (wait : Option RetryAfter) (body : Result (List ℕ) HttpFault) (lasts : Bool)
    (taken : List ℕ)
    → HasKeptHead limits old mid minor status kept → before ≡ first
    → ((fields : List NameAndValue) → KeepsFields kept fields → framing ≡ framing_of status fields)
    → wait ≡ retry_after (map (λ v. v.bytes) (get_all kept (codes "retry-after")))
    → Consumes mid new taken → IsBody framing limits taken new (HasFailed before after) body
    → ((fields : List NameAndValue) → KeepsFields kept fields
    → lasts ≡ lasts_with minor framing fields body)
    → (is : IsReply limits old new (HasFailed first after)
    (record { status = status; retry_after = wait; body = body }))
    × (lasts ≡ lasts_after is.head body)
lasting limits old mid new first before after minor status kept framing wait body lasts taken h same
    framed waits took is_body by_head =
    let head = h.head in
    let fields = fields_of head in
    let framing_is : framing ≡ framing_of (status_code head) fields =
    framed fields h.keeps ∙ ap (λ s. framing_of s fields) h.code in (
      record {
        interims = h.interims;
        head = head;
        taken = taken;
        comes = record {
          each = h.comes.each;
          few = h.comes.few;
          taken =
              subst (Consumes old new)
              (append_assoc (flat_map print_response h.interims) (print_response head) taken)
              (Consumes-trans old mid new _ taken h.comes.taken took);
        };
        valid = h.valid;
        final = h.final;
        kept = h.taken;
        status = h.code;
        wait = waits ∙ ap retry_after (h.keeps.values (codes "retry-after"));
        body = subst (λ f. IsBody f limits taken new (HasFailed first after) body) framing_is
            (subst (λ b. IsBody framing limits taken new (HasFailed b after) body) same is_body);
      },
      by_head fields h.keeps ∙ ap (λ m. lasts_with m framing fields body) h.version
          ∙ ap (λ f. lasts_with head.minor f fields body) framing_is,
    )
