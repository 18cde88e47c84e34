-- The request that carries a body is a request, which isn't refused.
use Rattle.std.proofs.Common.{◌≡◌, ℕ, ◌<◌, ◌≤◌, ◌^◌, IsTrue, List, [], ◌++◌, length, refl, sym, ap}
use Rattle.std.proofs.Common.{subst, ◌∙◌, codes, Some, None, Ok}
use Rattle.std.specs.Prelude.{decimal}
use Rattle.std.proofs.lemmas.List.Elements.{All-append, All-push}
use Rattle.httparse.specs.Grammar.{RequestHead}
use Rattle.http_wire.specs.declared.limits.HeadLimits.{HeadLimits}
use Rattle.http_wire.specs.Bodies.{IsBody, request_framing, sized}
use Rattle.http_wire.specs.Fields.{KeepsFields}
use Rattle.otlp_http.specs.Address.{Address}
use Rattle.otlp_http.specs.Request.{request_text}
use Rattle.otlp_serve.specs.Answers.{refusal_of}
use Rattle.otlp_serve.specs.RequestHeads.{request_fields}
use Rattle.otlp_serve.specs.Posts.{ComesWith, HttpPost, IsPost}
use Rattle.law_export.specs.Delivery.{IsAllowed}
use Rattle.law_export.proofs.Bytes.{is_visible, AreVisible, decimal_bytes, length_is}
use Rattle.law_export.proofs.Heads.{head, head_is, head_text, host_of, traces}
use Rattle.law_export.proofs.RequestFields.{all_taken, fields_are, framing_is, kept, keeps, pairs}

-- an address of traces, to which requests have no fields of a program's own
abbrev pub traces_at : List ℕ → ℕ → Address
traces_at host port = record { host = host; port = port; path = traces; fields = [] }

-- the request, as a collector sees it
abbrev pub post : List ℕ → ℕ → List ℕ → HttpPost
post host port body = record {
  method = codes "POST";
  target = traces;
  fields = kept (host_of host port) (decimal (length body));
  body = body;
}

named : (host : List ℕ) (port : ℕ) → AreVisible host → port < 2 ^ 64
    → AreVisible (host_of host port)
named host port are fits =
    All-append (λ b. IsTrue (is_visible b)) (host ++ codes ":") (decimal port)
    (All-push (λ b. IsTrue (is_visible b)) host 58 are refl) (decimal_bytes port fits)

-- what is known of the request
pub record Sends (limits : HeadLimits) (host : List ℕ) (port : ℕ) (body : List ℕ) : Type 0 where
  pub visible : AreVisible host
  pub fits : port < 2 ^ 64
  pub allowed : IsAllowed limits (traces_at host port) body

abbrev pub sent_head : List ℕ → ℕ → List ℕ → RequestHead
sent_head host port body = head (host_of host port) (decimal (length body))

-- A request that is sent comes as its head and then its body, and the bytes after it are left.
pub comes_with : (limits : HeadLimits) (host : List ℕ) (port : ℕ) (body appended : List ℕ)
    → Sends limits host port body
    → ComesWith limits (Some (request_text (traces_at host port) body ++ appended)) (Some appended)
    (sent_head host port body) body
comes_with limits host port body appended sends =
    let hosts = named host port sends.visible sends.fits in
    let sizes = decimal_bytes (length body) sends.allowed.counted in
    let text = head_text host port (length body) in
    record {
      comes = ap (λ t. (t ++ body) ++ appended) (sym text);
      valid = record {
        valid = head_is (host_of host port) (decimal (length body)) hosts sizes;
        whole = refl;
        bytes = subst (λ t. length t ≤ limits.head) (sym text) sends.allowed.head_bytes;
        fields = sends.allowed.four_fields;
      };
      kept = all_taken (host_of host port) (decimal (length body)) hosts sizes;
    }

same_fields : (limits : HeadLimits) (host : List ℕ) (port : ℕ) (body : List ℕ)
    → Sends limits host port body
    → request_fields (sent_head host port body) ≡ pairs (host_of host port) (decimal (length body))
same_fields limits host port body sends =
    fields_are (host_of host port) (decimal (length body))
    (named host port sends.visible sends.fits) (decimal_bytes (length body) sends.allowed.counted)

-- The head of a request that is sent says the body's length.
pub framed : (limits : HeadLimits) (host : List ℕ) (port : ℕ) (body : List ℕ)
    → Sends limits host port body
    → request_framing (request_fields (sent_head host port body)) ≡ sized (length body)
framed limits host port body sends =
    let count = length_is (length body) sends.allowed.counted in
    ap request_framing (same_fields limits host port body sends)
    ∙ framing_is (host_of host port) (decimal (length body)) (length body) count.0 count.1

-- A request that is sent is read as this request, and the bytes after it are left.
pub is_post : (limits : HeadLimits) (host : List ℕ) (port : ℕ) (body appended : List ℕ)
    (failed : Type 0)
    → Sends limits host port body
    → IsPost limits (Some (request_text (traces_at host port) body ++ appended))
    (Some appended) failed (post host port body)
is_post limits host port body appended failed sends = record {
  head = sent_head host port body;
  taken = body;
  comes = comes_with limits host port body appended sends;
  method = refl;
  target = refl;
  fields =
      subst (KeepsFields (kept (host_of host port) (decimal (length body))))
      (sym (same_fields limits host port body sends))
      (keeps (host_of host port) (decimal (length body)));
  body =
      subst (λ f. IsBody f limits body (Some appended) failed (Ok body))
      (sym (framed limits host port body sends))
      (refl, refl, sends.allowed.body_bytes);
}

-- A request that is sent is not refused for its path, its method or its types.
pub not_refused : (host : List ℕ) (port : ℕ) (body : List ℕ)
    → refusal_of (post host port body) ≡ None
not_refused host port body = refl
