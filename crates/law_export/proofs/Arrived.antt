-- What is known of a request that arrives.
use Rattle.std.proofs.Common.{◌≡◌, ℕ, List, ◌++◌, refl, ap, subst, ◌∙◌, inl, inr, arith}
use Rattle.std.proofs.Common.{Option, Some}
use Rattle.http_wire.specs.declared.limits.HeadLimits.{HeadLimits}
use Rattle.http_wire.specs.Devices.{HasFailed}
use Rattle.otlp_http.specs.Address.{Address}
use Rattle.otlp_http.specs.Request.{request_text}
use Rattle.law_export.specs.Delivery.{Arrives, IsAllowed, IsForTraces}
use Rattle.law_export.proofs.Bytes.{host_bytes}
use Rattle.law_export.proofs.Sent.{Sends, is_post, not_refused, post, traces_at}
use Rattle.law_export.proofs.Judged.{Stands}

-- An address for traces is its host and port with the path of traces written out.
written_out : (address : Address) → IsForTraces address
    → address ≡ traces_at address.host address.port
written_out address is = λ i. record {
  host = address.host;
  port = address.port;
  path = is.path i;
  fields = is.plain i;
}

-- No read failed where none had failed before or after.
pub never_failed : ¬ (HasFailed 0 0)
never_failed failed =
    elim failed [ inl more ↦ omega (arith, more) | inr full ↦ omega (arith, full) ]

-- A request that arrives has a visible host, a port of at most 64 bits, and a size that the limits
-- allow.
pub sends : (limits : HeadLimits) (address : Address) (body : List ℕ) (old : Option (List ℕ))
    (before after : ℕ)
    → Arrives limits address body old before after → Sends limits address.host address.port body
sends limits address body old before after a =
    let port = a.address_is.port in
    record {
      visible = host_bytes address.host a.address_is.target.host;
      fits = omega (arith, port);
      allowed = subst (λ to. IsAllowed limits to body) (written_out address a.address_is) a.allowed;
    }

-- The bytes of a request that arrives are its text and the bytes after it.
pub known : (limits : HeadLimits) (address : Address) (body : List ℕ) (old : Option (List ℕ))
    (before after : ℕ)
    → (a : Arrives limits address body old before after)
    → old ≡ Some (request_text (traces_at address.host address.port) body ++ a.appended)
known limits address body old before after a =
    a.whole
    ∙ ap (λ to. Some (request_text to body ++ a.appended)) (written_out address a.address_is)

-- The bytes of a request that arrives begin with a request that isn't refused, and no read failed.
pub stands : (limits : HeadLimits) (address : Address) (body : List ℕ) (old : Option (List ℕ))
    (before after : ℕ)
    → (a : Arrives limits address body old before after)
    → Stands limits
    (request_text (traces_at address.host address.port) body ++ a.appended) body before after
stands limits address body old before after a = record {
  post = post address.host address.port body;
  is = record {
    left = a.appended;
    old = 0;
    new = 0;
    means =
        is_post limits address.host address.port body a.appended (HasFailed 0 0)
        (sends limits address body old before after a);
    sound = never_failed;
    ample = λ lacks. lacks;
  };
  body_is = refl;
  accepted = not_refused address.host address.port body;
  sound = a.sound;
}
