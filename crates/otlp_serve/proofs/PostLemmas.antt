-- What a head of a request has.
use Rattle.std.proofs.Common.{◌≡◌, ℕ, ◌<◌, true, List, sym, subst, arith, IsUtf8, Option, Err}
use Rattle.std.specs.Io.KnownBytes.{Consumes}
use Rattle.std.proofs.KnownBytes.{Consumes-trans}
use Rattle.http_header.specs.FieldValue.{FieldValue}
use Rattle.http_header.specs.HeaderMap.{Entries}
use Rattle.std.proofs.lemmas.Bool.Decides.{nat_tests}
use Rattle.std.proofs.lemmas.List.Elements.{All-weaker}
use Rattle.std.proofs.lemmas.Str.{IsUtf8-from_ascii}
use Rattle.std.proofs.lemmas.Str.Ascii.{IsAscii-from_all}
use Rattle.httparse.specs.Grammar.{RequestHead, is_token_byte, IsToken, print_request}
use Rattle.httparse.specs.Spans.{span_bytes}
use Rattle.httparse.specs.declared.spans.HeaderSpan.{HeaderSpan}
use Rattle.httparse.specs.declared.spans.RequestSpans.{RequestSpans}
use Rattle.http_wire.specs.declared.limits.HeadLimits.{HeadLimits}
use Rattle.http_wire.specs.declared.fault.HttpFault.{HttpFault}
use Rattle.http_wire.specs.Bodies.{Framing, request_framing, IsBody}
use Rattle.http_wire.specs.Devices.{HasFailed}
use Rattle.otlp_serve.specs.Parses.{CoversRequest, HasKeptRequest}
use Rattle.otlp_serve.specs.Posts.{HasNoPostBody}
use Rattle.otlp_serve.specs.RequestHeads.{request_fields}

token_is_ascii : (b : ℕ) → is_token_byte b ≡ true → b < 128
unfolding is_token_byte
token_is_ascii b token = grind (arith, nat_tests)

token_text : (word : List ℕ) → IsToken word → IsUtf8 word
token_text word token =
    IsUtf8-from_ascii _
    (IsAscii-from_all _
    (All-weaker (λ b. is_token_byte b ≡ true) (λ b. b < 128) token_is_ascii word token.1))

-- The method of a request is UTF-8.
pub method_text : (limits : HeadLimits) (text : List ℕ) (spans : List HeaderSpan)
    (found : RequestSpans) (head : RequestHead)
    → CoversRequest limits text spans found head → IsUtf8 (span_bytes text found.method)
method_text limits text spans found head covers =
    subst IsUtf8 (sym covers.1.method) (token_text head.method covers.0.valid.method)

-- Where a head was kept and its body could not be read, no request came, for that fault.
pub no_body : (limits : HeadLimits) (old mid new : Option (List ℕ)) (method target : List ℕ)
    (kept : Entries FieldValue)
    (framing : Framing) (taken : List ℕ) (first before after : ℕ) (fault : HttpFault)
    (head : HasKeptRequest limits old mid method target kept)
    → framing ≡ request_framing (request_fields head.head)
    → before ≡ first → Consumes mid new taken
    → IsBody framing limits taken new (HasFailed before after) (Err fault)
    → HasNoPostBody limits old new (HasFailed first after) fault
no_body limits old mid new method target kept framing taken first before after fault head framed
    same more body =
    let of_head =
    subst (λ f. IsBody f limits taken new (HasFailed before after) (Err fault)) framed body in
    record {
      head = head.head;
      taken = taken;
      comes = record {
        comes = Consumes-trans old mid new (print_request head.head) taken head.comes more;
        valid = head.valid;
        kept = head.taken;
      };
      body =
          subst (λ f. IsBody (request_framing (request_fields head.head)) limits taken new
          (HasFailed f after) (Err fault))
          same of_head;
    }
