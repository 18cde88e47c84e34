-- Heads of requests that are written out, and texts that have none.
use Rattle.std.proofs.Common.{◌≡◌, ◌<◌, ℕ, nat_lt, Bool, true, false, ◌&&◌, List, [], ◌∷◌, ◌++◌}
use Rattle.std.proofs.Common.{length, bytes_eq, codes, refl, sym, ap, ◌∙◌, arith, inl, inr}
use Rattle.std.specs.Prelude.{Some, Ok, Err, nat_le}
use Rattle.std.specs.List.{list_all, list_any}
use Rattle.std.specs.Io.KnownBytes.{Consumes}
use Rattle.std.proofs.lemmas.List.Sums.{AllPass-from_list_all}
use Rattle.std.proofs.lemmas.Bool.{cases_Bool, leb-true, ltb-true, false≢true}
use Rattle.std.proofs.lemmas.Str.{IsUtf8-from_ascii}
use Rattle.std.proofs.lemmas.Str.Ascii.{IsAscii-from_all}
use Rattle.httparse.specs.Grammar.{crlf, Field, is_token, is_token_byte, is_uri_byte, RequestHead}
use Rattle.httparse.specs.Grammar.{IsRequestHead, print_request, HasNoRequest}
use Rattle.http_header.specs.Token.{lowercase}
use Rattle.http_wire.specs.declared.fault.HttpFault.{HttpFault}
use Rattle.http_wire.specs.declared.limits.HeadLimits.{HeadLimits}
use Rattle.http_wire.specs.Bodies.{request_framing, IsBody}
use Rattle.http_wire.specs.Fields.{KeepsFields}
use Rattle.otlp_serve.specs.RequestHeads.{request_fields}
use Rattle.otlp_serve.specs.declared.fault.PostFault.TheVariants.{Body}
use Rattle.otlp_serve.specs.Posts.{ComesWith, HttpPost}
use Rattle.http_wire.proofs.PlaceLemmas.{due_ends}
use Rattle.otlp_serve.specs.HeadLaws.{head_due}
use Rattle.worked_sdk.specs.Replied.{usual}
use Rattle.worked_sdk.specs.Posted.{under, AreNoPost, ArePost}
use Rattle.worked_sdk.proofs.Heads.{both, all_of, is_field, field_is, is_taken, all_taken}
use Rattle.worked_sdk.proofs.Heads.{is_line_feed, line_feed_in}

abbrev is_target : List ℕ → Bool
is_target target =
    nat_lt 0 (length target) && (list_all is_uri_byte target && list_all (λ b. nat_lt b 128) target)

abbrev pub is_request : RequestHead → Bool
is_request h =
    is_token h.method && (is_target h.target && (nat_le h.minor 1 && list_all is_field h.fields))

-- A head that passes the test is the head of a request.
pub request_is : (h : RequestHead) → is_request h ≡ true → IsRequestHead h
request_is h e =
    let parts = both (is_token h.method) _ e in
    let method = both (nat_lt 0 (length h.method)) (list_all is_token_byte h.method) parts.0 in
    let rest = both (is_target h.target) _ parts.1 in
    let target = both (nat_lt 0 (length h.target)) _ rest.0 in
    let bytes =
    both (list_all is_uri_byte h.target) (list_all (λ b. nat_lt b 128) h.target) target.1 in
    let last = both (nat_le h.minor 1) (list_all is_field h.fields) rest.1 in
    record {
      method = (
        ltb-true 0 (length h.method) method.0,
        AllPass-from_list_all is_token_byte h.method method.1,
      );
      target = (
        ltb-true 0 (length h.target) target.0,
        AllPass-from_list_all is_uri_byte h.target bytes.0,
      );
      target_text =
          IsUtf8-from_ascii _
          (IsAscii-from_all _
          (all_of (λ b. b < 128) (λ b. nat_lt b 128)
          (λ b below. ltb-true b 128 below) h.target bytes.1));
      minor = leb-true h.minor 1 last.0;
      fields = all_of _ is_field field_is h.fields last.1;
    }

-- a head of HTTP/1.1 that puts to `/`, with one field
abbrev pub put : Field → RequestHead
put one = record {
  blank = [];
  method = codes "PUT";
  target = codes "/";
  minor = 1;
  line_end = crlf;
  fields = one ∷ [];
  last = crlf;
}

-- a head that is written out came, and then some bytes
came : (limits : HeadLimits) (h : RequestHead) (taken : List ℕ) {bytes left : List ℕ}
    → Consumes (Some bytes) (Some left) (print_request h ++ taken)
    → is_request h ≡ true → nat_le (length (print_request h)) limits.head ≡ true
    → nat_le (length h.fields) limits.fields ≡ true
    → list_all is_taken (request_fields h) ≡ true
    → ComesWith limits (Some bytes) (Some left) h taken
came limits h taken comes is bytes fields kept = record {
  comes = comes;
  valid = record {
    valid = request_is h is;
    whole = refl;
    bytes = leb-true (length (print_request h)) limits.head bytes;
    fields = leb-true (length h.fields) limits.fields fields;
  };
  kept = all_taken (request_fields h) kept;
}

-- A head that is written out and a body after it are a request.
pub posted : (head : RequestHead) (taken : List ℕ) {bytes left : List ℕ} {post : HttpPost}
    → Consumes (Some bytes) (Some left) (print_request head ++ taken)
    → is_request head ≡ true → nat_le (length (print_request head)) usual.head ≡ true
    → nat_le (length head.fields) usual.fields ≡ true
    → list_all is_taken (request_fields head) ≡ true
    → post.method ≡ head.method → post.target ≡ head.target
    → KeepsFields post.fields (request_fields head)
    → IsBody (request_framing (request_fields head)) usual taken (Some left) ⊥ (Ok post.body)
    → ArePost bytes left post
posted head taken comes is bytes fields kept method target keeps body = record {
  head = head;
  taken = taken;
  comes = came usual head taken comes is bytes fields kept;
  method = method;
  target = target;
  fields = keeps;
  body = body;
}

-- A head that is written out, after which the body fails, is no request, for the body's fault.
pub without_body : (limits : HeadLimits) (head : RequestHead) (taken : List ℕ) {bytes left : List ℕ}
    {fault : HttpFault}
    → Consumes (Some bytes) (Some left) (print_request head ++ taken)
    → is_request head ≡ true → nat_le (length (print_request head)) limits.head ≡ true
    → nat_le (length head.fields) limits.fields ≡ true
    → list_all is_taken (request_fields head) ≡ true
    → IsBody (request_framing (request_fields head)) limits taken (Some left) ⊥ (Err fault)
    → AreNoPost limits bytes left (Body fault)
without_body limits head taken comes is bytes fields kept body =
    record {
      head = head;
      taken = taken;
      comes = came limits head taken comes is bytes fields kept;
      body = body;
    }

-- A field is kept under its name in lower case.
pub one_field : (name value : List ℕ)
    → KeepsFields (under (lowercase name) (value ∷ [])) ((name, value) ∷ [])
one_field name value = record {
  values = λ key.
      elim (cases_Bool (bytes_eq (lowercase name) key)) [ inl t ↦ rw t refl | inr f ↦ rw f refl ];
  names = omega arith;
  count = omega arith;
}

-- A text without a line feed has no head of a request at its front.
pub no_line : (text : List ℕ) → list_any is_line_feed text ≡ false → HasNoRequest text
no_line text none h rest reads =
    let ends = due_ends (print_request h) (head_due h reads.0) in
    false≢true (sym none ∙ ap (list_any is_line_feed) (reads.1 ∙ ap (λ t. t ++ rest) ends.1)
    ∙ line_feed_in ends.0 rest)
