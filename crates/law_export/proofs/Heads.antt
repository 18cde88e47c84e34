-- The request's head, as a tree.
use Rattle.std.proofs.Common.{◌≡◌, ℕ, ◌<◌, List, [], ◌∷◌, ◌++◌, nat_lt, true, length, refl, sym, ap}
use Rattle.std.proofs.Common.{◌∙◌, IsTrue, arith, codes, append-nil, append_assoc}
use Rattle.std.specs.Prelude.{All, decimal}
use Rattle.std.specs.List.{list_all}
use Rattle.std.proofs.lemmas.Bool.{and_parts, ltb-true}
use Rattle.std.proofs.lemmas.List.Elements.{All-cons, All-weaker}
use Rattle.std.proofs.lemmas.List.Sums.{AllPass-from_list_all}
use Rattle.std.proofs.lemmas.Str.{IsUtf8-from_ascii}
use Rattle.std.proofs.lemmas.Str.Ascii.{IsAscii-from_all}
use Rattle.std.proofs.lemmas.Bool.Decides.{nat_tests}
use Rattle.httparse.specs.Grammar.{crlf, Field, IsField, is_token_byte, is_uri_byte, is_value_byte}
use Rattle.httparse.specs.Grammar.{is_token, RequestHead, IsRequestHead, print_request}
use Rattle.httparse.proofs.OnLiterals.{httparse_on_literals}
use Rattle.otlp_http.specs.Address.{Address}
use Rattle.otlp_http.specs.Request.{first_lines, request_head}
use Rattle.law_export.proofs.Bytes.{all_four, is_visible, AreVisible, value_bytes}

abbrev pub field : List ℕ → List ℕ → Field
field name value = record { name = name; raw = 32 ∷ value; end = crlf }

abbrev pub traces : List ℕ
traces = codes "/v1/traces"

abbrev pub media : List ℕ
media = codes "application/x-protobuf"

-- the fields, of which two are made of the values that are given
abbrev pub host_field : List ℕ → Field
host_field host = field (codes "Host") host

abbrev pub media_field : Field
media_field = field (codes "Content-Type") media

abbrev pub size_field : List ℕ → Field
size_field size = field (codes "Content-Length") size

abbrev pub close_field : Field
close_field = field (codes "Connection") (codes "close")

abbrev pub head : List ℕ → List ℕ → RequestHead
head host size = record {
  blank = [];
  method = codes "POST";
  target = traces;
  minor = 1;
  line_end = crlf;
  fields = host_field host ∷ media_field ∷ size_field size ∷ close_field ∷ [];
  last = crlf;
}

-- ---- its text

abbrev pub host_of : List ℕ → ℕ → List ℕ
host_of host port = host ++ codes ":" ++ decimal port

-- the text before the value of Host, and the lines that come after it
abbrev front : List ℕ
front = codes "POST /v1/traces HTTP/1.1\r\nHost: "

abbrev return : List ℕ
return = codes "\r\n"

abbrev media_line : List ℕ
media_line = codes "Content-Type: application/x-protobuf\r\n"

abbrev size_line : List ℕ → List ℕ
size_line size = codes "Content-Length: " ++ (size ++ return)

abbrev close_line : List ℕ
close_line = codes "Connection: close\r\n"

regroup : (a b c d : List ℕ) → a ++ (b ++ (c ++ d)) ≡ ((a ++ b) ++ c) ++ d
regroup a b c d = sym (append_assoc (a ++ b) c d ∙ append_assoc a b (c ++ d))

-- The head prints as the head that the client writes.
pub head_text : (host : List ℕ) (port size : ℕ)
    → print_request (head (host_of host port) (decimal size))
    ≡ request_head (record { host = host; port = port; path = traces; fields = [] }) size
unfolding httparse_on_literals request_head
head_text host port size =
    let address : Address = record { host = host; port = port; path = traces; fields = [] } in
    let first : List ℕ = first_lines address size ++ close_line in
    ap (λ t. front ++ (t ++ return))
    (regroup (host_of host port ++ return) media_line (size_line (decimal size)) close_line)
    ∙ ap (λ t. t ++ return) (sym (append-nil first))

-- ---- it is a request's head

-- The bytes of the media type are visible.
pub media_is : AreVisible media
media_is = AllPass-from_list_all is_visible media refl

-- The bytes of `close` are visible.
pub close_is : AreVisible (codes "close")
close_is = AllPass-from_list_all is_visible (codes "close") refl

field_is : (name value : List ℕ) → is_token name ≡ true → AreVisible value
    → IsField (field name value)
unfolding httparse_on_literals
field_is name value token are =
    let parts = and_parts (nat_lt 0 (length name)) (list_all is_token_byte name) token in
    record {
      name = (ltb-true 0 (length name) parts.0, AllPass-from_list_all is_token_byte name parts.1);
      raw = All-cons (λ b. IsTrue (is_value_byte b)) 32 value refl (value_bytes value are);
    }

ascii : (bytes : List ℕ) → AreVisible bytes → All (λ b. b < 128) bytes
ascii bytes are =
    All-weaker (λ b. IsTrue (is_visible b)) (λ b. b < 128)
    (λ b is. grind (arith, nat_tests)) bytes are

-- The head is one of a request where the bytes of its host and of its size are visible.
pub head_is : (host size : List ℕ) → AreVisible host → AreVisible size
    → IsRequestHead (head host size)
unfolding httparse_on_literals
head_is host size host_are size_are = record {
  method = (omega arith, AllPass-from_list_all is_token_byte (codes "POST") refl);
  target = (omega arith, AllPass-from_list_all is_uri_byte traces refl);
  target_text =
      IsUtf8-from_ascii traces
      (IsAscii-from_all traces (ascii traces (AllPass-from_list_all is_visible traces refl)));
  minor = omega arith;
  fields =
      all_four IsField (host_field host) media_field (size_field size) close_field
      (field_is (codes "Host") host refl host_are)
      (field_is (codes "Content-Type") media refl media_is)
      (field_is (codes "Content-Length") size refl size_are)
      (field_is (codes "Connection") (codes "close") refl close_is);
}
