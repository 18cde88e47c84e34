-- Heads that are written out, and texts that have none.
use Rattle.std.proofs.Common.{◌≡◌, ℕ, zero, suc, nat_lt, Bool, true, false, ◌&&◌, ◌||◌, ◌==◌, List}
use Rattle.std.proofs.Common.{[], ◌∷◌, ◌++◌, length, replicate, refl, sym, ap, ◌∙◌, arith, codes}
use Rattle.std.specs.Prelude.{All, Option, Some, Result, nat_le}
use Rattle.std.specs.List.{list_all, list_any, flat_map}
use Rattle.std.specs.Char.{is_ascii_digit}
use Rattle.std.specs.Io.KnownBytes.{Consumes}
use Rattle.std.proofs.lemmas.List.Sums.{AllPass-from_list_all}
use Rattle.std.proofs.lemmas.List.Elements.{All-cons, All-nil}
use Rattle.std.proofs.lemmas.Bool.{leb-true, ltb-true, eqb-true, false≢true}
use Rattle.httparse.specs.Grammar.{LineEnd, crlf, lf, print_blank, print_version, Field, IsField}
use Rattle.httparse.specs.Grammar.{is_token, is_token_byte, is_value_byte, ResponseHead}
use Rattle.httparse.specs.Grammar.{IsResponseHead, print_response, reason_phrase, status_code}
use Rattle.httparse.specs.Grammar.{HasNoResponse, NeverHasResponse}
use Rattle.httparse.proofs.GrammarLemmas.{print_response-append}
use Rattle.http_header.specs.FieldName.{is_field_name}
use Rattle.http_header.specs.Token.{is_value_byte as is_kept_byte}
use Rattle.http_header.proofs.TokenLemmas.{IsFieldName-from_test}
use Rattle.retry_core.specs.declared.outcome.RetryAfter.{RetryAfter}
use Rattle.http_wire.specs.declared.fault.HttpFault.{HttpFault}
use Rattle.http_wire.specs.declared.limits.HeadLimits.{HeadLimits}
use Rattle.otlp_http.specs.Replies.{framing_of}
use Rattle.http_wire.specs.Bodies.{IsBody}
use Rattle.http_wire.specs.Fields.{NameAndValue, IsTaken, values_of}
use Rattle.otlp_http.specs.Waits.{retry_after}
use Rattle.otlp_http.specs.Heads.{fields_of, IsHeadText, IsInterim}
use Rattle.http_wire.proofs.PlaceLemmas.{due_ends}
use Rattle.otlp_http.specs.HeadLaws.{head_due}
use Rattle.worked_sdk.specs.Replied.{AreReply, usual}

-- Both parts of a conjunction that is true are true.
pub both : (a b : Bool) → (a && b) ≡ true → (a ≡ true) × (b ≡ true)
both true b e = (refl, e)
both false b e = absurd (false≢true e)

-- Each item of a list whose items all pass a test is as the test says.
pub all_of : {A : Type 0} (P : A → Type 0) (test : A → Bool) → ((x : A) → test x ≡ true → P x)
    → (xs : List A) → list_all test xs ≡ true → All P xs
all_of P test one [] e = All-nil P
all_of P test one (x ∷ xs) e =
    let parts = both (test x) (list_all test xs) e in
    All-cons P x xs (one x parts.0) (all_of P test one xs parts.1)

-- What holds of an item holds of each item of a list of copies of it.
pub all_equal : {A : Type 0} (P : A → Type 0) (x : A) → P x → (count : ℕ)
    → All P (replicate count x)
all_equal P x is zero = All-nil P
all_equal P x is (suc count) = All-cons P x (replicate count x) is (all_equal P x is count)

abbrev pub is_field : Field → Bool
is_field f = is_token f.name && list_all is_value_byte f.raw

-- A field that passes the test is a field.
pub field_is : (f : Field) → is_field f ≡ true → IsField f
field_is f e =
    let parts = both (is_token f.name) (list_all is_value_byte f.raw) e in
    let name = both (nat_lt 0 (length f.name)) (list_all is_token_byte f.name) parts.0 in
    record {
      name = (ltb-true 0 (length f.name) name.0, AllPass-from_list_all is_token_byte f.name name.1);
      raw = AllPass-from_list_all is_value_byte f.raw parts.1;
    }

abbrev pub is_head : ResponseHead → Bool
is_head h =
    (nat_le h.minor 1 && length h.digits == 3)
    && ((list_all is_ascii_digit h.digits && list_all is_value_byte (reason_phrase h.reason))
    && list_all is_field h.fields)

-- A head that passes the test is the head of a response.
pub head_is : (h : ResponseHead) → is_head h ≡ true → IsResponseHead h
head_is h e =
    let parts = both (nat_le h.minor 1 && length h.digits == 3) _ e in
    let first = both (nat_le h.minor 1) (length h.digits == 3) parts.0 in
    let rest =
    both (list_all is_ascii_digit h.digits && list_all is_value_byte (reason_phrase h.reason))
    (list_all is_field h.fields) parts.1 in
    let texts =
    both (list_all is_ascii_digit h.digits)
    (list_all is_value_byte (reason_phrase h.reason)) rest.0 in
    record {
      minor = leb-true h.minor 1 first.0;
      digits = (
        eqb-true (length h.digits) 3 first.1,
        AllPass-from_list_all is_ascii_digit h.digits texts.0,
      );
      reason = AllPass-from_list_all is_value_byte (reason_phrase h.reason) texts.1;
      fields = all_of IsField is_field field_is h.fields rest.1;
    }

-- A head that passes the test and is short enough is the text of a head within the limits.
pub head_text : (limits : HeadLimits) (h : ResponseHead) → is_head h ≡ true
    → nat_le (length (print_response h)) limits.head ≡ true
    → nat_le (length h.fields) limits.fields ≡ true → IsHeadText limits (print_response h) h
head_text limits h e bytes fields = record {
  valid = head_is h e;
  whole = refl;
  bytes = leb-true (length (print_response h)) limits.head bytes;
  fields = leb-true (length h.fields) limits.fields fields;
}

abbrev pub is_taken : NameAndValue → Bool
is_taken field = is_field_name field.0 && list_all is_kept_byte field.1

taken_is : (field : NameAndValue) → is_taken field ≡ true → IsTaken field
taken_is field e =
    let parts = both (is_field_name field.0) (list_all is_kept_byte field.1) e in
    (IsFieldName-from_test field.0 parts.0, AllPass-from_list_all is_kept_byte field.1 parts.1)

-- Fields that pass the test are fields that are taken.
pub all_taken : (fields : List NameAndValue) → list_all is_taken fields ≡ true → All IsTaken fields
all_taken fields e = all_of IsTaken is_taken taken_is fields e

-- a field that is written out, with a line end of CR LF
abbrev pub field : List ℕ → List ℕ → Field
field name raw = record { name = name; raw = raw; end = crlf }

-- a head of HTTP/1.1 with that status, reason and one field
abbrev pub answered : List ℕ → List ℕ → Field → ResponseHead
answered digits reason one = record {
  blank = [];
  minor = 1;
  digits = digits;
  reason = Some reason;
  line_end = crlf;
  fields = one ∷ [];
  last = crlf;
}

-- the head that is `continue`
abbrev pub interim : ResponseHead
interim = record {
  blank = [];
  minor = 1;
  digits = codes "100";
  reason = Some (codes "Continue");
  line_end = crlf;
  fields = [];
  last = crlf;
}

-- A head that is written out, after interim heads, and a body after it are a reply.
pub replied : (interims : List ResponseHead) (head : ResponseHead) (taken : List ℕ)
    {bytes left : List ℕ} {status : ℕ} {wait : Option RetryAfter} {body : Result (List ℕ) HttpFault}
    → All (IsInterim usual) interims → nat_le (length interims) 16 ≡ true
    → Consumes (Some bytes) (Some left)
    (flat_map print_response interims ++ (print_response head ++ taken))
    → is_head head ≡ true → nat_le (length (print_response head)) usual.head ≡ true
    → nat_le (length head.fields) usual.fields ≡ true
    → nat_le 200 (status_code head) ≡ true → list_all is_taken (fields_of head) ≡ true
    → status ≡ status_code head
    → wait ≡ retry_after (values_of (codes "retry-after") (fields_of head))
    → IsBody (framing_of (status_code head) (fields_of head)) usual taken (Some left) ⊥ body
    → AreReply bytes left status wait body
replied interims head taken each few comes is bytes fields above kept status wait body = record {
  interims = interims;
  head = head;
  taken = taken;
  comes = record { each = each; few = leb-true (length interims) 16 few; taken = comes };
  valid = head_text usual head is bytes fields;
  final =
      λ interim. let from = leb-true 200 (status_code head) above in
      let below = interim.1 in
      omega (arith, from, below);
  kept = all_taken (fields_of head) kept;
  status = status;
  wait = wait;
  body = body;
}

-- ---- no head

abbrev pub is_line_feed : ℕ → Bool
is_line_feed b = b == 10

or_true : (a : Bool) → (a || true) ≡ true
or_true true = refl
or_true false = refl

-- A text with a line feed in it passes the test for a line feed.
pub line_feed_in : (front rest : List ℕ) → list_any is_line_feed ((front ++ 10 ∷ []) ++ rest) ≡ true
line_feed_in [] rest = refl
line_feed_in (b ∷ front) rest =
    ap (λ t. is_line_feed b || t) (line_feed_in front rest) ∙ or_true (is_line_feed b)

-- A text without a line feed has no head of a response at its front.
pub no_line : (text : List ℕ) → list_any is_line_feed text ≡ false → HasNoResponse text
no_line text none h rest reads =
    let ends = due_ends (print_response h) (head_due h reads.0) in
    false≢true (sym none ∙ ap (list_any is_line_feed) (reads.1 ∙ ap (λ t. t ++ rest) ends.1)
    ∙ line_feed_in ends.0 rest)

begins_not : (blank : List LineEnd) (minor : ℕ) (after more : List ℕ)
    → 120 ∷ more ≡ print_blank blank ++ (print_version minor ++ after) → ⊥
begins_not [] minor after more e = let heads : ◌≡◌ {A = ℕ} 120 72 = cc in omega (arith, heads)
begins_not (crlf ∷ blank) minor after more e =
    let heads : ◌≡◌ {A = ℕ} 120 13 = cc in omega (arith, heads)
begins_not (lf ∷ blank) minor after more e =
    let heads : ◌≡◌ {A = ℕ} 120 10 = cc in omega (arith, heads)

-- No head of a response begins with an x.
pub no_x : NeverHasResponse (codes "x")
no_x more h rest reads = begins_not h.blank h.minor _ more (reads.1 ∙ print_response-append h rest)
