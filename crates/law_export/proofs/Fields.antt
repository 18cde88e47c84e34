-- A head with too many fields is not one with fewer.
use Rattle.std.proofs.Common.{◌≡◌, ℕ, ◌≤◌, List, [], ◌∷◌, ◌++◌, length, refl, sym, ap, ◌∙◌, subst}
use Rattle.std.proofs.Common.{arith, append_assoc, append-nil, length-append, Option}
use Rattle.std.specs.Prelude.{⊤}
use Rattle.std.specs.List.{flat_map}
use Rattle.std.specs.Char.{is_ascii_digit}
use Rattle.std.proofs.lemmas.List.{append_cancel_right}
use Rattle.httparse.specs.Grammar.{LineEnd, crlf, lf, print_end, print_blank, print_version}
use Rattle.httparse.specs.Grammar.{print_field, ResponseHead, IsResponseHead, print_response}
use Rattle.httparse.specs.Grammar.{print_reason, ReadsResponse, AllPass}
use Rattle.httparse.specs.Pieces.{Code, ResponseStart}
use Rattle.httparse.specs.Spans.{ResponseExceeds}
use Rattle.httparse.proofs.PieceLemmas.{ResponseStart_deterministic, Section_skip}
use Rattle.httparse.proofs.GrammarLemmas.{cons-append, print_response-append, response_pieces}

-- what comes before the fields, and then these bytes
abbrev lead : ResponseHead → List ℕ → List ℕ
lead h rest =
    print_blank h.blank
    ++ (print_version h.minor
    ++ 32 ∷ (h.digits ++ (print_reason h.reason ++ (print_end h.line_end ++ rest))))

-- Three digits are a status code, whatever comes after them.
code_of : (digits rest : List ℕ) → length digits ≡ 3 → AllPass is_ascii_digit digits
    → (d : ℕ × (ℕ × ℕ)) × Code d (digits ++ rest) rest
code_of [] rest three all = absurd (omega (arith, three))
code_of (a ∷ []) rest three all = absurd (omega (arith, three))
code_of (a ∷ b ∷ []) rest three all = absurd (omega (arith, three))
code_of (a ∷ b ∷ c
    ∷ []) rest three all = (
      (a, (b, c)),
      (
        _,
        (all 0 0 (omega arith), refl),
        (_, (all 1 0 (omega arith), refl), (all 2 0 (omega arith), refl)),
      ),
    )
code_of (a ∷ b ∷ c ∷ d ∷ digits) rest three all = absurd (omega (arith, three))

abbrev Start : Type 0
Start = List LineEnd × (ℕ × (⊤ × ((ℕ × (ℕ × ℕ)) × (Option (List ℕ) × LineEnd))))

-- A head's start line is read, whatever comes after it.
starts : (h : ResponseHead) (rest : List ℕ) → IsResponseHead h
    → (t : Start) × ResponseStart t (lead h rest) rest
starts h rest valid =
    let code =
    code_of h.digits
    (print_reason h.reason ++ (print_end h.line_end ++ rest)) valid.digits.0 valid.digits.1 in (
      (h.blank, (h.minor, (tt, (code.0, (h.reason, h.line_end))))),
      (_, (refl, refl), (_, (valid.minor, refl), (_, refl, (_, code.1, (valid.reason, refl))))),
    )

-- the end of the last line, without its line feed
abbrev pub return_of : LineEnd → List ℕ
return_of crlf = 13 ∷ []
return_of lf = []

-- A line's end is its carriage return, if it has one, and a line feed.
pub return_line : (end : LineEnd) → print_end end ≡ return_of end ++ 10 ∷ []
return_line crlf = refl
return_line lf = refl

-- A front that an empty line makes a head is this head without that line's end.
fronts : (front : List ℕ) (h : ResponseHead) → front ++ 10 ∷ [] ≡ print_response h ++ []
    → front ≡ lead h (flat_map print_field h.fields ++ return_of h.last)
fronts front h e =
    append_cancel_right front _ (10 ∷ []) (
    e ∙ print_response-append h []
    ∙ ap (λ end. lead h ((flat_map print_field h.fields ++ end) ++ [])) (return_line h.last)
    ∙ regroup (print_blank h.blank) (print_version h.minor) h.digits (print_reason h.reason)
    (print_end h.line_end) (flat_map print_field h.fields) (return_of h.last) (10 ∷ [])
    )
  where
    regroup : (a b c d e f r l : List ℕ)
        → a ++ (b ++ 32 ∷ (c ++ (d ++ (e ++ ((f ++ (r ++ l)) ++ [])))))
        ≡ (a ++ (b ++ 32 ∷ (c ++ (d ++ (e ++ (f ++ r)))))) ++ l
    regroup a b c d e f r l = simp (append_assoc, append-nil, cons-append)

-- Bytes with too many fields begin with a head's start line and with all these fields.
begins : (room : ℕ) (text left : List ℕ) (x : ResponseExceeds room text)
    → (w : List ℕ) × (text ++ left ≡ lead x.3 (flat_map print_field x.3.fields ++ w))
begins room text left x = (
  return_of x.3.last ++ (x.1 ++ left),
  ap (λ t. t ++ left) (x.2 ∙ ap (λ front. front ++ x.1) (fronts x.0 x.3 x.4.1))
      ∙ regroup (print_blank x.3.blank) (print_version x.3.minor) x.3.digits
      (print_reason x.3.reason) (print_end x.3.line_end) (flat_map print_field x.3.fields)
      (return_of x.3.last) x.1 left,
)
  where
    regroup : (a b c d e f r x l : List ℕ)
        → ((a ++ (b ++ 32 ∷ (c ++ (d ++ (e ++ (f ++ r)))))) ++ x) ++ l
        ≡ a ++ (b ++ 32 ∷ (c ++ (d ++ (e ++ (f ++ (r ++ (x ++ l)))))))
    regroup a b c d e f r x l = simp (append_assoc, cons-append)

-- Bytes that begin with too many fields are no head whose fields the limit allows.
pub exceeds_not : (room : ℕ) (text left : List ℕ) (head : ResponseHead) (rest : List ℕ)
    → ResponseExceeds room text
    → ReadsResponse (text ++ left) head rest → length head.fields ≤ room → ⊥
exceeds_not room text left head rest x reads few =
    let h = x.3 in
    let bytes = begins room text left x in
    let start = starts h (flat_map print_field h.fields ++ bytes.0) x.4.0 in
    let own =
    subst (λ t. ResponseStart start.0 t (flat_map print_field h.fields ++ bytes.0))
    (sym bytes.1) start.1 in
    let pieces = response_pieces (text ++ left) head rest reads in
    let fields : pieces.0.1.0 ≡ head.fields = ap (λ (k : ResponseHead). k.fields) pieces.1 in
    let same =
    ResponseStart_deterministic.unique start.0 pieces.0.0
    (text ++ left) _ pieces.2.0 own pieces.2.1 in
    let skipped =
    Section_skip h.fields pieces.0.1.0 pieces.0.1.1 pieces.2.0 bytes.0 rest
    (x.4.0.fields, sym same.1) pieces.2.2 in
    let count = ap length skipped.1 ∙ length-append h.fields skipped.0 in
    let same_count = ap length fields in
    omega (arith, count, same_count, few, x.5)
