-- A request's head with too many fields is not one with fewer.
use Rattle.std.proofs.Common.{◌≡◌, ℕ, ◌≤◌, List, ◌∷◌, [], ◌++◌, length, refl, sym, ap, ◌∙◌, subst}
use Rattle.std.proofs.Common.{arith, append_assoc, append-nil, length-append}
use Rattle.std.specs.List.{flat_map}
use Rattle.std.proofs.lemmas.List.{append_cancel_right}
use Rattle.httparse.specs.Grammar.{print_end, print_blank, print_version, print_field, RequestHead}
use Rattle.httparse.specs.Grammar.{IsRequestHead, print_request, ReadsRequest}
use Rattle.httparse.specs.Pieces.{RequestStart}
use Rattle.httparse.specs.Spans.{RequestExceeds}
use Rattle.httparse.proofs.PieceLemmas.{RequestStart_deterministic, Section_skip, Stops_token}
use Rattle.httparse.proofs.GrammarLemmas.{print_request-append, request_pieces, request_tree}
use Rattle.law_export.proofs.Fields.{return_of, return_line}

-- what comes before the fields, and then these bytes
abbrev lead : RequestHead → List ℕ → List ℕ
lead h rest =
    print_blank h.blank
    ++ (h.method
    ++ 32 ∷ (h.target ++ 32 ∷ (print_version h.minor ++ (print_end h.line_end ++ rest))))

-- A head's start line is read, whatever comes after it.
starts : (h : RequestHead) (rest : List ℕ) → IsRequestHead h
    → RequestStart (request_tree h).0 (lead h rest) rest
starts h rest valid = (
  _,
  (refl, Stops_token h.method _ valid.method.0 valid.method.1),
  (
    _,
    (valid.method.0, valid.method.1, refl),
    (
      _,
      ((valid.target.0, valid.target.1, refl), valid.target_text),
      (_, (valid.minor, refl), refl),
    ),
  ),
)

-- A front that an empty line makes a head is this head without that line's end.
fronts : (front : List ℕ) (h : RequestHead) → front ++ 10 ∷ [] ≡ print_request h ++ []
    → front ≡ lead h (flat_map print_field h.fields ++ return_of h.last)
fronts front h e =
    append_cancel_right front _ (10 ∷ []) (
    e ∙ print_request-append h []
    ∙ ap (λ end. lead h ((flat_map print_field h.fields ++ end) ++ [])) (return_line h.last)
    ∙ regroup (print_blank h.blank) h.method h.target (print_version h.minor) (print_end h.line_end)
    (flat_map print_field h.fields) (return_of h.last) (10 ∷ [])
    )
  where
    regroup : (a b c d e f r l : List ℕ)
        → a ++ (b ++ 32 ∷ (c ++ 32 ∷ (d ++ (e ++ ((f ++ (r ++ l)) ++ [])))))
        ≡ (a ++ (b ++ 32 ∷ (c ++ 32 ∷ (d ++ (e ++ (f ++ r)))))) ++ l
    regroup a b c d e f r l = simp (append_assoc, append-nil)

-- Bytes with too many fields begin with a head's start line and with all these fields.
begins : (room : ℕ) (text left : List ℕ) (x : RequestExceeds room text)
    → (w : List ℕ) × (text ++ left ≡ lead x.3 (flat_map print_field x.3.fields ++ w))
begins room text left x = (
  return_of x.3.last ++ (x.1 ++ left),
  ap (λ t. t ++ left) (x.2 ∙ ap (λ front. front ++ x.1) (fronts x.0 x.3 x.4.1))
      ∙ regroup (print_blank x.3.blank) x.3.method x.3.target (print_version x.3.minor)
      (print_end x.3.line_end) (flat_map print_field x.3.fields) (return_of x.3.last) x.1 left,
)
  where
    regroup : (a b c d e f r x l : List ℕ)
        → ((a ++ (b ++ 32 ∷ (c ++ 32 ∷ (d ++ (e ++ (f ++ r)))))) ++ x) ++ l
        ≡ a ++ (b ++ 32 ∷ (c ++ 32 ∷ (d ++ (e ++ (f ++ (r ++ (x ++ l)))))))
    regroup a b c d e f r x l = simp append_assoc

-- Bytes that begin with too many fields are no request's head whose fields the limit allows.
pub exceeds_not : (room : ℕ) (text left : List ℕ) (head : RequestHead) (rest : List ℕ)
    → RequestExceeds room text
    → ReadsRequest (text ++ left) head rest → length head.fields ≤ room → ⊥
exceeds_not room text left head rest x reads few =
    let h = x.3 in
    let bytes = begins room text left x in
    let start = starts h (flat_map print_field h.fields ++ bytes.0) x.4.0 in
    let own =
    subst (λ t. RequestStart (request_tree h).0 t (flat_map print_field h.fields ++ bytes.0))
    (sym bytes.1) start in
    let pieces = request_pieces (text ++ left) head rest reads in
    let same =
    RequestStart_deterministic.unique (request_tree h).0 (request_tree head).0
    (text ++ left) _ pieces.0 own pieces.1 in
    let skipped =
    Section_skip h.fields head.fields head.last pieces.0 bytes.0 rest
    (x.4.0.fields, sym same.1) pieces.2 in
    let count = ap length skipped.1 ∙ length-append h.fields skipped.0 in
    omega (arith, count, few, x.5)
