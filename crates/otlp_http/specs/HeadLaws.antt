-- Laws of the heads of replies.
use Rattle.std.proofs.Common.{◌≡◌, ℕ, ◌+◌, ◌≤◌, List, [], ◌∷◌, ◌++◌, length, codes, drop}
use Rattle.std.proofs.Common.{sym, subst, append_assoc, arith}
use Rattle.httparse.specs.Ascii.{space}
use Rattle.httparse.specs.Grammar.{ResponseHead, IsResponseHead, print_response}
use Rattle.httparse.specs.Grammar.{print_blank, print_reason, print_field, print_end}
use Rattle.httparse.specs.Spans.{IsResponseAt}
use Rattle.httparse.specs.declared.spans.ResponseSpans.{ResponseSpans}
use Rattle.httparse.specs.declared.spans.HeaderSpan.{HeaderSpan}
use Rattle.http_wire.specs.Places.{IsDue}
use Rattle.http_wire.proofs.HeadLemmas.{fields_fit}
use Rattle.http_wire.proofs.PlaceLemmas.{section_due}
use Rattle.std.specs.List.{flat_map}
use Rattle.httparse.proofs.GrammarLemmas.{cons-append}

-- A parse is due after a head.
pub head_due : (head : ResponseHead) → IsResponseHead head → IsDue (print_response head)
unfolding print_response
head_due head valid =
    let version = codes "TTP/1." ++ (48 + head.minor) ∷ [] in
    let reason = print_reason head.reason in
    let fields = flat_map print_field head.fields in
    let blank = print_blank head.blank in
    let line_end = print_end head.line_end in
    let end = fields ++ print_end head.last in
    subst IsDue (sym (regroup blank version head.digits reason line_end end))
    (section_due blank (version ++ space ∷ head.digits ++ reason) 72
    head.line_end head.fields head.last (λ e. omega (arith, e)) (λ e. omega (arith, e)))
  where
    regroup : (a b c d e f : List ℕ)
        → a ++ (72 ∷ b) ++ 32 ∷ c ++ d ++ e ++ f ≡ (a ++ 72 ∷ (b ++ 32 ∷ c ++ d) ++ e) ++ f
    regroup a b c d e f = simp (append_assoc, cons-append)

-- A head whose parts the spans cover is valid, and the text begins with it.
pub begins : (text : List ℕ) (spans : List HeaderSpan) (found : ResponseSpans) (head : ResponseHead)
    → IsResponseAt text spans found head
    → (rest : List ℕ) × (IsResponseHead head × (text ≡ print_response head ++ rest))
begins text spans found head is = (drop found.len text, is.reads)

-- It has no more fields than there are spans.
pub fits : (text : List ℕ) (spans : List HeaderSpan) (found : ResponseSpans) (head : ResponseHead)
    → IsResponseAt text spans found head → length head.fields ≤ length spans
fits text spans found head is = fields_fit text spans found.headers head.fields is.fields
