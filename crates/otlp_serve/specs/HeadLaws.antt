-- Laws of the heads of requests.
use Rattle.std.proofs.Common.{◌≡◌, ◌≢◌, ℕ, ◌≤◌, true, List, [], ◌∷◌, ◌++◌, length, drop}
use Rattle.std.proofs.Common.{refl, sym, subst, ◌∙◌, append_assoc, arith}
use Rattle.std.proofs.lemmas.Bool.{true≢false}
use Rattle.std.proofs.lemmas.List.Elements.{All-head}
use Rattle.httparse.specs.Ascii.{space}
use Rattle.httparse.specs.Grammar.{RequestHead, IsRequestHead, print_request}
use Rattle.httparse.specs.Grammar.{print_blank, print_version}
use Rattle.httparse.specs.Grammar.{print_section, print_end, LineEnd, Field, IsToken}
use Rattle.httparse.specs.Grammar.{is_token_byte}
use Rattle.httparse.specs.Spans.{IsRequestAt}
use Rattle.httparse.specs.declared.spans.RequestSpans.{RequestSpans}
use Rattle.httparse.specs.declared.spans.HeaderSpan.{HeaderSpan}
use Rattle.http_wire.specs.Places.{IsDue}
use Rattle.http_wire.proofs.HeadLemmas.{fields_fit}
use Rattle.http_wire.proofs.PlaceLemmas.{section_due}
use Rattle.httparse.proofs.GrammarLemmas.{cons-append}

-- A byte of a method ends no line.
token_byte : (byte : ℕ) → is_token_byte byte ≡ true → (byte ≢ 10) × (byte ≢ 13)
unfolding is_token_byte
token_byte byte token = (
  λ e. true≢false (sym (subst (λ b. is_token_byte b ≡ true) e token) ∙ refl),
  λ e. true≢false (sym (subst (λ b. is_token_byte b ≡ true) e token) ∙ refl),
)

-- A parse is due after a head.
pub head_due : (head : RequestHead) → IsRequestHead head → IsDue (print_request head)
unfolding print_request
head_due head valid =
    due head.method valid.method (print_blank head.blank) head.target
    (print_version head.minor) head.line_end head.fields head.last
  where
    regroup : (a b c d e f : List ℕ) (x : ℕ)
        → a ++ (x ∷ b) ++ 32 ∷ c ++ 32 ∷ d ++ e ++ f
        ≡ (a ++ x ∷ (b ++ 32 ∷ c ++ 32 ∷ d) ++ e) ++ f
    regroup a b c d e f x = simp (append_assoc, cons-append)

    due : (method : List ℕ) → IsToken method → (blank target version : List ℕ)
        (line_end : LineEnd) (fields : List Field) (last : LineEnd)
        → IsDue (blank ++ method ++ space ∷ target ++ space ∷ version
        ++ print_end line_end ++ print_section fields last)
    due [] token blank target version line_end fields last =
        absurd (let some = token.0 in omega (arith, some))
    due (x ∷ method) token blank target version line_end fields last =
        let other = token_byte x (All-head (λ b. is_token_byte b ≡ true) x method token.1) in
        let end = print_section fields last in
        subst IsDue (sym (regroup blank method target version (print_end line_end) end x))
        (section_due blank (method ++ space ∷ target ++ space ∷ version) x
        line_end fields last other.0 other.1)

-- A head whose parts the spans cover is valid, and the text begins with it.
pub begins : (text : List ℕ) (spans : List HeaderSpan) (found : RequestSpans) (head : RequestHead)
    → IsRequestAt text spans found head
    → (rest : List ℕ) × (IsRequestHead head × (text ≡ print_request head ++ rest))
begins text spans found head is = (drop found.len text, is.reads)

-- It has no more fields than there are spans.
pub fits : (text : List ℕ) (spans : List HeaderSpan) (found : RequestSpans) (head : RequestHead)
    → IsRequestAt text spans found head → length head.fields ≤ length spans
fits text spans found head is = fields_fit text spans found.headers head.fields is.fields
