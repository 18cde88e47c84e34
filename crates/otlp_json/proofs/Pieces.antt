-- Texts piece by piece.
use Rattle.std.proofs.Common.{◌≡◌, ℕ, zero, suc, ◌+◌, ◌-◌, ◌<◌, ◌≤◌, List, [], ◌++◌, drop, length}
use Rattle.std.proofs.Common.{refl, ap, sym, ◌∙◌, arith}
use Rattle.std.proofs.Common.{None, get_or}
use Rattle.std.proofs.lemmas.List.{append-nil, append_assoc, get_or_past, length-append}
use Rattle.std.proofs.lemmas.List.{length-drop, nil_from_length}
use Rattle.json.specs.Text.{code_unit}
use Rattle.otlp_json.specs.Mended.{first_piece, mended, pieces, unit_in}

-- A text of fewer than six bytes begins with no escape of a code unit.
pub too_short : (text : List ℕ) → length text < 6 → None ≡ unit_in text
unfolding unit_in code_unit
too_short text few =
    let past : get_or text 5 0 ≡ 0 = get_or_past text 5 0 (omega arith) in rw past (grind arith)

-- An empty text has no pieces.
pub none_left : (most : ℕ) → pieces most [] ≡ []
unfolding pieces first_piece unit_in code_unit
none_left zero = refl
none_left (suc most) = none_left most

-- What was written and is left of a text, after some of its pieces.
abbrev pub Follows : List ℕ → List ℕ → List ℕ → Type 0
Follows text out rest =
    (most : ℕ) × (length rest ≤ most) × (mended text ≡ out ++ pieces most rest)
    × (length out + length rest ≡ length text)

counted : (o p r t : ℕ) → p ≤ r → o + r ≡ t → o + p + (r - p) ≡ t
counted o p r t h e = omega arith

-- After one more piece.
pub next_piece : (text out rest piece out_new rest_new : List ℕ) → Follows text out rest
    → 0 < length rest → 0 < length piece → length piece ≤ length rest → piece ≡ first_piece rest
    → out_new ≡ out ++ piece → rest_new ≡ drop (length piece) rest
    → Follows text out_new rest_new
unfolding pieces
next_piece text out rest piece out_new rest_new (zero, few, e, count) some more within is o r =
    absurd (omega arith)
next_piece text out rest piece out_new rest_new (suc most, few, e, count) some more within is o r =
    rw (o, r) (
      most,
      let shorter = length-drop (length piece) rest in omega arith,
      e ∙ ap (λ p. out ++ (p ++ pieces most (drop (length p) rest))) (sym is)
          ∙ sym (append_assoc out piece (pieces most (drop (length piece) rest))),
      ap (λ n. n + length (drop (length piece) rest)) (length-append out piece)
          ∙ ap (λ n. length out + length piece + n) (length-drop (length piece) rest)
          ∙ counted (length out) (length piece) (length rest) (length text) within count,
    )

-- After all pieces.
pub all_pieces : (text out rest : List ℕ) → Follows text out rest → length rest ≡ 0
    → out ≡ mended text
all_pieces text out rest f none =
    sym (f.2 ∙ ap (λ l. out ++ pieces f.0 l) (nil_from_length rest none)
    ∙ ap (λ l. out ++ l) (none_left f.0) ∙ append-nil out)
