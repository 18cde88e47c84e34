-- What a word is read as, it spells, and what it spells, it is read as.
use Rattle.std.proofs.Common.{◌≡◌, ◌≢◌, ℕ, ◌<◌, false, eqb, List, [], ◌∷◌, ◌++◌, length, Option}
use Rattle.std.proofs.Common.{Some, None, inl, inr, refl, sym, ap, ◌∙◌, subst, arith, codes}
use Rattle.std.specs.Prelude.{option_map, option_and_then, bytes_eq}
use Rattle.std.specs.Str.{IsUtf8, is_utf8}
use Rattle.std.proofs.lemmas.Bool.{cases_Bool, eqb-true, eqb-false, ne_eqb}
use Rattle.std.proofs.lemmas.Option.{cond_some}
use Rattle.std.proofs.lemmas.Slice.Eq.{bytes_eq-Decides}
use Rattle.std.proofs.lemmas.Str.{IsUtf8-from_is_utf8, is_utf8-from_IsUtf8}
use Rattle.text_words.specs.Words.{◌>>=◌, hex_byte, bytes_of, utf8_of, text_of, first_byte_of}
use Rattle.text_words.specs.Words.{in_front, SpellsByte, SpellsBytes, SpellsText}
use Rattle.text_words.proofs.Texts.{begins, first_and_rest}

-- ---- one byte

abbrev pair : ℕ → List ℕ → Option (ℕ × List ℕ)
pair b rest = Some (b, rest)

abbrev two : ℕ → List ℕ → ℕ × List ℕ
two b rest = (b, rest)

parts : (c b : ℕ) (cs rest : List ℕ) → pair c cs ≡ pair b rest → (c ≡ b) × (cs ≡ rest)
parts c b cs rest e =
    let both : two c cs ≡ two b rest = cc in (ap (λ p. p.0) both, ap (λ p. p.1) both)

-- the word begins with a spelling of the byte
abbrev Begins : List ℕ → List ℕ → ℕ → Type 0
Begins w rest b = (piece : List ℕ) × (w ≡ piece ++ rest) × SpellsByte piece b

plain : (c b : ℕ) (cs rest : List ℕ) → eqb c 37 ≡ false → pair c cs ≡ pair b rest
    → Begins (c ∷ cs) rest b
plain c b cs rest ne e =
    let same = parts c b cs rest e in
    (b ∷ [], rw (same.0, same.1) refl, inl (refl, λ h. eqb-false c 37 ne (same.0 ∙ h)))

escape : (d e b : ℕ) (others rest : List ℕ) (o : Option ℕ) → hex_byte d e ≡ o
    → option_map {U = ℕ × List ℕ} (λ x. (x, others)) o ≡ pair b rest
    → Begins (37 ∷ d ∷ e ∷ others) rest b
escape d e b others rest None h q = cc
escape d e b others rest (Some x) h q =
    let same = parts x b others rest q in
    (37 ∷ d ∷ e ∷ [], ap (λ r. 37 ∷ d ∷ e ∷ r) same.1, inr (d, e, refl, h ∙ ap Some same.0))

first_spells : (w rest : List ℕ) (b : ℕ) → first_byte_of w ≡ Some (b, rest) → Begins w rest b
first_spells [] rest b q = cc
first_spells (c ∷ []) rest b q = elim (cases_Bool (eqb c 37)) [
  | inl h ↦ let r = rw h at q in cc
  | inr h ↦ plain c b [] rest h (rw h at q)
]
first_spells (c ∷ d ∷ []) rest b q = elim (cases_Bool (eqb c 37)) [
  | inl h ↦ let r = rw h at q in cc
  | inr h ↦ plain c b (d ∷ []) rest h (rw h at q)
]
first_spells (c ∷ d ∷ e ∷ others) rest b q = elim (cases_Bool (eqb c 37)) [
  | inl h ↦ rw (eqb-true c 37 h) (escape d e b others rest (hex_byte d e) refl (rw h at q))
  | inr h ↦ plain c b (d ∷ e ∷ others) rest h (rw h at q)
]

plain_first : (b : ℕ) (rest : List ℕ) → b ≢ 37 → first_byte_of (b ∷ rest) ≡ Some (b, rest)
plain_first b [] ne = rw (ne_eqb b 37 ne) refl
plain_first b (d ∷ []) ne = rw (ne_eqb b 37 ne) refl
plain_first b (d ∷ e ∷ others) ne = rw (ne_eqb b 37 ne) refl

is_first : (piece rest : List ℕ) (b : ℕ) → SpellsByte piece b
    → first_byte_of (piece ++ rest) ≡ Some (b, rest)
is_first piece rest b (inl p) = rw p.0 (plain_first b rest p.1)
is_first piece rest b (inr p) = rw p.2 (ap (option_map {U = ℕ × List ℕ} (λ x. (x, rest))) p.3)

-- ---- bytes

front_of : (o : Option (ℕ × List ℕ)) (b : ℕ) (bs : List ℕ)
    → option_and_then first_and_rest o ≡ Some (b ∷ bs)
    → (rest : List ℕ) × (o ≡ Some (b, rest)) × (bytes_of rest ≡ Some bs)
front_of None b bs e = cc
front_of (Some (c, rest)) b bs e = front_bytes c b bs rest (bytes_of rest) refl e
  where
    front_bytes : (c b : ℕ) (bs rest : List ℕ) (o : Option (List ℕ)) → bytes_of rest ≡ o
        → option_map (λ cs. c ∷ cs) o ≡ Some (b ∷ bs)
        → (r : List ℕ) × (pair c rest ≡ pair b r) × (bytes_of r ≡ Some bs)
    front_bytes c b bs rest None h q = cc
    front_bytes c b bs rest (Some cs) h q =
        let first : c ≡ b = cc in
        let others : cs ≡ bs = cc in
        (rest, ap (λ x. pair x rest) first, h ∙ ap Some others)

never_empty : (o : Option (ℕ × List ℕ)) → option_and_then first_and_rest o ≡ Some [] → ⊥
never_empty None e = cc
never_empty (Some (c, rest)) e = none (bytes_of rest) c e
  where
    none : (o : Option (List ℕ)) (c : ℕ) → option_map (λ cs. c ∷ cs) o ≡ Some [] → ⊥
    none None c q = cc
    none (Some cs) c q = cc

nothing_read : (w : List ℕ) → bytes_of w ≡ Some [] → w ≡ []
nothing_read [] e = refl
nothing_read (c ∷ cs) e = absurd (never_empty (first_byte_of (c ∷ cs)) (sym (begins c cs) ∙ e))

byte_read : (w : List ℕ) (b : ℕ) (bs : List ℕ) → bytes_of w ≡ Some (b ∷ bs)
    → (rest : List ℕ) × (first_byte_of w ≡ Some (b, rest)) × (bytes_of rest ≡ Some bs)
unfolding bytes_of
byte_read [] b bs e = cc
byte_read (c ∷ cs) b bs e = front_of (first_byte_of (c ∷ cs)) b bs (sym (begins c cs) ∙ e)

bytes_spelled : (bs w : List ℕ) → bytes_of w ≡ Some bs → SpellsBytes w bs
bytes_spelled [] w e = nothing_read w e
bytes_spelled (b ∷ bs) w e =
    let p = byte_read w b bs e in
    let q = first_spells w p.0 b p.1 in
    (q.0, p.0, q.1, q.2, bytes_spelled bs p.0 p.2)

begins_at : (w rest : List ℕ) (b : ℕ) → first_byte_of w ≡ Some (b, rest)
    → bytes_of w ≡ in_front (Some b) (bytes_of rest)
begins_at [] rest b e = cc
begins_at (c ∷ cs) rest b e = begins c cs ∙ ap (option_and_then first_and_rest) e

bytes_again : (bs w : List ℕ) → SpellsBytes w bs → bytes_of w ≡ Some bs
unfolding bytes_of
bytes_again [] w e = ap bytes_of e
bytes_again (b ∷ bs) w h =
    begins_at w h.1 b (ap first_byte_of h.2 ∙ is_first h.0 h.1 b h.3)
    ∙ ap (in_front (Some b)) (bytes_again bs h.1 h.4)

-- ---- texts

utf8_read : (o : Option (List ℕ)) (t : List ℕ) → (o >>= utf8_of) ≡ Some t → (o ≡ Some t) × IsUtf8 t
utf8_read None t e = cc
utf8_read (Some bs) t e =
    let p = cond_some (is_utf8 bs) bs t e in
    (ap Some p.1, subst IsUtf8 p.1 (IsUtf8-from_is_utf8 bs p.0))

some_read : (c : ℕ) (cs t : List ℕ) → SpellsBytes (c ∷ cs) t → 0 < length t
some_read c cs [] h = cc
some_read c cs (b ∷ bs) h = omega arith

-- A word that is read as a text spells this text.
pub text_spelled : (w t : List ℕ) → text_of w ≡ Some t → SpellsText w t
unfolding text_of
text_spelled [] t e = cc
text_spelled (c ∷ cs) t e = elim (cases_Bool (bytes_eq (c ∷ cs) (codes "%"))) [
  | inl h ↦
      let r = rw h at e in
      let empty : t ≡ [] = cc in
      inl ((bytes_eq-Decides (c ∷ cs) (codes "%")).0 h, empty)
  | inr h ↦
      let p = utf8_read (bytes_of (c ∷ cs)) t (rw h at e) in
      let s = bytes_spelled t (c ∷ cs) p.0 in
      inr (some_read c cs t s, s, p.1)
]

-- `%` alone spells no byte
not_percent : (w t : List ℕ) → w ≡ 37 ∷ [] → bytes_of w ≡ Some t → ⊥
unfolding bytes_of
not_percent w t e q = let r = rw e at q in cc

text_bytes : (w t : List ℕ) → 0 < length t → bytes_of w ≡ Some t → IsUtf8 t → text_of w ≡ Some t
unfolding text_of bytes_of
text_bytes [] t some e u = let empty : t ≡ [] = cc in absurd (omega (arith, ap length empty))
text_bytes (c ∷ cs) t some e u = elim (cases_Bool (bytes_eq (c ∷ cs) (codes "%"))) [
  | inl h ↦ absurd (not_percent (c ∷ cs) t ((bytes_eq-Decides (c ∷ cs) (codes "%")).0 h) e)
  | inr h ↦ rw h (ap (λ o. o >>= utf8_of) e ∙ rw (is_utf8-from_IsUtf8 t u) refl)
]

-- A word that spells a text is read as this text.
pub text_again : (w t : List ℕ) → SpellsText w t → text_of w ≡ Some t
unfolding text_of
text_again w t (inl p) = rw (p.0, p.1) refl
text_again w t (inr p) = text_bytes w t p.0 (bytes_again t w p.1) p.2
