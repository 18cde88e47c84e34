-- Texts of heads, taken apart by hand.
use Rattle.std.proofs.Common.{◌≡◌, ◌≢◌, ℕ, Bool, true, false, ◌||◌, ◌==◌, List, [], ◌∷◌, ◌++◌}
use Rattle.std.proofs.Common.{length, refl, sym, ap, ◌∙◌, arith, inl, inr}
use Rattle.std.proofs.lemmas.Bool.{false≢true}
use Rattle.httparse.specs.Grammar.{LineEnd, crlf, lf, print_blank}
use Rattle.http_wire.specs.declared.place.LinePart.{LinePart}
use Rattle.http_wire.specs.declared.place.LinePart.TheVariants as parts
use Rattle.http_wire.specs.Places.{AreBlank, IsEmptyLine, IsUnended, IsPlace, HasBegun, IsPart}

-- a line feed is in it
abbrev has_feed : List ℕ → Bool
has_feed [] = false
has_feed (byte ∷ text) = byte == 10 || has_feed text

or_true : (a b : Bool) → b ≡ true → (a || b) ≡ true
or_true true b e = refl
or_true false b e = e

feed_at : (front rest : List ℕ) → has_feed (front ++ 10 ∷ rest) ≡ true
feed_at [] rest = refl
feed_at (byte ∷ front) rest = or_true (byte == 10) _ (feed_at front rest)

-- A text without a line feed is a line that hasn't ended.
pub no_feed : (line : List ℕ) → has_feed line ≡ false → IsUnended line
no_feed line none front rest e = false≢true (sym none ∙ ap has_feed e ∙ feed_at front rest)

-- A text that begins with a byte that is no line end has a line that isn't empty.
pub not_blank : (byte : ℕ) (rest : List ℕ) → byte ≢ 10 → byte ≢ 13 → ¬ (AreBlank (byte ∷ rest))
not_blank byte rest feed cr blank = go blank.0 blank.1
  where
    go : (ends : List LineEnd) → byte ∷ rest ≡ print_blank ends → ⊥
    go [] e = let sizes = ap length e in omega (arith, sizes)
    go (lf ∷ ends) e = feed cc
    go (crlf ∷ ends) e = cr cc

-- A line of two bytes or more isn't empty.
pub not_empty : (first second : ℕ) (rest : List ℕ) → ¬ (IsEmptyLine (first ∷ second ∷ rest))
not_empty first second rest (inl e) = let sizes = ap length e in omega (arith, sizes)
not_empty first second rest (inr e) = let sizes = ap length e in omega (arith, sizes)

-- After a line feed and a part of a line, a head is at this part of a line.
pub at_place : (front line : List ℕ) (begun : Bool) (part : LinePart) → has_feed line ≡ false
    → HasBegun begun (front ++ 10 ∷ []) → IsPart part line
    → IsPlace ((front ++ 10 ∷ []) ++ line) (record { begun = begun; line = part })
at_place front line begun part none has is = record {
  lines = front ++ 10 ∷ [];
  line = line;
  whole = refl;
  ended = inr (front, refl);
  unended = no_feed line none;
  begun = has;
  part = is;
}

-- Before the first line feed, a head is within its first line.
pub at_first : (line : List ℕ) → has_feed line ≡ false → ¬ (IsEmptyLine line)
    → IsPlace line (record { begun = false; line = parts.Text })
at_first line none filled = record {
  lines = [];
  line = line;
  whole = refl;
  ended = inl refl;
  unended = no_feed line none;
  begun = ([], refl);
  part = filled;
}
