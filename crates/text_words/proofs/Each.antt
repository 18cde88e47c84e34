-- How words are read one after the other.
use Rattle.std.proofs.Common.{◌≡◌, ℕ, List, [], ◌∷◌, ◌++◌, drop, map, Option, Some, None, refl, ap}
use Rattle.std.proofs.Common.{append_assoc}
use Rattle.std.specs.Prelude.{option_map}
use denote.Ref.{Bor}
use Rattle.text_words.specs.Words.{in_front, each_of}

-- the words that references point to
abbrev pub words_at : List (Bor (List ℕ)) → List (List ℕ)
words_at words = map (λ w. w.now) words

-- what was read, in front of what is still to be read
abbrev pub appended : {Y : Type 0} → List Y → Option (List Y) → Option (List Y)
appended front rest = option_map (λ ys. front ++ ys) rest

-- what the words from place i on are read as
abbrev pub rest_of : {Y : Type 0} → (List ℕ → Option Y) → List (Bor (List ℕ)) → ℕ → Option (List Y)
rest_of read words i = each_of read (words_at (drop i words))

-- One more item, appended to those that were read, comes before those that are still to be read.
pub one_more : {Y : Type 0} (front : List Y) (y : Y) (rest : Option (List Y))
    → appended (front ++ y ∷ []) rest ≡ appended front (in_front (Some y) rest)
one_more front y None = refl
one_more front y (Some ys) = ap Some (append_assoc front (y ∷ []) ys)
