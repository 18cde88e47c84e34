-- How the value of an attribute is spelled, and how pairs are.
use Rattle.std.specs.Prelude.{ℕ, ◌==◌, Bool, true, false, List, [], ◌∷◌, if◌then◌else◌, Option}
use Rattle.std.specs.Prelude.{Some, None, option_map, bytes_eq, codes}
use Rattle.std.specs.List.{slice_split}
use Rattle.model_span.specs.Attributes.{Value, Attribute, text, bool, int, texts, bools, ints}
use Rattle.text_words.specs.Words.{◌>>=◌, in_front, each_of, signed_number, text_of}

-- `true` or `false`
unfoldable pub bool_of : List ℕ → Option Bool
bool_of word =
    if bytes_eq word (codes "true") then Some true
    else if bytes_eq word (codes "false") then Some false
    else None

-- the members of an array, with commas (44) between them
abbrev pub members_of : List ℕ → List (List ℕ)
members_of [] = []
members_of (c ∷ cs) = slice_split (λ b. b == 44) (c ∷ cs)

-- what follows the letter of a kind, which is `t`, `b`, `i`, and for an array `T`, `B`, `I`
unfoldable pub value_of_kind : ℕ → List ℕ → Option Value
value_of_kind letter spelling =
    if letter == 116 then option_map text (text_of spelling)
    else if letter == 98 then option_map bool (bool_of spelling)
    else if letter == 105 then option_map int (signed_number spelling)
    else if letter == 84 then option_map texts (each_of text_of (members_of spelling))
    else if letter == 66 then option_map bools (each_of bool_of (members_of spelling))
    else if letter == 73 then option_map ints (each_of signed_number (members_of spelling))
    else None

-- a letter, a colon (58) and what follows it
unfoldable pub value_of : List ℕ → Option Value
value_of (letter ∷ colon ∷ spelling) = if colon == 58 then value_of_kind letter spelling else None
value_of _ = None

-- `KEY VALUE`
unfoldable pub pair_of : List ℕ → List ℕ → Option Attribute
pair_of key value = do
  k ← text_of key
  v ← value_of value
  Some (record { key = k; value = v })

-- any number of these
unfoldable pub pairs_of : List (List ℕ) → Option (List Attribute)
pairs_of [] = Some []
pairs_of (key ∷ []) = None
pairs_of (key ∷ value ∷ others) = in_front (pair_of key value) (pairs_of others)
