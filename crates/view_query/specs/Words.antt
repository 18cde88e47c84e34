-- The words of a search text. (profile)
use Rattle.std.specs.Prelude.{ℕ, ◌+◌, ◌-◌, zero, suc, ◌==◌, nat_le, Bool, false, not, ◌&&◌, ◌||◌}
use Rattle.std.specs.Prelude.{if◌then◌else◌, List, [], ◌∷◌, take}
use Rattle.std.specs.List.{prefix_len}
use Rattle.view_query.specs.declared.lex.Class.{Class}
use Rattle.view_query.specs.declared.lex.Class.TheVariants.{Key, Unquoted, Digit}

-- a space and a quote
abbrev pub is_space : ℕ → Bool
is_space c = c == 32

abbrev pub is_quote : ℕ → Bool
is_quote c = c == 34

-- = : ! < >
abbrev pub is_sign_byte : ℕ → Bool
is_sign_byte c = c == 61 || c == 58 || c == 33 || c == 60 || c == 62

-- what a key has, what isn't a quote, and a digit
abbrev pub is_in : Class → ℕ → Bool
is_in Key c = not (is_quote c || is_sign_byte c)
is_in Unquoted c = not (is_quote c)
is_in Digit c = nat_le 48 c && nat_le c 57

-- how many bytes of a kind are at the start
abbrev pub run : Class → List ℕ → ℕ
run class bytes = prefix_len (is_in class) bytes

-- whether the byte after this one is inside quotes, where this one is inside, or not
abbrev pub inside_after : Bool → ℕ → Bool
inside_after inside c = if is_quote c then not inside else inside

-- How many bytes the word has that is at the start: it goes to the first space outside quotes, or
-- to the end. What is at the start is inside quotes, or not.
abbrev pub word_length : Bool → List ℕ → ℕ
word_length inside [] = 0
word_length inside (c ∷ cs) =
    if is_space c && not inside then 0 else 1 + word_length (inside_after inside c) cs

-- The words of a text, each with its place: a word begins at the first byte that is no space after
-- the word before. At the start are so many bytes of a word that is read already.
abbrev pub words_after : ℕ → ℕ → List ℕ → List (ℕ × List ℕ)
words_after at skip [] = []
words_after at (suc k) (c ∷ cs) = words_after (at + 1) k cs
words_after at zero (c ∷ cs) =
    if is_space c then words_after (at + 1) zero cs
    else (at, take (word_length false (c ∷ cs)) (c ∷ cs))
    ∷ words_after (at + 1) (word_length false (c ∷ cs) - 1) cs

-- the words of a text, each with its place in bytes from 0
abbrev pub words_of : List ℕ → List (ℕ × List ℕ)
words_of text = words_after 0 zero text
