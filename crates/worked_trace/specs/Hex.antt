-- Bytes, written as hexadecimal text.
use Rattle.std.specs.Prelude.{ℕ, ◌+◌, ◌*◌, ◌-◌, List, [], ◌∷◌, filter, not, nat_lt, ◌==◌, codes}
use Rattle.std.specs.Prelude.{if◌then◌else◌}
use Prim.Native.String.{String}

-- what a digit stands for: '0' is character 48, 'a' is 97
abbrev pub digit : ℕ → ℕ
digit c = if nat_lt c 58 then c - 48 else c - 87

-- two digits a byte, the high one first
abbrev pub bytes_of : List ℕ → List ℕ
bytes_of [] = []
bytes_of (high ∷ []) = []
bytes_of (high ∷ low ∷ digits) = (16 * digit high + digit low) ∷ bytes_of digits

-- The bytes of a text of lower case digits, without its spaces.
unfoldable pub hex : String → List ℕ
hex text = bytes_of (filter (λ c. not (c == 32)) (codes text))
