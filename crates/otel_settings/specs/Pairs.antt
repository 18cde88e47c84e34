-- What a list of names and values sets a variable to.
use Rattle.std.specs.Prelude.{ℕ, List, [], ◌∷◌, map, Option, Some, None, is_some, if◌then◌else◌}
use Rattle.std.specs.Prelude.{bytes_eq, option_and_then}
use Rattle.std.specs.Borrow.{Bor}
use Rattle.otel_settings.specs.declared.variable.Variable.{Variable}
use Rattle.otel_settings.specs.Variables.{name_of}

-- names and values, each as its bytes
abbrev pub Pairs : Type 0
Pairs = List (List ℕ × List ℕ)

abbrev pub pairs_view : List (Bor (List ℕ) × Bor (List ℕ)) → Pairs
pairs_view pairs = map (λ p. (p.0.now, p.1.now)) pairs

-- The value of the last pair with this name (profile: the standard has one value of a name).
unfoldable pub last_of : List ℕ → Pairs → Option (List ℕ)
last_of name [] = None
last_of name (pair ∷ later) =
    if is_some (last_of name later) then last_of name later
    else if bytes_eq pair.0 name then Some pair.1 else None

-- an empty value is no value (Environment Variable Specification, Parsing empty value)
abbrev pub non_empty : List ℕ → Option (List ℕ)
non_empty [] = None
non_empty (byte ∷ bytes) = Some (byte ∷ bytes)

-- what a variable is set to
unfoldable pub text_set : Variable → Pairs → Option (List ℕ)
text_set variable pairs = option_and_then non_empty (last_of (name_of variable) pairs)
