-- Numbers and durations of a search. (profile)
use Rattle.std.specs.Prelude.{ℕ, ◌+◌, ◌-◌, ◌*◌, ◌^◌, nat_lt, if◌then◌else◌, List, [], ◌∷◌, codes}
use Rattle.std.specs.Prelude.{Option, Some, None, bytes_eq, drop, take, ◌==◌, length}
use Rattle.view_query.specs.Words.{is_in, run}
use Rattle.view_query.specs.declared.lex.Class.TheVariants.{Digit}

-- the number that digits spell after those of another, where each is a digit and it is below 2^64
abbrev pub number_after : ℕ → List ℕ → Option ℕ
number_after n [] = Some n
number_after n (c ∷ cs) =
    if is_in Digit c then (if nat_lt (n * 10 + (c - 48)) (2 ^ 64)
    then number_after (n * 10 + (c - 48)) cs else None)
    else None

-- the number below 2^64 that a text spells by digits alone, one or more
abbrev pub number_of : List ℕ → Option ℕ
number_of text = if length text == 0 then None else number_after 0 text

-- how many nanoseconds a unit has
unfoldable pub unit_of : List ℕ → Option ℕ
unit_of unit =
    if bytes_eq unit (codes "ns") then Some 1
    else if bytes_eq unit (codes "us") then Some 1_000
    else if bytes_eq unit (codes "ms") then Some 1_000_000
    else if bytes_eq unit (codes "s") then Some 1_000_000_000
    else if bytes_eq unit (codes "m") then Some 60_000_000_000
    else if bytes_eq unit (codes "h") then Some 3_600_000_000_000
    else None

-- a product below 2^64
abbrev pub product : Option ℕ → Option ℕ → Option ℕ
product None unit = None
product (Some n) None = None
product (Some n) (Some unit) = if nat_lt (n * unit) (2 ^ 64) then Some (n * unit) else None

-- the nanoseconds, below 2^64, that a number with its unit spells
abbrev pub nanos_of : List ℕ → Option ℕ
nanos_of text =
    product (number_of (take (run Digit text) text)) (unit_of (drop (run Digit text) text))
