-- A long key of a member of `tracestate`.
use Rattle.std.specs.Prelude.{ℕ, List, ◌++◌, codes}

-- sixteen bytes
abbrev pub key_of_16 : List ℕ
key_of_16 = codes "0123456789abcdef"

-- sixteen times these
abbrev pub key_of_256 : List ℕ
key_of_256 =
    key_of_16 ++ key_of_16 ++ key_of_16 ++ key_of_16 ++ key_of_16 ++ key_of_16 ++ key_of_16
    ++ key_of_16 ++ key_of_16 ++ key_of_16 ++ key_of_16 ++ key_of_16 ++ key_of_16 ++ key_of_16
    ++ key_of_16 ++ key_of_16
