-- The lines of a head (RFC 9112, section 2.1).
use Rattle.std.specs.Prelude.{ℕ, List, ◌++◌, codes}

-- the line that ends by CR LF
abbrev pub line : List ℕ → List ℕ
line text = text ++ codes "\r\n"
