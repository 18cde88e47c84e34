-- The parts of a text.
use Rattle.std.specs.Prelude.{ℕ, ◌+◌, ◌==◌, List, drop, position, reverse, take, Option, option_map}
use Rattle.httparse.specs.Grammar.{skip_ows}

-- what is before the first such byte, and what comes after it, if there is one (profile)
abbrev pub around_first : ℕ → List ℕ → Option (List ℕ × List ℕ)
around_first byte text =
    option_map (λ i. (take i text, drop (i + 1) text)) (position (λ b. b == byte) text)

-- the bytes without the spaces and tabs at their end (RFC 9110, section 5.6.3)
abbrev pub without_end_blanks : List ℕ → List ℕ
without_end_blanks text = reverse (skip_ows (reverse text))
