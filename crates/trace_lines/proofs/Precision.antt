-- A precision cuts a text.
use Rattle.std.proofs.Common.{◌≡◌, ℕ, ◌-◌, List, append-nil, arith}
use Rattle.std.specs.Fmt.{char_count, format_spec, padded, take_chars}

-- Padding to no width with a precision of 120 leaves the first 120 characters.
pub cut_text : (text : List ℕ) → padded (format_spec 32 0 0 0 120) text ≡ take_chars 120 text
unfolding padded
cut_text text =
    let shown = take_chars 120 text in
    let none : 0 - char_count shown ≡ 0 = omega arith in
    rw none (append-nil shown)
