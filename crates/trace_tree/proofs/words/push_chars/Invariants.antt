use Rattle.std.proofs.Common.{◌≡◌, ◌++◌, drop, encode_utf8_all, string_bytes}
use Rattle.trace_tree.proofs.words.push_chars.Given as goal

-- what is written, and then the characters that are left, are all
abbrev pub invariant-loop-ch : goal.invariant-loop-ch
invariant-loop-ch g l =
    string_bytes l.out ++ encode_utf8_all (drop l.ch-index l.chars)
    ≡ string_bytes l.fn.out ++ encode_utf8_all l.chars
