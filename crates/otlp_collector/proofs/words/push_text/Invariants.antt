use Rattle.std.proofs.Common.{◌≡◌, ◌++◌, string_bytes, drop}
use Rattle.std.specs.List.{flat_map}
use Rattle.otlp_collector.specs.Lines.{byte_word}
use Rattle.otlp_collector.proofs.words.push_text.Given as goal

-- what is written, and then the words of the bytes that are left, are all
abbrev pub invariant-loop-byte : goal.invariant-loop-byte
invariant-loop-byte g l =
    string_bytes l.out ++ flat_map byte_word (drop l.byte-index l.byte-items)
    ≡ string_bytes l.initial.out ++ flat_map byte_word l.byte-items
