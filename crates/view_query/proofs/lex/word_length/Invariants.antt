use Rattle.std.proofs.Common.{◌≡◌, ◌+◌, drop, false}
use Rattle.view_query.specs.Words as spec
use Rattle.view_query.proofs.lex.word_length.Given as goal

-- those before are the word's
abbrev pub invariant-loop-byte : goal.invariant-loop-byte
invariant-loop-byte l = record {
  count : l.found ≡ l.byte-index;
  is : l.found + spec.word_length l.inside (drop l.byte-index l.bytes)
      ≡ spec.word_length false l.bytes;
}
