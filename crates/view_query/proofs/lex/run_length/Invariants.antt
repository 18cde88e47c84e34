use Rattle.std.proofs.Common.{◌≡◌, ◌+◌, drop}
use Rattle.view_query.specs.Words.{run}
use Rattle.view_query.proofs.lex.run_length.Given as goal

-- those before are of the kind
abbrev pub invariant-loop-byte : goal.invariant-loop-byte
invariant-loop-byte l = record {
  count : l.found ≡ l.byte-index;
  is : l.found + run l.class (drop l.byte-index l.bytes) ≡ run l.class l.bytes;
}
