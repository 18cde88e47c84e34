use Rattle.std.proofs.Common.{◌≡◌, ◌++◌, replicate, string_bytes}
use Rattle.trace_tree.proofs.words.push_marks.Given as goal

abbrev pub invariant-loop : goal.invariant-loop
invariant-loop g l = string_bytes l.out ≡ string_bytes l.fn.out ++ replicate l.counter 35
