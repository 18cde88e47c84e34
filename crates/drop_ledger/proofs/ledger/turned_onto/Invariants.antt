use Rattle.std.proofs.Common.{◌≡◌, ◌++◌, IsTrue, length, reverse}
use Rattle.std.specs.Option.{ForSome}
use Rattle.otlp_span.specs.Slips.{entries_of, is_named}
use Rattle.drop_ledger.proofs.ledger.turned_onto.Given as goal

-- what is left, reversed and put onto the chain so far, is the whole
abbrev pub invariant-loop-rest : goal.invariant-loop-rest
invariant-loop-rest g l = record {
  all : reverse (entries_of l.rest) ++ entries_of l.turned
      ≡ reverse (entries_of l.initial.rest) ++ entries_of l.initial.turned;
  rest_named : ForSome l.rest (λ slip. IsTrue (is_named slip));
  turned_named : ForSome l.turned (λ slip. IsTrue (is_named slip));
}

abbrev pub decreases-loop-rest : goal.decreases-loop-rest
decreases-loop-rest g l = length (entries_of l.rest)
