use Rattle.std.proofs.Common.{◌≡◌, ◌++◌, drop, eqb}
use Rattle.std.specs.List.{list_all}
use Rattle.otlp_sampler.proofs.decimal.are_zeros_from.Given as goal

abbrev pub invariant-digits : goal.invariant-digits
invariant-digits l = record {
  is : list_all (λ c. eqb c 48) (drop l.fn.from (l.whole ++ l.fraction))
      ≡ list_all (λ c. eqb c 48) (drop l.i (l.whole ++ l.fraction));
}
