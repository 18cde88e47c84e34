-- What a soak has to find.
use Rattle.std.specs.Prelude.{IsTrue}
use Rattle.trace_demo.specs.declared.soak.verdict.Verdict.{Verdict}

-- All of it holds.
pub record IsSound (verdict : Verdict) : Type 0 where
  pub balanced : IsTrue verdict.is_balanced
  pub named : IsTrue verdict.are_lost_named
  pub counted : IsTrue verdict.are_counted
  pub equal : IsTrue verdict.are_equal
  pub kept : IsTrue verdict.are_delivered_kept
  pub flat : IsTrue verdict.is_flat
