use Rattle.std.proofs.Common.{◌≡◌, ◌++◌, length, map, drop, vec_len, vec_capacity, ℕ}
use Rattle.std.specs.List.{range_with_len}
use Rattle.trace_tree.specs.Order.{places_of}
use Rattle.trace_tree.specs.declared.steps.Kin.{Kin}
use Rattle.trace_tree.proofs.steps.starts_of.Given as goal

-- those that are made, and those that are left
abbrev pub invariant-loop-index : goal.invariant-loop-index
invariant-loop-index g l = record {
  places : places_of l.starts.items ≡ range_with_len 0 l.index;
  all : map (λ (s : ℕ × ℕ). s.0) l.starts.items
      ++ map (λ (k : Kin). k.start_time_unix_nano) (drop l.index l.kins)
      ≡ map (λ (k : Kin). k.start_time_unix_nano) l.kins;
  count : vec_len l.starts ≡ l.index;
  capacity : vec_capacity l.starts ≡ length l.kins;
}
