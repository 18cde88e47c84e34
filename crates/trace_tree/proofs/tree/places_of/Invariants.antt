use Rattle.std.proofs.Common.{◌≡◌, ℕ, ◌<◌, length, map, false, vec_len, vec_capacity}
use Rattle.std.specs.List.{slice_index_or}
use Rattle.trace_tree.specs.Parents.{parent_at}
use Rattle.trace_tree.specs.Rows.{place_by, place_at}
use Rattle.trace_tree.specs.declared.steps.Kin.{Kin}
use Rattle.trace_tree.proofs.tree.places_of.Given as goal

abbrev pub invariant-loop-index : goal.invariant-loop-index
invariant-loop-index g l = record {
  each : (k : ℕ) → k < l.index
      → place_at l.places.items k
      ≡ place_by (slice_index_or (map (λ (it : Kin). it.names_none) l.kins) k false)
      (parent_at l.parents k) (parent_at l.tree k);
  size : vec_len l.places ≡ l.index;
  capacity : vec_capacity l.places ≡ length l.kins;
}
