use Rattle.std.proofs.Common.{◌≡◌, ℕ, List, take}
use Rattle.std.specs.Borrow.{Bor}
use Rattle.std.specs.BTreeMap.{get}
use Rattle.std.specs.Cmp.Lexicographic.{slice_cmp}
use Rattle.std.specs.Ordering.{nat_cmp}
use Rattle.trace_tree.specs.Parents.{place_of_id}
use Rattle.trace_tree.proofs.parents.index_by_id.Given as goal

abbrev pub invariant-loop-index : goal.invariant-loop-index
invariant-loop-index g l =
    (id : Bor (List ℕ))
    → get (λ x y. slice_cmp nat_cmp x.now y.now) l.indices id
    ≡ place_of_id (take l.index l.spans) id.now
