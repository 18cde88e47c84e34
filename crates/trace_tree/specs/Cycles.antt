-- Cycles of parents, and where they are opened.
use Rattle.std.specs.Prelude.{◌≡◌, ℕ, ◌<◌, ◌≤◌, ◌⊎◌, Option, Some, None, List, length}
use Rattle.trace_tree.specs.Parents.{parent_at}

-- From the span in one place, going to the parent once or more leads to the one in the other.
pub data HasAncestor (parents : List (Option ℕ)) : ℕ → ℕ → Type 0 where
  parent : {k p : ℕ} → parent_at parents k ≡ Some p → HasAncestor parents k p
  above : {k p a : ℕ} → parent_at parents k ≡ Some p → HasAncestor parents p a
      → HasAncestor parents k a

-- The span is on a cycle, and comes before the others of that cycle in the list.
pub record OpensCycle (parents : List (Option ℕ)) (k : ℕ) : Type 0 where
  pub on_cycle : HasAncestor parents k k
  pub first : (a : ℕ) → HasAncestor parents k a → k ≤ a

-- Going to the parent ends at a span without one.
pub data EndsAtTop (parents : List (Option ℕ)) : ℕ → Type 0 where
  topmost : {k : ℕ} → parent_at parents k ≡ None → EndsAtTop parents k
  beneath : {k p : ℕ} → parent_at parents k ≡ Some p → EndsAtTop parents p → EndsAtTop parents k

-- each parent has a place in the list
pub record AreInList (parents : List (Option ℕ)) : Type 0 where
  pub each : (k p : ℕ) → parent_at parents k ≡ Some p → p < length parents

-- the spans that open cycles have lost their parent, or some of them
pub record IsOpened (parents tree : List (Option ℕ)) : Type 0 where
  pub same_length : length tree ≡ length parents
  pub each : (k : ℕ) → (parent_at tree k ≡ parent_at parents k)
      ⊎ ((parent_at tree k ≡ None) × OpensCycle parents k)

-- enough of these spans have lost their parent that no cycle is left
pub record IsTree (parents tree : List (Option ℕ)) : Type 0 where
  pub opened : IsOpened parents tree
  pub ends : (k : ℕ) → k < length parents → EndsAtTop tree k
