-- A tree whose cycles are opened.
use Rattle.std.specs.Prelude.{◌≡◌, ℕ, ◌<◌, Option, List, length}
use Rattle.trace_tree.specs.Cycles.{AreInList, EndsAtTop}
use Rattle.trace_tree.specs.Order.{ArePlaces, places_of}
use Rattle.trace_tree.specs.declared.span.Place.{Place}

-- What is known of spans once no cycle of parents is left: the parent of each in the tree, why it
-- has its place there, and the starts of all, each with the place of its span in the list.
pub record OpenTree : Type 0 where
  pub tree : List (Option ℕ)
  pub places : List Place
  pub starts : List (ℕ × ℕ)

-- each parent is in the list, each start is that of one span, and going to parents ends at the top
pub record IsSound (tree : List (Option ℕ)) (places : List Place) (starts : List (ℕ × ℕ))
    : Type 0 where
  pub in_list : AreInList tree
  pub as_many : length places ≡ length tree
  pub each_once : ArePlaces (length tree) (places_of starts)
  pub ends : (k : ℕ) → k < length tree → EndsAtTop tree k
