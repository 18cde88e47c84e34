-- What is known of spans while they are arranged in steps.
use Rattle.std.specs.Prelude.{◌≡◌, ℕ, nat_lt, if◌then◌else◌, Option, Some, None, List, [], length}
use Rattle.std.specs.Prelude.{map, take, All, AllPairs}
use Rattle.trace_tree.specs.Cycles.{IsTree}
use Rattle.trace_tree.specs.Opens.{OpenTree}
use Rattle.trace_tree.specs.Order.{ArePlaces, AreByStart, AreStarts, places_of}
use Rattle.trace_tree.specs.Parents.{names_none, parent_of, parents_of}
use Rattle.trace_tree.specs.Rows.{AreInOrder, ArePlaced, EachAfter, HangsInTree, IsPlace}
use Rattle.trace_tree.specs.declared.span.Row.{Row}
use Rattle.trace_tree.specs.declared.span.TreeSpan.{TreeSpan}
use Rattle.trace_tree.specs.declared.steps.Arranging.{Arranging}
use Rattle.trace_tree.specs.declared.steps.Kin.{Kin}

-- what the place of a span goes by, among the spans of its list
abbrev pub kin_of : List TreeSpan → TreeSpan → Kin
kin_of spans span = record {
  parent = parent_of spans span;
  names_none = names_none span;
  start_time_unix_nano = span.start_time_unix_nano;
}

-- the parent in a list of so many spans, if it has a place there
abbrev pub parent_in : ℕ → Option ℕ → Option ℕ
parent_in count None = None
parent_in count (Some place) = if nat_lt place count then Some place else None

-- the parent of each span, where that is in the list
abbrev pub parents_in : List Kin → List (Option ℕ)
parents_in kins = map (λ (k : Kin). parent_in (length kins) k.parent) kins

-- the first spans of a list, so many of them
pub record AreFirst {A : Type 0} (spans : List TreeSpan) (count : ℕ) (known : Arranging A)
    : Type 0 where
  pub kins : known.kins.items ≡ map (kin_of spans) (take count spans)

-- all spans of a list, without cycles of parents
pub record AreOpen (spans : List TreeSpan) (known : OpenTree) : Type 0 where
  pub is_tree : IsTree (parents_of spans) known.tree
  pub placed : ArePlaced spans (parents_of spans) known.tree known.places
  pub starts : AreStarts spans known.starts

-- the same, and they are sorted by their starts
pub record AreOrdered (spans : List TreeSpan) (known : OpenTree) : Type 0 where
  pub is_tree : IsTree (parents_of spans) known.tree
  pub placed : ArePlaced spans (parents_of spans) known.tree known.places
  pub by_start : AreByStart spans (places_of known.starts)

-- The rows of these spans: each span is in one row, for the reason that the row says, under its
-- parent or at the top, and those of one parent are by their start.
pub record AreArranged (spans : List TreeSpan) (rows : List Row) : Type 0 where
  pub each_once : ArePlaces (length spans) (map (λ (r : Row). r.index) rows)
  pub places : All (λ (r : Row). IsPlace spans r.index r.place) rows
  pub nested : EachAfter (HangsInTree spans) [] rows
  pub ordered : AllPairs (AreInOrder spans) rows
