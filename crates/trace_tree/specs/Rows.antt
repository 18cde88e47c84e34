-- What the rows of a tree are.
use Rattle.std.specs.Prelude.{◌≡◌, ℕ, ◌+◌, ◌<◌, Bool, true, false, Option, Some, None, List, []}
use Rattle.std.specs.Prelude.{◌∷◌, ◌++◌, length, map, All, AllPairs, IsSome, MatchOption}
use Rattle.std.specs.List.{slice_index_or}
use Rattle.trace_tree.specs.Parents.{names_none, parents_of, parent_at}
use Rattle.trace_tree.specs.Cycles.{OpensCycle}
use Rattle.trace_tree.specs.Order.{ArePlaces, precedes}
use Rattle.trace_tree.specs.declared.span.TreeSpan.{TreeSpan}
use Rattle.trace_tree.specs.declared.span.Place.{Place}
use Rattle.trace_tree.specs.declared.span.Place.TheVariants.{Root, Child, Orphan, Cycle}
use Rattle.trace_tree.specs.declared.span.Row.{Row}

-- whether the span in this place names no parent
abbrev pub is_root_at : List TreeSpan → ℕ → Bool
is_root_at spans k = slice_index_or (map names_none spans) k false

-- Why the span in this place has its place in the tree.
abbrev pub IsPlace : List TreeSpan → ℕ → Place → Type 0
IsPlace spans k Root = is_root_at spans k ≡ true
IsPlace spans k Orphan =
    (is_root_at spans k ≡ false) × (parent_at (parents_of spans) k ≡ None)
IsPlace spans k Child =
    IsSome (parent_at (parents_of spans) k) × ¬ OpensCycle (parents_of spans) k
IsPlace spans k Cycle = OpensCycle (parents_of spans) k

-- one of the rows before it is the parent's, one depth less, and since then all are deeper than it
pub record IsUnder (parent : ℕ) (before : List Row) (row : Row) : Type 0 where
  pub above : List Row
  pub parent_row : Row
  pub between : List Row
  pub split : before ≡ above ++ parent_row ∷ between
  pub is_parent : parent_row.index ≡ parent
  pub one_deeper : row.depth ≡ parent_row.depth + 1
  pub deeper : All (λ (r : Row). parent_row.depth < r.depth) between

-- the parent of a span in the tree, by its place there: that of the span, if it is there as a child
abbrev pub child_parent : Place → Option ℕ → Option ℕ
child_parent Child parent = parent
child_parent Root parent = None
child_parent Orphan parent = None
child_parent Cycle parent = None

abbrev pub tree_parent : List TreeSpan → Row → Option ℕ
tree_parent spans row = child_parent row.place (parent_at (parents_of spans) row.index)

-- a row at the top, or below its parent's
abbrev pub IsNested : Option ℕ → List Row → Row → Type 0
IsNested parent before row = MatchOption parent (row.depth ≡ 0) (λ p. IsUnder p before row)

-- each row, with those before it
abbrev pub EachAfter : (List Row → Row → Type 0) → List Row → List Row → Type 0
EachAfter P before [] = Unit {0}
EachAfter P before (row ∷ rows) = P before row × EachAfter P (before ++ row ∷ []) rows

-- a row below its parent's or at the top, by what its place is
abbrev pub HangsInTree : List TreeSpan → List Row → Row → Type 0
HangsInTree spans before row = IsNested (tree_parent spans row) before row

-- with the same parent, or both at the top, they are by their start and then by their place
abbrev pub AreInOrder : List TreeSpan → Row → Row → Type 0
AreInOrder spans a b =
    tree_parent spans a ≡ tree_parent spans b → precedes spans a.index b.index ≡ true

-- the place of a span, by whether it names no parent, by its parent, and by that in the tree
abbrev pub place_by : Bool → Option ℕ → Option ℕ → Place
place_by root parent (Some p) = Child
place_by root (Some q) None = Cycle
place_by true None None = Root
place_by false None None = Orphan

abbrev pub place_at : List Place → ℕ → Place
place_at places k = slice_index_or places k Root

-- the row of a span in a tree
abbrev pub row_at : List Place → ℕ → ℕ → Row
row_at places depth k = record { index = k; depth = depth; place = place_at places k }

-- the places of spans with these parents, which are those in the tree
pub record ArePlaced (spans : List TreeSpan) (parents tree : List (Option ℕ)) (places : List Place)
    : Type 0 where
  pub same_length : length places ≡ length spans
  pub each : (k : ℕ) → k < length spans
      → place_at places k ≡ place_by (is_root_at spans k) (parent_at parents k) (parent_at tree k)

-- the rows of a tree of these parents, in this order
pub record AreRowsOf (tree : List (Option ℕ)) (places : List Place) (order : List ℕ)
    (rows : List Row) : Type 0 where
  pub all : ArePlaces (length places) (map (λ (r : Row). r.index) rows)
  pub placed : All (λ (r : Row). r.place ≡ place_at places r.index) rows
  pub nested :
      EachAfter (λ before (row : Row). IsNested (parent_at tree row.index) before row) [] rows
  pub ordered : (r : ℕ → ℕ → Bool) → AllPairs (λ i j. r i j ≡ true) order
      → AllPairs (λ (a b : Row). parent_at tree a.index ≡ parent_at tree b.index
      → r a.index b.index ≡ true) rows
