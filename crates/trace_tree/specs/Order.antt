-- The order of spans in a list, and the families that it makes.
use Rattle.std.specs.Prelude.{◌≡◌, ℕ, ◌<◌, Bool, true, false, nat_lt, ◌==◌, ◌&&◌, ◌||◌, Option}
use Rattle.std.specs.Prelude.{Some, None, List, [], length, map, filter, AllPairs, IsPermutation}
use Rattle.std.specs.Prelude.{is_none, Vec, All}
use Rattle.std.specs.List.{slice_index, slice_index_or, range_with_len}
use Rattle.trace_tree.specs.Parents.{parent_at}
use Rattle.trace_tree.specs.declared.span.TreeSpan.{TreeSpan}

-- when the span in this place starts
abbrev pub start_at : List TreeSpan → ℕ → ℕ
start_at spans k = slice_index (map (λ (s : TreeSpan). s.start_time_unix_nano) spans) k

-- the one starts before the other, or with it and comes before it in the list
abbrev pub precedes : List TreeSpan → ℕ → ℕ → Bool
precedes spans i j = nat_lt (start_at spans i) (start_at spans j)
    || (start_at spans i == start_at spans j && nat_lt i j)

-- all places of a list of n items, in some order
abbrev pub ArePlaces : ℕ → List ℕ → Type 0
ArePlaces n places = IsPermutation (range_with_len 0 n) places

-- the places of starts
abbrev pub places_of : List (ℕ × ℕ) → List ℕ
places_of starts = map (λ (s : ℕ × ℕ). s.1) starts

-- for each span of the list when it starts, and its place
pub record AreStarts (spans : List TreeSpan) (starts : List (ℕ × ℕ)) : Type 0 where
  pub places : places_of starts ≡ range_with_len 0 (length spans)
  pub each : All (λ (s : ℕ × ℕ). s.0 ≡ start_at spans s.1) starts

-- all spans of the list, in order
pub record AreByStart (spans : List TreeSpan) (places : List ℕ) : Type 0 where
  pub all : ArePlaces (length spans) places
  pub ordered : AllPairs (λ i j. precedes spans i j ≡ true) places

abbrev pub is_parent : Option ℕ → ℕ → Bool
is_parent None p = false
is_parent (Some q) p = q == p

abbrev pub is_top : List (Option ℕ) → ℕ → Bool
is_top parents k = is_none (parent_at parents k)

abbrev pub is_child : List (Option ℕ) → ℕ → ℕ → Bool
is_child parents p k = is_parent (parent_at parents k) p

-- the places at the top, and those below another one, in this order
abbrev pub tops_of : List (Option ℕ) → List ℕ → List ℕ
tops_of parents order = filter (is_top parents) order

abbrev pub children_of : List (Option ℕ) → List ℕ → ℕ → List ℕ
children_of parents order p = filter (is_child parents p) order

-- these are the children of each span
pub record AreChildren (parents : List (Option ℕ)) (order : List ℕ) (children : List (List ℕ))
    : Type 0 where
  pub each : (p : ℕ) → p < length children
      → slice_index_or children p [] ≡ children_of parents order p

-- the lists in vectors
abbrev pub lists_of : {Z : Type 0} → List (Vec ℕ Z) → List (List ℕ)
lists_of {Z} vectors = map (λ (v : Vec ℕ Z). v.items) vectors
