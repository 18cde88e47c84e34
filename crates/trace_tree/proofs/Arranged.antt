-- The rows of a tree as those of spans.
use Rattle.std.proofs.Common.{◌≡◌, sym, ◌∙◌, ap, subst, refl, ℕ, ◌<◌, ◌⊎◌, inl, inr, Bool, true}
use Rattle.std.proofs.Common.{false, Option, Some, None, is_some, List, [], ◌∷◌, ◌++◌, length, map}
use Rattle.std.proofs.Common.{get_or, arith, All, AllPairs}
use Rattle.std.specs.List.{AllByRecursion as Each}
use Rattle.std.proofs.lemmas.List.Elements.{All-from_recursion, recursion_from_All}
use Rattle.std.proofs.lemmas.List.{length-map}
use Rattle.std.proofs.lemmas.Option.{none-some}
use Rattle.trace_tree.specs.Parents.{parent_of, parents_of, parent_at}
use Rattle.trace_tree.specs.Cycles.{IsTree}
use Rattle.trace_tree.specs.Order.{ArePlaces, precedes, AreByStart}
use Rattle.trace_tree.specs.Rows.{is_root_at, IsPlace, child_parent, tree_parent, IsNested}
use Rattle.trace_tree.specs.Rows.{EachAfter, HangsInTree, AreInOrder, place_by, place_at, ArePlaced}
use Rattle.trace_tree.specs.Rows.{AreRowsOf}
use Rattle.trace_tree.specs.declared.span.TreeSpan.{TreeSpan}
use Rattle.trace_tree.specs.declared.span.Place.{Place}
use Rattle.trace_tree.specs.declared.span.Row.{Row}
use Rattle.trace_tree.proofs.Ancestors.{opener_is_cut}
use Rattle.trace_tree.proofs.Eaches.{Each-unmap}
use Rattle.trace_tree.proofs.Partway.{places_within}

-- the parent in the tree, by the place
parent_by_place : (root : Bool) (up down : Option ℕ) → (down ≡ up) ⊎ (down ≡ None)
    → child_parent (place_by root up down) up ≡ down
parent_by_place root up (Some p) h =
    elim h [ inl same ↦ sym same | inr none ↦ absurd (none-some p (sym none)) ]
parent_by_place root (Some q) None h = refl
parent_by_place true None None h = refl
parent_by_place false None None h = refl

-- what the rows are below, from what they are below in the tree
after_same : (P Q : List Row → Row → Type 0) (G : Row → Type 0)
    → ((l : List Row) (r : Row) → G r → P l r → Q l r)
    → (l rows : List Row) → Each G rows → EachAfter P l rows → EachAfter Q l rows
after_same P Q G f l [] g h = tt
after_same P Q G f l (r ∷ rows) g h = (f l r g.0 h.0, after_same P Q G f (l ++ r ∷ []) rows g.1 h.1)

-- A list of spans has as many parents, given or missing, as spans.
pub parents_length : (spans : List TreeSpan) → length (parents_of spans) ≡ length spans
unfolding parents_of
parents_length spans = length-map spans (parent_of spans)

-- what is known of the spans before their rows are made
pub record Facts (spans : List TreeSpan) (tree : List (Option ℕ)) (places : List Place)
    (order : List ℕ) : Type 0 where
  pub is_tree : IsTree (parents_of spans) tree
  pub placed : ArePlaced spans (parents_of spans) tree places
  pub by_start : AreByStart spans order

module _ (spans : List TreeSpan) (tree : List (Option ℕ)) (places : List Place) (order : List ℕ)
    (rows : List Row)
    (fact : Facts spans tree places order) (w : AreRowsOf tree places order rows) where
  -- Each span has exactly one row.
  pub arranged_once : ArePlaces (length spans) (map (λ (r : Row). r.index) rows)
  arranged_once =
      subst (λ n. ArePlaces n (map (λ (r : Row). r.index) rows)) fact.placed.same_length w.all

  within : Each (λ (r : Row). r.index < length spans) rows
  within =
      Each-unmap (λ k. k < length spans) (λ (r : Row). r.index) rows
      (places_within (length spans) (map (λ (r : Row). r.index) rows) arranged_once)

  place_is : (r : Row) → r.index < length spans → r.place ≡ place_at places r.index
      → r.place
      ≡ place_by (is_root_at spans r.index) (parent_at (parents_of spans) r.index)
      (parent_at tree r.index)
  place_is r h e = e ∙ fact.placed.each r.index h

  parent_is : (r : Row) → r.index < length spans → r.place ≡ place_at places r.index
      → tree_parent spans r ≡ parent_at tree r.index
  parent_is r h e =
      ap (λ place. child_parent place (parent_at (parents_of spans) r.index)) (place_is r h e)
      ∙ parent_by_place (is_root_at spans r.index) (parent_at (parents_of spans) r.index)
      (parent_at tree r.index)
      (elim (fact.is_tree.opened.each r.index) [ inl same ↦ inl same | inr cut ↦ inr cut.0 ])

  each_parent : All (λ (r : Row). tree_parent spans r ≡ parent_at tree r.index) rows
  each_parent k d h =
      parent_is (get_or rows k d)
      (All-from_recursion (λ (r : Row). r.index < length spans) rows within k d h) (w.placed k d h)

  -- why a span has its place
  place_by_is : (k : ℕ) → k < length spans → (root : Bool) (up down : Option ℕ)
      → is_root_at spans k ≡ root → parent_at (parents_of spans) k ≡ up → parent_at tree k ≡ down
      → IsPlace spans k (place_by root up down)
  place_by_is k h root up (Some q) er eu ed = elim (fact.is_tree.opened.each k) [
    | inl same ↦ (
      ap is_some (sym same ∙ ed),
      λ o. none-some q
          (sym (opener_is_cut (parents_of spans) tree fact.is_tree.opened k
          (fact.is_tree.ends k (subst (λ n. k < n) (sym (parents_length spans)) h)) o)
          ∙ ed),
    )
    | inr cut ↦ absurd (none-some q (sym cut.0 ∙ ed))
  ]
  place_by_is k h root (Some q) None er eu ed = elim (fact.is_tree.opened.each k) [
    | inl same ↦ absurd (none-some q (sym ed ∙ same ∙ eu))
    | inr cut ↦ cut.1
  ]
  place_by_is k h true None None er eu ed = er
  place_by_is k h false None None er eu ed = (er, eu)

  -- Each row has the place that its span has in the tree.
  pub arranged_places : All (λ (r : Row). IsPlace spans r.index r.place) rows
  arranged_places k d h =
      let here = All-from_recursion (λ (r : Row). r.index < length spans) rows within k d h in
      place_of_row (get_or rows k d) here (w.placed k d h)
    where
      place_of_row : (r : Row) → r.index < length spans → r.place ≡ place_at places r.index
          → IsPlace spans r.index r.place
      place_of_row r here e =
          subst (IsPlace spans r.index) (sym (place_is r here e))
          (place_by_is r.index here (is_root_at spans r.index)
          (parent_at (parents_of spans) r.index) (parent_at tree r.index) refl refl refl)

  -- Each row is at the top or below the row of its parent.
  pub arranged_nested : EachAfter (HangsInTree spans) [] rows
  arranged_nested =
      after_same (λ l (r : Row). IsNested (parent_at tree r.index) l r) (HangsInTree spans)
      (λ (r : Row). tree_parent spans r ≡ parent_at tree r.index)
      (λ l r e h. subst (λ o. IsNested o l r) (sym e) h) [] rows
      (recursion_from_All
      (λ (r : Row). tree_parent spans r ≡ parent_at tree r.index) rows each_parent)
      w.nested

  -- Rows with the same parent are in the order of their starts.
  pub arranged_ordered : AllPairs (AreInOrder spans) rows
  arranged_ordered i j d less h same =
      let first : i < length rows = omega arith in
      w.ordered (precedes spans) fact.by_start.ordered i j d less h
      (sym (each_parent i d first) ∙ same ∙ each_parent j d h)
