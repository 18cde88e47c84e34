-- Families of spans, as more and more of them are put in.
use Rattle.std.proofs.Common.{◌≡◌, sym, ◌∙◌, ap, subst, refl, ℕ, ◌+◌, ◌<◌, ◌≤◌, inl, inr, Bool}
use Rattle.std.proofs.Common.{true, false, cond, Option, Some, None, is_none, List, [], ◌∷◌, ◌++◌}
use Rattle.std.proofs.Common.{length, get_or, set, replicate, take, append-nil, length-set, filter}
use Rattle.std.proofs.Common.{Vec}
use Rattle.std.proofs.lemmas.Bool.{eq-eqb, ne_eqb}
use Rattle.std.proofs.lemmas.List.{get_or-replicate, map_more, length-replicate, map-set}
use Rattle.std.proofs.lemmas.List.{get_or-map, take_all, length-map}
use Rattle.std.proofs.lemmas.List.Elements.{filter-append}
use Rattle.trace_tree.specs.Parents.{parent_at}
use Rattle.trace_tree.specs.Order.{is_parent, is_top, is_child, tops_of, children_of, AreChildren}
use Rattle.trace_tree.specs.Order.{places_of, lists_of}
use Rattle.trace_tree.proofs.Sets.{set_cases}

-- the spans in these places are in their families
pub record IsGrouped (tree : List (Option ℕ)) (places tops : List ℕ)
    (children : List (List ℕ)) : Type 0 where
  pub at_top : tops ≡ tops_of tree places
  pub count : length children ≡ length tree
  pub below_each : (p : ℕ) → p < length tree → get_or children p [] ≡ children_of tree places p

-- Before the first span, no span is at the top and none is a child.
pub grouped_first : (tree : List (Option ℕ)) (children : List (List ℕ))
    → children ≡ replicate (length tree) [] → IsGrouped tree [] [] children
grouped_first tree children e = record {
  at_top = refl;
  count = ap length e ∙ length-replicate (length tree) [];
  below_each = λ p h. ap (λ l. get_or l p []) e ∙ get_or-replicate (length tree) p [] [] h;
}

kept_yes : (p : ℕ → Bool) (ks : List ℕ) (k : ℕ) → p k ≡ true
    → filter p (ks ++ k ∷ []) ≡ filter p ks ++ k ∷ []
kept_yes p ks k e = filter-append p ks (k ∷ []) ∙ ap (λ b. filter p ks ++ cond b (k ∷ []) []) e

kept_no : (p : ℕ → Bool) (ks : List ℕ) (k : ℕ) → p k ≡ false → filter p (ks ++ k ∷ []) ≡ filter p ks
kept_no p ks k e =
    filter-append p ks (k ∷ []) ∙ ap (λ b. filter p ks ++ cond b (k ∷ []) []) e
    ∙ append-nil (filter p ks)

module _ (tree : List (Option ℕ)) (places tops : List ℕ) (children : List (List ℕ)) (k : ℕ)
    (g : IsGrouped tree places tops children) where
  -- A span without a parent goes to those at the top.
  pub grouped_top : parent_at tree k ≡ None
      → IsGrouped tree (places ++ k ∷ []) (tops ++ k ∷ []) children
  grouped_top none = record {
    at_top =
        ap (λ l. l ++ k ∷ []) g.at_top ∙ sym (kept_yes (is_top tree) places k (ap is_none none));
    count = g.count;
    below_each =
        λ p h.
        g.below_each p h ∙ sym (kept_no (is_child tree p) places k (ap (λ o. is_parent o p) none));
  }

  -- A span with a parent goes to the children of this parent.
  pub grouped_child : (q : ℕ) → parent_at tree k ≡ Some q → q < length tree
      → IsGrouped tree (places ++ k ∷ []) tops (set children q (get_or children q [] ++ k ∷ []))
  grouped_child q some within = record {
    at_top = g.at_top ∙ sym (kept_no (is_top tree) places k (ap is_none some));
    count = length-set children q (get_or children q [] ++ k ∷ []) ∙ g.count;
    below_each =
        λ p h. elim (set_cases children q (get_or children q [] ++ k ∷ []) []
        (subst (λ n. q < n) (sym g.count) within) p) [
          | inl here ↦
              here.1
              ∙ ap (λ l. l ++ k ∷ [])
              (ap (λ j. get_or children j []) (sym here.0) ∙ g.below_each p h)
              ∙ sym (kept_yes (is_child tree p) places k
              (ap (λ o. is_parent o p) some ∙ eq-eqb q p (sym here.0)))
          | inr other ↦
              other.1 ∙ g.below_each p h
              ∙ sym (kept_no (is_child tree p) places k
              (ap (λ o. is_parent o p) some ∙ ne_eqb q p (λ e. other.0 (sym e))))
        ];
  }

-- The places of one more start end with the place of this start.
pub places_more : (starts : List (ℕ × ℕ)) (i : ℕ) (d : ℕ × ℕ) → i < length starts
    → places_of (take (i + 1) starts) ≡ places_of (take i starts) ++ (get_or starts i d).1 ∷ []
places_more starts i d h = map_more (λ (s : ℕ × ℕ). s.1) starts i d h

-- After one more span with a parent, the spans so far are in their families.
pub step_child : (tree : List (Option ℕ)) (order : List (ℕ × ℕ)) (i : ℕ) (d : ℕ × ℕ)
    (tops after : List ℕ) (children later : List (List ℕ))
    → IsGrouped tree (places_of (take i order)) tops children → i < length order → (q : ℕ)
    → parent_at tree (get_or order i d).1 ≡ Some q → q < length tree
    → after ≡ tops → later ≡ set children q (get_or children q [] ++ (get_or order i d).1 ∷ [])
    → IsGrouped tree (places_of (take (i + 1) order)) after later
step_child tree order i d tops after children later g within q some listed same more =
    subst (λ ps. IsGrouped tree ps after later) (sym (places_more order i d within))
    (subst (λ ts. IsGrouped tree (places_of (take i order) ++ (get_or order i d).1 ∷ []) ts later)
    (sym same)
    (subst (λ cs. IsGrouped tree (places_of (take i order) ++ (get_or order i d).1 ∷ []) tops cs)
    (sym more)
    (grouped_child tree (places_of (take i order)) tops children
    (get_or order i d).1 g q some listed)))

-- After one more span without a parent, the spans so far are in their families.
pub step_top : (tree : List (Option ℕ)) (order : List (ℕ × ℕ)) (i : ℕ) (d : ℕ × ℕ)
    (tops after : List ℕ) (children later : List (List ℕ))
    → IsGrouped tree (places_of (take i order)) tops children → i < length order
    → parent_at tree (get_or order i d).1 ≡ None
    → after ≡ tops ++ (get_or order i d).1 ∷ [] → later ≡ children
    → IsGrouped tree (places_of (take (i + 1) order)) after later
step_top tree order i d tops after children later g within none more same =
    subst (λ ps. IsGrouped tree ps after later) (sym (places_more order i d within))
    (subst (λ ts. IsGrouped tree (places_of (take i order) ++ (get_or order i d).1 ∷ []) ts later)
    (sym more)
    (subst (λ cs. IsGrouped tree (places_of (take i order) ++ (get_or order i d).1 ∷ [])
    (tops ++ (get_or order i d).1 ∷ []) cs)
    (sym same)
    (grouped_top tree (places_of (take i order)) tops children (get_or order i d).1 g none)))

-- Once all spans are put in, each span has its children.
pub grouped_all : (tree : List (Option ℕ)) (order : List (ℕ × ℕ)) (i : ℕ) (tops : List ℕ)
    (children : List (List ℕ))
    → IsGrouped tree (places_of (take i order)) tops children → length order ≤ i
    → AreChildren tree (places_of order) children
grouped_all tree order i tops children g past = record {
  each =
      λ p h. g.below_each p (subst (λ n. p < n) g.count h)
      ∙ ap (λ l. children_of tree (places_of l) p) (take_all i order past);
}

-- The lists of children, with one more child of a parent, are those of the changed vectors.
pub child_added : {Z : Type 0} (children : List (Vec ℕ Z)) (parent k : ℕ) (old new : Vec ℕ Z)
    → parent < length children → old ≡ get_or children parent old
    → new.items ≡ old.items ++ k ∷ []
    → lists_of (set children parent new)
    ≡ set (lists_of children) parent (get_or (lists_of children) parent [] ++ k ∷ [])
child_added {Z} children parent k old new within read more =
    map-set (λ (v : Vec ℕ Z). v.items) children parent new
    ∙ ap (λ l. set (lists_of children) parent l)
    (more
    ∙ ap (λ l. l ++ k ∷ [])
    (ap (λ (v : Vec ℕ Z). v.items) read
    ∙ sym (get_or-map (λ (v : Vec ℕ Z). v.items) children parent old [] within)))

-- The vector of a span holds the span's children.
pub child_family : {Z : Type 0} (tree : List (Option ℕ)) (order : List ℕ)
    (children : List (Vec ℕ Z)) (p : ℕ) (v : Vec ℕ Z)
    → AreChildren tree order (lists_of children)
    → p < length children → v ≡ get_or children p v → v.items ≡ children_of tree order p
child_family {Z} tree order children p v a within read =
    ap (λ (v : Vec ℕ Z). v.items) read
    ∙ sym (get_or-map (λ (v : Vec ℕ Z). v.items) children p v [] within)
    ∙ a.each p (subst (λ n. p < n) (sym (length-map children (λ (v : Vec ℕ Z). v.items))) within)
