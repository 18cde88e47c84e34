-- Some rows of a tree, with the pile of those that come next.
use Rattle.std.proofs.Common.{◌≡◌, sym, ◌∙◌, ap, subst, refl, ℕ, zero, suc, ◌+◌, ◌<◌, ◌≤◌, inl, inr}
use Rattle.std.proofs.Common.{Bool, true, false, not, eqb, ◌||◌, Option, Some, None, is_none, List}
use Rattle.std.proofs.Common.{[], ◌∷◌, ◌++◌, length, map, reverse, length-append, append_assoc}
use Rattle.std.proofs.Common.{append-nil, arith, filter, All}
use Rattle.std.specs.List.{AllByRecursion as Each, range_with_len}
use Rattle.std.specs.List.Sorted.{IsPermutation}
use Rattle.std.proofs.lemmas.Bool.{cases_eq, cases_lt, eqb-true, eq-eqb, ne_eqb, true≢false}
use Rattle.std.proofs.lemmas.Bool.{both_ways}
use Rattle.std.proofs.lemmas.List.Elements.{All-from_recursion, recursion_from_All, All-push}
use Rattle.std.proofs.lemmas.List.Elements.{All-nil}
use Rattle.std.proofs.lemmas.List.Sorted.{IsPermutation-trans, IsPermutation-append_left}
use Rattle.std.proofs.lemmas.List.Sorted.{IsPermutation-append_right, IsPermutation-append_comm}
use Rattle.std.proofs.lemmas.List.Sorted.{IsPermutation-cons, IsPermutation-filter_both}
use Rattle.std.proofs.lemmas.List.Sorted.{length_permutation, All-permutation}
use Rattle.std.proofs.lemmas.List.{map-append, length-map, reverse-append, reverse-reverse}
use Rattle.std.proofs.lemmas.List.FromFn.{length-range_with_len}
use Rattle.trace_tree.specs.Parents.{parent_at}
use Rattle.trace_tree.specs.Cycles.{AreInList, EndsAtTop, topmost, beneath}
use Rattle.trace_tree.specs.Order.{ArePlaces, places_of, is_parent, is_top, is_child, tops_of}
use Rattle.trace_tree.specs.Order.{children_of}
use Rattle.trace_tree.specs.Rows.{IsUnder, IsNested, EachAfter, place_at, row_at, AreRowsOf}
use Rattle.trace_tree.specs.declared.span.Place.{Place}
use Rattle.trace_tree.specs.declared.span.Row.{Row}
use Rattle.trace_tree.proofs.Eaches.{Each-append, Each-front, Each-back, Each-weaker, Each-always}
use Rattle.trace_tree.proofs.Eaches.{Each-map, Each-unmap, Each-filter, Each-passes, Pairs}
use Rattle.trace_tree.proofs.Eaches.{Pairs-append, Pairs-between, Pairs-map, Pairs-weaker}
use Rattle.trace_tree.proofs.Eaches.{Pairs-always, Pairs-filter, Pairs-from_All, All-from_Pairs}
use Rattle.trace_tree.proofs.Times.{times, times-append, times-same, times-other, times-place}
use Rattle.trace_tree.proofs.Times.{times-past, times-permutation, times-filter_out, filter_none}
use Rattle.trace_tree.proofs.Times.{filter_split}

abbrev pub indices : List Row → List ℕ
indices rows = map (λ (r : Row). r.index) rows

-- the parent isn't among these yet
abbrev pub awaits : Option ℕ → List ℕ → Bool
awaits None done = false
awaits (Some p) done = eqb (times p done) 0

abbrev pub waits : List (Option ℕ) → List ℕ → ℕ → Bool
waits tree done k = awaits (parent_at tree k) done

-- with the same parent, or both at the top, they are as the test wants them
abbrev pub AreSiblingsBy : List (Option ℕ) → (ℕ → ℕ → Bool) → Row → Row → Type 0
AreSiblingsBy tree r a b =
    parent_at tree a.index ≡ parent_at tree b.index → r a.index b.index ≡ true

abbrev pub Hangs : List (Option ℕ) → List Row → Row → Type 0
Hangs tree before row = IsNested (parent_at tree row.index) before row

abbrev pub IsLevel : Row → Row → Type 0
IsLevel a b = b.depth ≤ a.depth

-- The first row of the pile comes next. What waits for its parent comes later.
pub record IsPartway (tree : List (Option ℕ)) (places : List Place) (order : List ℕ)
    (rows pile : List Row) : Type 0 where
  pub each_once : IsPermutation order
      (indices rows ++ (indices pile ++ filter (waits tree (indices rows)) order))
  pub placed : Each (λ (r : Row). r.place ≡ place_at places r.index) rows
  pub placed_pile : Each (λ (r : Row). r.place ≡ place_at places r.index) pile
  pub nested : EachAfter (Hangs tree) [] rows
  pub hangs : Each (Hangs tree rows) pile
  pub levels : Pairs IsLevel pile
  pub shallow : Each (λ (r : Row). r.depth ≤ length rows) pile
  pub rooted : Each (λ (r : Row). waits tree (indices rows) r.index ≡ false) (rows ++ pile)
  pub siblings : (r : ℕ → ℕ → Bool) → Pairs (λ i j. r i j ≡ true) order
      → Pairs (AreSiblingsBy tree r) (rows ++ pile)

-- ---- one more of those that are done

one_more : (p x : ℕ) (done : List ℕ) → (p ≡ x → ⊥) → times p (done ++ x ∷ []) ≡ times p done
one_more p x done ne =
    let a = times-append p done (x ∷ []) in
    let b = times-other p x [] (λ e. ne (sym e)) in
    omega arith

itself_more : (x : ℕ) (done : List ℕ) → times x (done ++ x ∷ []) ≡ times x done + 1
itself_more x done =
    let a = times-append x done (x ∷ []) in
    let b = times-same x x [] refl in
    omega arith

awaits_split : (o : Option ℕ) (x : ℕ) (done : List ℕ) → times x done ≡ 0
    → awaits o done ≡ (is_parent o x || awaits o (done ++ x ∷ []))
awaits_split None x done new = refl
awaits_split (Some p) x done new = elim (cases_eq p x) [
  | inl e ↦
      let zero : times p done ≡ 0 = ap (λ j. times j done) e ∙ new in
      rw (eq-eqb p x e, eq-eqb (times p done) 0 zero)
  | inr ne ↦ rw (ne_eqb p x ne, one_more p x done ne)
]

awaits_apart : (o : Option ℕ) (x : ℕ) (done : List ℕ) → is_parent o x ≡ true
    → awaits o (done ++ x ∷ []) ≡ false
awaits_apart None x done e = refl
awaits_apart (Some p) x done e =
    let same = eqb-true p x e in
    let more = itself_more x done in
    let some : times p (done ++ x ∷ []) ≡ 0 → ⊥ =
    λ z.
    absurd (never (times x done) (sym more ∙ ap (λ j. times j (done ++ x ∷ [])) (sym same) ∙ z)) in
    ne_eqb (times p (done ++ x ∷ [])) 0 some
  where
    never : (n : ℕ) → n + 1 ≡ 0 → ⊥
    never n e = omega arith

awaits_less : (o : Option ℕ) (x : ℕ) (done : List ℕ) → awaits o done ≡ false
    → awaits o (done ++ x ∷ []) ≡ false
awaits_less None x done e = refl
awaits_less (Some p) x done e =
    let a = times-append p done (x ∷ []) in
    let some : times p (done ++ x ∷ []) ≡ 0 → ⊥ =
    λ z. let none : times p done ≡ 0 = omega arith in
    both_ways (eqb (times p done) 0) e (eq-eqb (times p done) 0 none) in
    ne_eqb (times p (done ++ x ∷ [])) 0 some

-- a parent that isn't among them
not_parent : (o : Option ℕ) (x : ℕ) (done : List ℕ) → awaits o done ≡ false → times x done ≡ 0
    → o ≡ Some x → ⊥
not_parent o x done e new same =
    both_ways (awaits (Some x) done) (ap (λ p. awaits p done) (sym same) ∙ e)
    (eq-eqb (times x done) 0 new)

is_parent-true : (o : Option ℕ) (p : ℕ) → is_parent o p ≡ true → o ≡ Some p
is_parent-true None p e = absurd (true≢false (sym e))
is_parent-true (Some q) p e = ap Some (eqb-true q p e)

is_none-true : (o : Option ℕ) → is_none o ≡ true → o ≡ None
is_none-true None e = refl
is_none-true (Some q) e = absurd (true≢false (sym e))

awaits_none : (o : Option ℕ) → awaits o [] ≡ not (is_none o)
awaits_none None = refl
awaits_none (Some p) = eq-eqb 0 0 refl

-- ---- rows of one depth

module _ (places : List Place) (depth : ℕ) where
  -- The rows of some spans have the indices of these spans.
  pub indices_of : (ks : List ℕ) → indices (map (row_at places depth) ks) ≡ ks
  indices_of [] = refl
  indices_of (k ∷ ks) = ap (λ l. k ∷ l) (indices_of ks)

  row_each : (P : Row → Type 0) (ks : List ℕ) → Each (λ k. P (row_at places depth k)) ks
      → Each P (map (row_at places depth) ks)
  row_each P ks h = Each-map P (row_at places depth) ks h

  rows_level : (ks : List ℕ) → Pairs IsLevel (map (row_at places depth) ks)
  rows_level ks =
      Pairs-map IsLevel (row_at places depth) ks
      (Pairs-always (λ i j. depth ≤ depth) (λ i j. let h : depth ≤ depth = omega arith in h) ks)

  rows_placed : (ks : List ℕ)
      → Each (λ (r : Row). r.place ≡ place_at places r.index) (map (row_at places depth) ks)
  rows_placed ks =
      row_each (λ (r : Row). r.place ≡ place_at places r.index) ks
      (Each-always (λ k. place_at places k ≡ place_at places k) (λ k. refl) ks)

  rows_siblings : (tree : List (Option ℕ)) (r : ℕ → ℕ → Bool) (ks : List ℕ)
      → Pairs (λ i j. r i j ≡ true) ks → Pairs (AreSiblingsBy tree r) (map (row_at places depth) ks)
  rows_siblings tree r ks h =
      Pairs-map (AreSiblingsBy tree r) (row_at places depth) ks
      (Pairs-weaker (λ i j. r i j ≡ true)
      (λ i j. parent_at tree i ≡ parent_at tree j → r i j ≡ true) (λ i j e same. e) ks h)

-- ---- at first

module _ (tree : List (Option ℕ)) (places : List Place) (order : List ℕ) where
  tops : List ℕ
  tops = tops_of tree order

  top_is : Each (λ k. parent_at tree k ≡ None) tops
  unfolding tops
  top_is =
      Each-passes (λ k. parent_at tree k ≡ None) (is_top tree)
      (λ k e. is_none-true (parent_at tree k) e) order

  first_once : IsPermutation order
      (indices (map (row_at places 0) tops) ++ filter (waits tree []) order)
  unfolding tops
  first_once =
      subst (λ l. IsPermutation order (l ++ filter (waits tree []) order))
      (sym (indices_of places 0 (tops_of tree order)))
      (IsPermutation-filter_both (is_top tree) (waits tree [])
      (λ k. awaits_none (parent_at tree k)) order)

  -- Before the first row, the pile has the rows of the spans at the top.
  pub partway_first : IsPartway tree places order [] (map (row_at places 0) (tops_of tree order))
  unfolding tops
  partway_first = record {
    each_once = first_once;
    placed = tt;
    placed_pile = rows_placed places 0 (tops_of tree order);
    nested = tt;
    hangs = row_each places 0 (Hangs tree []) (tops_of tree order)
        (Each-weaker (λ k. parent_at tree k ≡ None) (λ k. Hangs tree [] (row_at places 0 k))
        (λ k e. at_top k e) (tops_of tree order) top_is);
    levels = rows_level places 0 (tops_of tree order);
    shallow =
        row_each places 0 (λ (r : Row). r.depth ≤ 0) (tops_of tree order)
        (Each-always (λ k. 0 ≤ 0) (λ k. none) (tops_of tree order));
    rooted = row_each places 0 (λ (r : Row). waits tree [] r.index ≡ false) (tops_of tree order)
        (Each-weaker (λ k. parent_at tree k ≡ None) (λ k. waits tree [] k ≡ false)
        (λ k e. ap (λ o. awaits o []) e) (tops_of tree order) top_is);
    siblings =
        λ r h. rows_siblings places 0 tree r (tops_of tree order)
        (Pairs-filter (λ i j. r i j ≡ true) (is_top tree) order h);
  }
    where
      none : 0 ≤ 0
      none = omega arith

      at_top : (k : ℕ) → parent_at tree k ≡ None → Hangs tree [] (row_at places 0 k)
      at_top k e = subst (λ o. IsNested o [] (row_at places 0 k)) (sym e) refl

-- ---- a row more

after_push : (P : List Row → Row → Type 0) (before rows : List Row) (x : Row)
    → EachAfter P before rows → P (before ++ rows) x → EachAfter P before (rows ++ x ∷ [])
after_push P before [] x h g = (subst (λ l. P l x) (append-nil before) g, tt)
after_push P before (r ∷ rows) x h g = (
  h.0,
  after_push P (before ++ r ∷ []) rows x h.1
      (subst (λ l. P l x) (sym (append_assoc before (r ∷ []) rows)) g),
)

under_push : (p : ℕ) (before : List Row) (row x : Row) → IsUnder p before row → row.depth ≤ x.depth
    → IsUnder p (before ++ x ∷ []) row
under_push p before row x u level = record {
  above = u.above;
  parent_row = u.parent_row;
  between = u.between ++ x ∷ [];
  split = ap (λ l. l ++ x ∷ []) u.split ∙ append_assoc u.above (u.parent_row ∷ u.between) (x ∷ []);
  is_parent = u.is_parent;
  one_deeper = u.one_deeper;
  deeper =
      let one = u.one_deeper in
      let less : u.parent_row.depth < x.depth = omega arith in
      All-push (λ (r : Row). u.parent_row.depth < r.depth) u.between x u.deeper less;
}

nested_push : (o : Option ℕ) (before : List Row) (row x : Row) → IsNested o before row
    → row.depth ≤ x.depth → IsNested o (before ++ x ∷ []) row
nested_push None before row x h level = h
nested_push (Some p) before row x h level = under_push p before row x h level

under_last : (before : List Row) (row x : Row) → row.depth ≡ x.depth + 1
    → IsUnder x.index (before ++ x ∷ []) row
under_last before row x deep = record {
  above = before;
  parent_row = x;
  between = [];
  split = refl;
  is_parent = refl;
  one_deeper = deep;
  deeper = All-nil (λ (r : Row). x.depth < r.depth);
}

hang_last : (tree : List (Option ℕ)) (rows : List Row) (x : Row) (l : List Row)
    → Each (λ (r : Row). parent_at tree r.index ≡ Some x.index) l
    → Each (λ (r : Row). r.depth ≡ x.depth + 1) l → Each (Hangs tree (rows ++ x ∷ [])) l
hang_last tree rows x [] h g = tt
hang_last tree rows x (r ∷ l) h g = (
  subst (λ o. IsNested o (rows ++ x ∷ []) r) (sym h.0) (under_last rows r x g.0),
  hang_last tree rows x l h.1 g.1,
)

hang_pushed : (tree : List (Option ℕ)) (rows : List Row) (x : Row) (l : List Row)
    → Each (Hangs tree rows) l → Each (IsLevel x) l → Each (Hangs tree (rows ++ x ∷ [])) l
hang_pushed tree rows x [] h g = tt
hang_pushed tree rows x (r ∷ l) h g =
    (nested_push (parent_at tree r.index) rows r x h.0 g.0, hang_pushed tree rows x l h.1 g.1)

module _ (tree : List (Option ℕ)) (places : List Place) (order : List ℕ) (rows pile : List Row)
    (x : Row) (n : ℕ) (all : ArePlaces n order)
    (w : IsPartway tree places order rows (x ∷ pile)) where
  waiting : List ℕ
  waiting = filter (waits tree (indices rows)) order

  later : List ℕ
  later = filter (waits tree (indices rows ++ x.index ∷ [])) order

  count : (k : ℕ)
      → times k order
      ≡ times k (indices rows) + (times k (x.index ∷ indices pile) + times k waiting)
  unfolding waiting
  count k =
      let whole =
      times-permutation k order
      (indices rows ++ (indices (x ∷ pile) ++ filter (waits tree (indices rows)) order))
      w.each_once in
      let outer =
      times-append k (indices rows)
      (indices (x ∷ pile) ++ filter (waits tree (indices rows)) order) in
      let inner = times-append k (indices (x ∷ pile)) (filter (waits tree (indices rows)) order) in
      sym whole ∙ outer ∙ ap (λ m. times k (indices rows) + m) inner

  -- The span of the first row on the pile is in the list.
  pub next_in_list : x.index < n
  next_in_list = elim (cases_lt x.index n) [
    | inl h ↦ h
    | inr past ↦
        let c = count x.index in
        let one = times-same x.index x.index (indices pile) refl in
        let none = times-past n order all x.index past in
        absurd (never (times x.index (indices rows)) (times x.index (indices pile))
        (times x.index waiting)
        (sym none ∙ c ∙ ap (λ m. times x.index (indices rows) + (m + times x.index waiting)) one))
  ]
    where
      never : (a b c : ℕ) → 0 ≡ a + ((1 + b) + c) → ⊥
      never a b c e = omega arith

  next_is_new : times x.index (indices rows) ≡ 0
  next_is_new =
      let c = count x.index in
      let one = times-same x.index x.index (indices pile) refl in
      let most = times-place n order all x.index next_in_list in
      none (times x.index (indices rows)) (times x.index (indices pile)) (times x.index waiting)
      (sym most ∙ c ∙ ap (λ m. times x.index (indices rows) + (m + times x.index waiting)) one)
    where
      none : (a b c : ℕ) → 1 ≡ a + ((1 + b) + c) → a ≡ 0
      none a b c e = omega arith

  -- Fewer rows than spans are done while a row is on the pile.
  pub room : length rows < n
  room =
      let whole =
      length_permutation order
      (indices rows ++ (indices (x ∷ pile) ++ filter (waits tree (indices rows)) order))
      w.each_once in
      let outer =
      length-append (indices rows)
      (indices (x ∷ pile) ++ filter (waits tree (indices rows)) order) in
      let inner = length-append (indices (x ∷ pile)) (filter (waits tree (indices rows)) order) in
      let long = length-map rows (λ (r : Row). r.index) in
      let size = length_permutation (range_with_len 0 n) order all in
      let range = length-range_with_len 0 n in
      less (length rows) (length order) (length (indices rows)) (length (indices pile))
      (length (filter (waits tree (indices rows)) order))
      (sym whole ∙ outer ∙ ap (λ m. length (indices rows) + m) inner) long (size ∙ range)
    where
      less : (r o i p q : ℕ) → o ≡ i + (suc p + q) → i ≡ r → o ≡ n → r < n
      less r o i p q e f g = omega arith

  waiting_split : IsPermutation waiting (children_of tree order x.index ++ later)
  unfolding waiting later
  waiting_split =
      filter_split (waits tree (indices rows)) (is_child tree x.index)
      (waits tree (indices rows ++ x.index ∷ []))
      (λ k. awaits_split (parent_at tree k) x.index (indices rows) next_is_new)
      (λ k. awaits_apart (parent_at tree k) x.index (indices rows)) order

  children : List ℕ
  children = children_of tree order x.index

  lower : List Row
  lower = map (row_at places (x.depth + 1)) children

  -- the same numbers, in another order
  moved : IsPermutation order
      ((indices rows ++ x.index ∷ []) ++ ((children ++ indices pile) ++ later))
  unfolding waiting children
  moved =
      let appended : IsPermutation (indices pile ++ waiting)
      ((children_of tree order x.index ++ indices pile) ++ later) =
      IsPermutation-trans (indices pile ++ waiting)
      (indices pile ++ (children_of tree order x.index ++ later))
      ((children_of tree order x.index ++ indices pile) ++ later)
      (IsPermutation-append_right (indices pile) waiting
      (children_of tree order x.index ++ later) waiting_split)
      (subst (λ l. IsPermutation l ((children_of tree order x.index ++ indices pile) ++ later))
      (append_assoc (indices pile) (children_of tree order x.index) later)
      (IsPermutation-append_left later (indices pile ++ children_of tree order x.index)
      (children_of tree order x.index ++ indices pile)
      (IsPermutation-append_comm (indices pile) (children_of tree order x.index)))) in
      subst (IsPermutation order)
      (sym (append_assoc (indices rows) (x.index ∷ [])
      ((children_of tree order x.index ++ indices pile) ++ later)))
      (IsPermutation-trans order (indices rows ++ (x.index ∷ (indices pile ++ waiting)))
      (indices rows ++ (x.index ∷ ((children_of tree order x.index ++ indices pile) ++ later)))
      w.each_once
      (IsPermutation-append_right (indices rows) (x.index ∷ (indices pile ++ waiting))
      (x.index ∷ ((children_of tree order x.index ++ indices pile) ++ later))
      (IsPermutation-cons x.index (indices pile ++ waiting)
      ((children_of tree order x.index ++ indices pile) ++ later) appended)))

  indices_more : indices (rows ++ x ∷ []) ≡ indices rows ++ x.index ∷ []
  indices_more = map-append (λ (r : Row). r.index) rows (x ∷ [])

  indices_below : indices (lower ++ pile) ≡ children ++ indices pile
  unfolding lower
  indices_below =
      map-append (λ (r : Row). r.index) (map (row_at places (x.depth + 1)) children) pile
      ∙ ap (λ l. l ++ indices pile) (indices_of places (x.depth + 1) children)

  once_after : IsPermutation order
      (indices (rows ++ x ∷ [])
      ++ (indices (lower ++ pile) ++ filter (waits tree (indices (rows ++ x ∷ []))) order))
  unfolding later
  once_after =
      subst
      (λ l. IsPermutation order (l ++ (indices (lower ++ pile) ++ filter (waits tree l) order)))
      (sym indices_more)
      (subst (λ l. IsPermutation order
      ((indices rows ++ x.index ∷ [])
      ++ (l ++ filter (waits tree (indices rows ++ x.index ∷ [])) order)))
      (sym indices_below) moved)

  child_is : Each (λ k. parent_at tree k ≡ Some x.index) children
  unfolding children
  child_is =
      Each-passes (λ k. parent_at tree k ≡ Some x.index) (is_child tree x.index)
      (λ k e. is_parent-true (parent_at tree k) x.index e) order

  below_is : Each (λ (r : Row). parent_at tree r.index ≡ Some x.index) lower
  unfolding lower
  below_is =
      row_each places (x.depth + 1)
      (λ (r : Row). parent_at tree r.index ≡ Some x.index) children child_is

  below_deep : Each (λ (r : Row). r.depth ≡ x.depth + 1) lower
  unfolding lower
  below_deep =
      row_each places (x.depth + 1) (λ (r : Row). r.depth ≡ x.depth + 1) children
      (Each-always (λ k. x.depth + 1 ≡ x.depth + 1) (λ k. refl) children)

  not_above : (r : Row) → waits tree (indices rows) r.index ≡ false
      → parent_at tree r.index ≡ Some x.index → ⊥
  not_above r e same = not_parent (parent_at tree r.index) x.index (indices rows) e next_is_new same

  rooted_all : Each (λ (r : Row). waits tree (indices rows) r.index ≡ false)
      ((rows ++ x ∷ []) ++ pile)
  rooted_all =
      subst (Each (λ (r : Row). waits tree (indices rows) r.index ≡ false))
      (sym (append_assoc rows (x ∷ []) pile)) w.rooted

  rooted_front : Each (λ (r : Row). waits tree (indices rows) r.index ≡ false) (rows ++ x ∷ [])
  rooted_front =
      Each-front (λ (r : Row). waits tree (indices rows) r.index ≡ false)
      (rows ++ x ∷ []) pile rooted_all

  rooted_back : Each (λ (r : Row). waits tree (indices rows) r.index ≡ false) pile
  rooted_back =
      Each-back (λ (r : Row). waits tree (indices rows) r.index ≡ false)
      (rows ++ x ∷ []) pile rooted_all

  rooted_more : (l : List Row) → Each (λ (r : Row). waits tree (indices rows) r.index ≡ false) l
      → Each (λ (r : Row). waits tree (indices rows ++ x.index ∷ []) r.index ≡ false) l
  rooted_more l h =
      Each-weaker (λ (r : Row). waits tree (indices rows) r.index ≡ false)
      (λ (r : Row). waits tree (indices rows ++ x.index ∷ []) r.index ≡ false)
      (λ r e. awaits_less (parent_at tree r.index) x.index (indices rows) e) l h

  rooted_below : Each (λ (r : Row). waits tree (indices rows ++ x.index ∷ []) r.index ≡ false) lower
  rooted_below =
      Each-weaker (λ (r : Row). parent_at tree r.index ≡ Some x.index)
      (λ (r : Row). waits tree (indices rows ++ x.index ∷ []) r.index ≡ false)
      (λ r e. awaits_apart (parent_at tree r.index) x.index (indices rows)
      (ap (λ o. is_parent o x.index) e ∙ eq-eqb x.index x.index refl))
      lower below_is

  rooted_after : Each (λ (r : Row). waits tree (indices (rows ++ x ∷ [])) r.index ≡ false)
      ((rows ++ x ∷ []) ++ (lower ++ pile))
  rooted_after =
      subst
      (λ l. Each (λ (r : Row). waits tree l r.index ≡ false) ((rows ++ x ∷ []) ++ (lower ++ pile)))
      (sym indices_more)
      (Each-append (λ (r : Row). waits tree (indices rows ++ x.index ∷ []) r.index ≡ false)
      (rows ++ x ∷ []) (lower ++ pile) (rooted_more (rows ++ x ∷ []) rooted_front)
      (Each-append (λ (r : Row). waits tree (indices rows ++ x.index ∷ []) r.index ≡ false) lower
      pile rooted_below
      (rooted_more pile rooted_back)))

  siblings_after : (r : ℕ → ℕ → Bool) → Pairs (λ i j. r i j ≡ true) order
      → Pairs (AreSiblingsBy tree r) ((rows ++ x ∷ []) ++ (lower ++ pile))
  unfolding lower children
  siblings_after r h =
      Pairs-between (AreSiblingsBy tree r) (rows ++ x ∷ []) lower pile
      (subst (Pairs (AreSiblingsBy tree r)) (sym (append_assoc rows (x ∷ []) pile))
      (w.siblings r h))
      (rows_siblings places (x.depth + 1) tree r (children_of tree order x.index)
      (Pairs-filter (λ i j. r i j ≡ true) (is_child tree x.index) order h))
      (Each-weaker (λ (a : Row). waits tree (indices rows) a.index ≡ false)
      (λ a. Each (AreSiblingsBy tree r a) lower)
      (λ a e.
      Each-weaker (λ (c : Row). parent_at tree c.index ≡ Some x.index) (AreSiblingsBy tree r a)
      (λ c up same. absurd (not_above a e (same ∙ up))) lower below_is)
      (rows ++ x ∷ []) rooted_front)
      (Each-weaker (λ (c : Row). parent_at tree c.index ≡ Some x.index)
      (λ c. Each (AreSiblingsBy tree r c) pile)
      (λ c up.
      Each-weaker (λ (a : Row). waits tree (indices rows) a.index ≡ false) (AreSiblingsBy tree r c)
      (λ a e same. absurd (not_above a e (sym same ∙ up))) pile rooted_back)
      lower below_is)

  levels_after : Pairs IsLevel (lower ++ pile)
  unfolding lower
  levels_after =
      Pairs-append IsLevel (map (row_at places (x.depth + 1)) children) pile
      (rows_level places (x.depth + 1) children) w.levels.1
      (Each-weaker (λ (c : Row). c.depth ≡ x.depth + 1) (λ c. Each (IsLevel c) pile)
      (λ c deep.
      Each-weaker (IsLevel x) (IsLevel c) (λ t level. no_deeper c t deep level) pile w.levels.0)
      (map (row_at places (x.depth + 1)) children) below_deep)
    where
      no_deeper : (c t : Row) → c.depth ≡ x.depth + 1 → t.depth ≤ x.depth → t.depth ≤ c.depth
      no_deeper c t e h = omega arith

  long_more : length (rows ++ x ∷ []) ≡ length rows + 1
  long_more = length-append rows (x ∷ [])

  shallow_after : Each (λ (r : Row). r.depth ≤ length (rows ++ x ∷ [])) (lower ++ pile)
  shallow_after = Each-append (λ (r : Row). r.depth ≤ length (rows ++ x ∷ [])) lower pile
      (Each-weaker (λ (r : Row). r.depth ≡ x.depth + 1)
      (λ (r : Row). r.depth ≤ length (rows ++ x ∷ [])) (λ r e. deep r e) lower below_deep)
      (Each-weaker (λ (r : Row). r.depth ≤ length rows)
      (λ (r : Row). r.depth ≤ length (rows ++ x ∷ [])) (λ r h. more r h) pile w.shallow.1)
    where
      deep : (r : Row) → r.depth ≡ x.depth + 1 → r.depth ≤ length (rows ++ x ∷ [])
      deep r e = let a = long_more in let b : x.depth ≤ length rows = w.shallow.0 in omega arith

      more : (r : Row) → r.depth ≤ length rows → r.depth ≤ length (rows ++ x ∷ [])
      more r h = let a = long_more in omega arith

  hangs_after : Each (Hangs tree (rows ++ x ∷ [])) (lower ++ pile)
  hangs_after = Each-append (Hangs tree (rows ++ x ∷ [])) lower pile
      (hang_last tree rows x lower below_is below_deep)
      (hang_pushed tree rows x pile w.hangs.1 w.levels.0)

  partway_after : IsPartway tree places order (rows ++ x ∷ []) (lower ++ pile)
  unfolding lower
  partway_after = record {
    each_once = once_after;
    placed =
        Each-append (λ (r : Row). r.place ≡ place_at places r.index) rows (x ∷ []) w.placed
        (w.placed_pile.0, tt);
    placed_pile =
        Each-append (λ (r : Row). r.place ≡ place_at places r.index)
        (map (row_at places (x.depth + 1)) children) pile
        (rows_placed places (x.depth + 1) children) w.placed_pile.1;
    nested = after_push (Hangs tree) [] rows x w.nested w.hangs.0;
    hangs = hangs_after;
    levels = levels_after;
    shallow = shallow_after;
    rooted = rooted_after;
    siblings = siblings_after;
  }

  -- After the first row of the pile is done, the rows of its children come next.
  pub partway_more : IsPartway tree places order (rows ++ x ∷ [])
      (map (row_at places (x.depth + 1)) (children_of tree order x.index) ++ pile)
  unfolding lower children
  partway_more = partway_after

-- ---- at last

none : (n : ℕ) → 0 + n ≡ n
none n = omega arith

range_within : (a m n : ℕ) → a + m ≡ n → Each (λ k. k < n) (range_with_len a m)
range_within a zero n e = tt
range_within a (suc m) n e =
    let less : a < n = omega arith in
    let next : a + 1 + m ≡ n = omega arith in
    (less, range_within (a + 1) m n next)

-- Each place of a list is below the length of the list.
pub places_within : (n : ℕ) (order : List ℕ) → ArePlaces n order → Each (λ k. k < n) order
places_within n order all = recursion_from_All (λ k. k < n) order
    (All-permutation (λ k. k < n) (range_with_len 0 n) order all
    (All-from_recursion (λ k. k < n) (range_with_len 0 n) (range_within 0 n n (none n))))

module _ (tree : List (Option ℕ)) (places : List Place) (order : List ℕ) (rows : List Row) (n : ℕ)
    (all : ArePlaces n order)
    (size : length tree ≡ n) (listed : AreInList tree) (ends : (k : ℕ) → k < n → EndsAtTop tree k)
    (w : IsPartway tree places order rows []) where
  never_waits : {k : ℕ} → EndsAtTop tree k → waits tree (indices rows) k ≡ false
  never_waits (topmost {k = k} e) = ap (λ o. awaits o (indices rows)) e
  never_waits (beneath {k = k} {p = p} e h) =
      let within : p < n = subst (λ m. p < m) size (listed.each k p e) in
      let none = times-filter_out (waits tree (indices rows)) p (never_waits h) order in
      let whole =
      times-permutation p order
      (indices rows ++ ([] ++ filter (waits tree (indices rows)) order)) w.each_once in
      let outer = times-append p (indices rows) ([] ++ filter (waits tree (indices rows)) order) in
      let one = times-place n order all p within in
      let here : times p (indices rows) ≡ 1 =
      once (times p (indices rows)) (times p (filter (waits tree (indices rows)) order))
      (sym one ∙ sym whole ∙ outer) none in
      ap (λ o. awaits o (indices rows)) e ∙ ap (λ m. eqb m 0) here
    where
      once : (a b : ℕ) → 1 ≡ a + b → b ≡ 0 → a ≡ 1
      once a b e f = omega arith

  none_waits : filter (waits tree (indices rows)) order ≡ []
  none_waits = filter_none (waits tree (indices rows)) order
      (Each-weaker (λ k. k < n) (λ k. waits tree (indices rows) k ≡ false)
      (λ k h. never_waits (ends k h)) order (places_within n order all))

  rows_once : IsPermutation order (indices rows)
  rows_once = subst (IsPermutation order) (append-nil (indices rows))
      (subst (λ l. IsPermutation order (indices rows ++ l)) none_waits w.each_once)

  -- Once the pile is empty, the rows are those of the whole tree.
  pub partway_all : length places ≡ n → AreRowsOf tree places order rows
  partway_all long = record {
    all =
        subst (λ m. ArePlaces m (indices rows)) (sym long)
        (IsPermutation-trans (range_with_len 0 n) order (indices rows) all rows_once);
    placed = All-from_recursion (λ (r : Row). r.place ≡ place_at places r.index) rows w.placed;
    nested = w.nested;
    ordered = λ r h. All-from_Pairs (AreSiblingsBy tree r) rows
        (subst (Pairs (AreSiblingsBy tree r)) (append-nil rows)
        (w.siblings r (Pairs-from_All (λ i j. r i j ≡ true) order h)));
  }

-- ---- the steps of the code, which has the pile the other way round

-- Each place in the order of the starts is below the number of spans.
pub order_within : (n : ℕ) (order : List (ℕ × ℕ)) → ArePlaces n (places_of order)
    → All (λ (s : ℕ × ℕ). s.1 < n) order
order_within n order all = All-from_recursion (λ (s : ℕ × ℕ). s.1 < n) order
    (Each-unmap (λ k. k < n) (λ (s : ℕ × ℕ). s.1) order (places_within n (places_of order) all))

-- Each place in a family is below the number of spans.
pub family_within : (n m : ℕ) (order family : List ℕ) (p : ℕ → Bool) → ArePlaces n order → m ≡ n
    → family ≡ filter p order → All (λ k. k < m) family
family_within n m order family p all same is =
    subst (λ l. All (λ k. k < m) l) (sym is)
    (subst (λ j. All (λ k. k < j) (filter p order)) (sym same)
    (All-from_recursion (λ k. k < n) (filter p order)
    (Each-filter (λ k. k < n) p order (places_within n order all))))

turned : (front : List Row) (pile : List Row)
    → reverse (pile ++ reverse front) ≡ front ++ reverse pile
turned front pile =
    reverse-append pile (reverse front) ∙ ap (λ l. l ++ reverse pile) (reverse-reverse front)

-- The code's first pile has the rows of the spans at the top, in reverse.
pub partway_init : (tree : List (Option ℕ)) (places : List Place) (order tops : List ℕ)
    (rows old pile : List Row)
    → rows ≡ [] → old ≡ []
    → pile ≡ old ++ reverse (map (row_at places 0) tops) → tops ≡ tops_of tree order
    → IsPartway tree places order rows (reverse pile)
partway_init tree places order tops rows old pile none empty is family =
    subst (λ l. IsPartway tree places order l (reverse pile)) (sym none)
    (subst (λ l. IsPartway tree places order [] l)
    (sym (ap reverse is ∙ turned (map (row_at places 0) tops) old
    ∙ ap (λ l. map (row_at places 0) tops ++ reverse l) empty
    ∙ append-nil (map (row_at places 0) tops)))
    (subst (λ ks. IsPartway tree places order [] (map (row_at places 0) ks)) (sym family)
    (partway_first tree places order)))

module _ (tree : List (Option ℕ)) (places : List Place) (order : List ℕ) (rows old rest : List Row)
    (x : Row) (n : ℕ) (all : ArePlaces n order)
    (popped : old ≡ rest ++ x ∷ []) (w : IsPartway tree places order rows (reverse old)) where
  opened_pile : IsPartway tree places order rows (x ∷ reverse rest)
  opened_pile =
      subst (IsPartway tree places order rows) (ap reverse popped ∙ reverse-append rest (x ∷ [])) w

  -- The span of a popped row is in the list.
  pub popped_in_list : x.index < n
  popped_in_list = next_in_list tree places order rows (reverse rest) x n all opened_pile

  -- Fewer rows than spans are done when a row is popped.
  pub popped_room : length rows < n
  popped_room = room tree places order rows (reverse rest) x n all opened_pile

  -- A popped row is no deeper than the number of rows that are done.
  pub popped_depth : x.depth ≤ length rows
  popped_depth = opened_pile.shallow.0

  -- After the code pops a row and piles up its children, the rows are partway again.
  pub partway_step : (more after : List Row) (family : List ℕ) → more ≡ rows ++ x ∷ []
      → after ≡ rest ++ reverse (map (row_at places (x.depth + 1)) family)
      → family ≡ children_of tree order x.index → IsPartway tree places order more (reverse after)
  partway_step more after family is piled below_x =
      subst (λ l. IsPartway tree places order l (reverse after)) (sym is)
      (subst (λ l. IsPartway tree places order (rows ++ x ∷ []) l)
      (sym (ap reverse piled ∙ turned (map (row_at places (x.depth + 1)) family) rest))
      (subst (λ ks. IsPartway tree places order (rows ++ x ∷ [])
      (map (row_at places (x.depth + 1)) ks ++ reverse rest))
      (sym below_x)
      (partway_more tree places order rows (reverse rest) x n all opened_pile)))
