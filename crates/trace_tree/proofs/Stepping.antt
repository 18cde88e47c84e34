-- Spans that are arranged in steps.
use Rattle.std.proofs.Common.{◌≡◌, refl, sym, ap, subst, ◌∙◌, ℕ, zero, suc, ◌+◌, ◌<◌, ltb, List, []}
use Rattle.std.proofs.Common.{◌∷◌, ◌++◌, length, map, take, get_or, inl, inr, Option, Some, None}
use Rattle.std.proofs.Common.{Bool}
use Rattle.std.proofs.Common.{append_assoc, arith, drop}
use Rattle.std.specs.Prelude.{slice_get}
use Rattle.std.specs.List.{range_with_len}
use Rattle.std.specs.List.Sorted.{IsPermutation}
use Rattle.std.proofs.lemmas.Bool.{cond-true, lt-ltb, ltb-true}
use Rattle.std.proofs.lemmas.List.{drop_more, get_or-map, length-map, map_more, map_push}
use Rattle.std.proofs.lemmas.List.{take_all}
use Rattle.std.proofs.lemmas.List.Sorted.{IsPermutation-map, IsPermutation-refl}
use Rattle.std.proofs.lemmas.List.Sorted.{IsPermutation-trans}
use Rattle.std.proofs.lemmas.Option.{cond_some, get_or_from_slice_get, none-some, slice_get_within}
use Rattle.trace_tree.specs.Cycles.{AreInList, IsTree}
use Rattle.trace_tree.specs.Opens.{IsSound, OpenTree}
use Rattle.trace_tree.specs.Order.{AreStarts, places_of}
use Rattle.trace_tree.specs.Parents.{names_none, parent_at, parent_of, parents_of}
use Rattle.trace_tree.specs.Rows.{AreRowsOf}
use Rattle.trace_tree.specs.Steps.{AreArranged, AreFirst, AreOrdered, kin_of, parent_in, parents_in}
use Rattle.trace_tree.specs.declared.span.Place.{Place}
use Rattle.trace_tree.specs.declared.span.Row.{Row}
use Rattle.trace_tree.specs.declared.span.TreeSpan.{TreeSpan}
use Rattle.trace_tree.specs.declared.steps.Arranging.{Arranging}
use Rattle.trace_tree.specs.declared.steps.Kin.{Kin}
use Rattle.trace_tree.proofs.Arranged.{Facts, arranged_nested, arranged_once, arranged_ordered}
use Rattle.trace_tree.proofs.Arranged.{arranged_places, parents_length}
use Rattle.trace_tree.proofs.Ids.{nobody, parents_in_list}
use Rattle.trace_tree.proofs.Starts.{starts_each}

-- a list is mapped twice at once
pub map_twice : {X Y Z : Type 0} (g : Y → Z) (f : X → Y) (xs : List X)
    → map g (map f xs) ≡ map (λ x. g (f x)) xs
map_twice g f [] = refl
map_twice g f (x ∷ xs) = ap (λ l. g (f x) ∷ l) (map_twice g f xs)

-- one more span
pub first_more : {A : Type 0} (spans : List TreeSpan) (at : ℕ) (span : TreeSpan) (kin : Kin)
    (old new : Arranging A)
    → AreFirst spans at old
    → slice_get spans at ≡ Some span → kin ≡ kin_of spans span
    → new.kins.items ≡ old.kins.items ++ kin ∷ []
    → AreFirst spans (at + 1) new
first_more spans at span kin old new h found is more = record {
  kins =
      more
      ∙ ap (λ l. l ++ kin ∷ []) h.kins
      ∙ ap (λ k. map (kin_of spans) (take at spans) ++ k ∷ [])
      (is ∙ ap (kin_of spans) (sym (get_or_from_slice_get spans at span span found)))
      ∙ sym (map_more (kin_of spans) spans at span (slice_get_within spans at span found));
}

-- ---- parents that are in the list

some_in : (n : ℕ) (o : Option ℕ) (p : ℕ) → parent_in n o ≡ Some p → p < n
some_in n None p e = absurd (none-some p e)
some_in n (Some q) p e =
    let found = cond_some (ltb q n) q p e in
    subst (λ k. k < n) found.1 (ltb-true q n found.0)

each_in : (n : ℕ) (kins : List Kin) (k p : ℕ)
    → parent_at (map (λ (it : Kin). parent_in n it.parent) kins) k ≡ Some p → p < n
each_in n [] k p e = absurd (none-some p e)
each_in n (x ∷ xs) zero p e = some_in n x.parent p e
each_in n (x ∷ xs) (suc k) p e = each_in n xs k p e

-- the parents that are left have places in the list
pub kept_in_list : (kins : List Kin) → AreInList (parents_in kins)
kept_in_list kins = record {
  each = λ k p e. subst (λ n. p < n)
      (sym (length-map kins (λ (it : Kin). parent_in (length kins) it.parent)))
      (each_in (length kins) kins k p e);
}

kept : (n : ℕ) (o : Option ℕ) → ((p : ℕ) → o ≡ Some p → p < n) → parent_in n o ≡ o
kept n None h = refl
kept n (Some p) h = cond-true (ltb p n) (Some p) None (lt-ltb p n (h p refl))

kept_all : (n : ℕ) (os : List (Option ℕ)) → ((k p : ℕ) → parent_at os k ≡ Some p → p < n)
    → map (parent_in n) os ≡ os
kept_all n [] h = refl
kept_all n (o ∷ os) h =
    ap (λ x. x ∷ map (parent_in n) os) (kept n o (λ p e. h 0 p e))
    ∙ ap (λ l. o ∷ l) (kept_all n os (λ k p e. h (suc k) p e))

module _ {A : Type 0} (spans : List TreeSpan) (known : Arranging A)
    (h : AreFirst spans (length spans) known) where
  all_kins : known.kins.items ≡ map (kin_of spans) spans
  all_kins = h.kins ∙ ap (map (kin_of spans)) (take_all (length spans) spans (omega arith))

  many : length known.kins.items ≡ length spans
  many = ap length all_kins ∙ length-map spans (kin_of spans)

  -- Once all spans are known, the parents are those of the list.
  pub all_parents : parents_in known.kins.items ≡ parents_of spans
  unfolding parents_of
  all_parents =
      ap (λ n. map (λ (k : Kin). parent_in n k.parent) known.kins.items) many
      ∙ ap (map (λ (k : Kin). parent_in (length spans) k.parent)) all_kins
      ∙ map_twice (λ (k : Kin). parent_in (length spans) k.parent) (kin_of spans) spans
      ∙ sym (map_twice (parent_in (length spans)) (parent_of spans) spans)
      ∙ kept_all (length spans) (map (parent_of spans) spans)
      (λ k p e. subst (λ n. p < n) (parents_length spans) ((parents_in_list spans).each k p e))

  -- Once all spans are known, it is known of each whether it names no parent.
  pub all_roots : map (λ (k : Kin). k.names_none) known.kins.items ≡ map names_none spans
  all_roots =
      ap (map (λ (k : Kin). k.names_none)) all_kins
      ∙ map_twice (λ (k : Kin). k.names_none) (kin_of spans) spans

  -- Once all spans are known, their starts are.
  pub all_starts : (starts : List (ℕ × ℕ))
      → places_of starts ≡ range_with_len 0 (length known.kins.items)
      → map (λ (s : ℕ × ℕ). s.0) starts
      ≡ map (λ (k : Kin). k.start_time_unix_nano) known.kins.items
      → AreStarts spans starts
  all_starts starts places each =
      starts_each spans starts (places ∙ ap (range_with_len 0) many)
      (each
      ∙ ap (map (λ (k : Kin). k.start_time_unix_nano)) all_kins
      ∙ map_twice (λ (k : Kin). k.start_time_unix_nano) (kin_of spans) spans)

-- the start of one more span is noted, and those after it are left
pub starts_step : (kins : List Kin) (i : ℕ) (d : Kin) (old new : List (ℕ × ℕ))
    → i < length kins
    → new ≡ old ++ ((get_or kins i d).start_time_unix_nano, i) ∷ []
    → map (λ (s : ℕ × ℕ). s.0) old
    ++ map (λ (k : Kin). k.start_time_unix_nano) (drop i kins)
    ≡ map (λ (k : Kin). k.start_time_unix_nano) kins
    → map (λ (s : ℕ × ℕ). s.0) new
    ++ map (λ (k : Kin). k.start_time_unix_nano) (drop (i + 1) kins)
    ≡ map (λ (k : Kin). k.start_time_unix_nano) kins
starts_step kins i d old new within more before =
    let start = (get_or kins i d).start_time_unix_nano in
    let after = map (λ (k : Kin). k.start_time_unix_nano) (drop (i + 1) kins) in
    ap (λ l. map (λ (s : ℕ × ℕ). s.0) l ++ after) more
    ∙ ap (λ l. l ++ after) (map_push (λ (s : ℕ × ℕ). s.0) old (start, i))
    ∙ append_assoc (map (λ (s : ℕ × ℕ). s.0) old) (start ∷ []) after
    ∙ ap (λ l. map (λ (s : ℕ × ℕ). s.0) old ++ map (λ (k : Kin). k.start_time_unix_nano) l)
    (sym (drop_more kins i d within))
    ∙ before

-- the parents in a tree are in the list
tree_in_list : (parents tree : List (Option ℕ)) → AreInList parents → IsTree parents tree
    → AreInList tree
tree_in_list parents tree within is = record {
  each = λ k p e. subst (λ n. p < n) (sym is.opened.same_length) (elim (is.opened.each k) [
    | inl same ↦ within.each k p (sym same ∙ e)
    | inr cut ↦ absurd (none-some p (sym cut.0 ∙ e))
  ]);
}

-- a tree of parents in the list is sound
pub sound : (kins : List Kin) (tree : List (Option ℕ)) (places : List Place)
    (starts : List (ℕ × ℕ))
    → IsTree (parents_in kins) tree
    → length places ≡ length kins → places_of starts ≡ range_with_len 0 (length kins)
    → IsSound tree places starts
sound kins tree places starts is many once =
    let count : length (parents_in kins) ≡ length kins =
    length-map kins (λ (it : Kin). parent_in (length kins) it.parent) in
    let size : length tree ≡ length kins = is.opened.same_length ∙ count in
    record {
      in_list = tree_in_list (parents_in kins) tree (kept_in_list kins) is;
      as_many = many ∙ sym size;
      each_once =
          subst (λ l. IsPermutation (range_with_len 0 (length tree)) l)
          (ap (range_with_len 0) size ∙ sym once)
          (IsPermutation-refl (range_with_len 0 (length tree)));
      ends = λ k within. is.ends k (subst (λ n. k < n) (is.opened.same_length) within);
    }

-- a sort leaves it so
pub sound_sorted : (tree : List (Option ℕ)) (places : List Place) (old new : List (ℕ × ℕ))
    → IsSound tree places old → IsPermutation old new → IsSound tree places new
sound_sorted tree places old new h moved = record {
  in_list = h.in_list;
  as_many = h.as_many;
  each_once =
      IsPermutation-trans (range_with_len 0 (length tree)) (places_of old) (places_of new)
      h.each_once (IsPermutation-map (λ (s : ℕ × ℕ). s.1) old new moved);
  ends = h.ends;
}

-- the rows of the tree of these spans are those of the spans
pub arranged : (spans : List TreeSpan) (known : OpenTree) (rows : List Row)
    → AreOrdered spans known
    → AreRowsOf known.tree known.places (places_of known.starts) rows
    → AreArranged spans rows
arranged spans known rows h made =
    let fact : Facts spans known.tree known.places (places_of known.starts) =
    record { is_tree = h.is_tree; placed = h.placed; by_start = h.by_start } in
    record {
      each_once =
          arranged_once spans known.tree known.places
          (places_of known.starts) rows fact made;
      places =
          arranged_places spans known.tree known.places
          (places_of known.starts) rows fact made;
      nested =
          arranged_nested spans known.tree known.places
          (places_of known.starts) rows fact made;
      ordered =
          arranged_ordered spans known.tree known.places
          (places_of known.starts) rows fact made;
    }

-- what the place of a span goes by, by the parents of all
pub kin_is : (spans : List TreeSpan) (parents : List (Option ℕ)) (i : ℕ) (d : Option ℕ)
    (names : Bool)
    → parents ≡ parents_of spans → i < length spans → names ≡ names_none (get_or spans i nobody)
    → ◌≡◌ {A = Kin}
    (record {
      parent = get_or parents i d;
      names_none = names;
      start_time_unix_nano = (get_or spans i nobody).start_time_unix_nano;
    })
    (kin_of spans (get_or spans i nobody))
unfolding parents_of
kin_is spans parents i d names is within named =
    let start = (get_or spans i nobody).start_time_unix_nano in
    ap (λ p. record { parent = p; names_none = names; start_time_unix_nano = start })
    (ap (λ l. get_or l i d) is ∙ get_or-map (parent_of spans) spans i nobody d within)
    ∙ ap (λ n. record {
      parent = parent_of spans (get_or spans i nobody);
      names_none = n;
      start_time_unix_nano = start;
    })
    named
