-- Where the first span with an identifier is.
use Rattle.std.proofs.Common.{◌≡◌, sym, ◌∙◌, ap, subst, refl, ℕ, zero, suc, ◌+◌, ◌<◌, ◌≤◌, inl, inr}
use Rattle.std.proofs.Common.{Bool, true, false, not, cond, eqb, ltb, Option, Some, None, List, []}
use Rattle.std.proofs.Common.{◌∷◌, ◌++◌, length, length-append, arith, position, map, get_or, take}
use Rattle.std.proofs.Common.{is_some}
use Rattle.std.specs.List.{position_or_len}
use Rattle.std.specs.Str.{bytes_eq}
use Rattle.std.specs.Cmp.Lexicographic.{slice_cmp}
use Rattle.std.specs.Ordering.{nat_cmp, is_eq}
use Rattle.std.proofs.lemmas.Bool.{cases_Bool, cases_order, cases_lt, cond-true, cond-false, lt-ltb}
use Rattle.std.proofs.lemmas.Bool.{le-ltb, eq-eqb, ne_eqb, ltb-true, false≢true, true≢false}
use Rattle.std.proofs.lemmas.List.{length-map, length-take-le, take_more, take_all, map_more}
use Rattle.std.proofs.lemmas.List.Folds.{position_or_len_push}
use Rattle.std.proofs.lemmas.List.Quantifiers.{position-Some}
use Rattle.std.proofs.lemmas.List.Sums.{prefix_len-le-length}
use Rattle.std.proofs.lemmas.Option.{none-some, cond_some}
use Rattle.std.proofs.lemmas.Slice.Eq.{bytes_eq-Decides}
use Rattle.trace_tree.specs.Parents.{has_id, place_of_id, names_none, parent_of, parents_of}
use Rattle.trace_tree.specs.Cycles.{AreInList}
use Rattle.trace_tree.specs.declared.span.TreeSpan.{TreeSpan}

-- what a proof reads past the end of a list of spans
abbrev pub nobody : TreeSpan
nobody = record {
  span_id = record { ref_ptr = (0, 0); now = [] };
  parent_span_id = record { ref_ptr = (0, 0); now = [] };
  name = record { ref_ptr = (0, 0); now = [] };
  start_time_unix_nano = 0;
  end_time_unix_nano = 0;
  is_error = false;
}

apart : (a m : ℕ) → a < m → a ≡ m → ⊥
apart a m h e = omega arith

-- the first place, a, in m elements, and b, in one more
place_same : (a b m n : ℕ) → a ≤ m → n ≡ m + 1 → b ≡ cond (eqb a m) (m + 1) a
    → cond (ltb b n) (Some b) None ≡ cond (ltb a m) (Some a) None
place_same a b m n small long is = elim (cases_lt a m) [
  | inl less ↦
      let here : b ≡ a = is ∙ cond-false (eqb a m) (m + 1) a (ne_eqb a m (λ e. apart a m less e)) in
      let within : b < n = omega arith in
      cond-true (ltb b n) (Some b) None (lt-ltb b n within) ∙ ap Some here
      ∙ sym (cond-true (ltb a m) (Some a) None (lt-ltb a m less))
  | inr same ↦
      let e : a ≡ m = omega arith in
      let end : b ≡ m + 1 = is ∙ cond-true (eqb a m) (m + 1) a (eq-eqb a m e) in
      let past : n ≤ b = omega arith in
      cond-false (ltb b n) (Some b) None (le-ltb b n past)
      ∙ sym (cond-false (ltb a m) (Some a) None (le-ltb a m same))
]

place_last : (a b m n : ℕ) → a ≤ m → n ≡ m + 1 → cond (ltb a m) (Some a) None ≡ None
    → b ≡ cond (eqb a m) (m + 0) a
    → cond (ltb b n) (Some b) None ≡ Some m
place_last a b m n small long none is = elim (cases_lt a m) [
  | inl less ↦ absurd (none-some a (sym none ∙ cond-true (ltb a m) (Some a) None (lt-ltb a m less)))
  | inr same ↦
      let e : a ≡ m = omega arith in
      let end : b ≡ m + 0 = is ∙ cond-true (eqb a m) (m + 0) a (eq-eqb a m e) in
      let here : b ≡ m = omega arith in
      let within : b < n = omega arith in
      cond-true (ltb b n) (Some b) None (lt-ltb b n within) ∙ ap Some here
]

place_found : (i a b m n c : ℕ) → n ≡ m + 1 → cond (ltb a m) (Some a) None ≡ Some i
    → b ≡ cond (eqb a m) (m + c) a
    → cond (ltb b n) (Some b) None ≡ Some i
place_found i a b m n c long e is =
    let parts = cond_some (ltb a m) a i e in
    let less : a < m = ltb-true a m parts.0 in
    let here : b ≡ a = is ∙ cond-false (eqb a m) (m + c) a (ne_eqb a m (λ g. apart a m less g)) in
    let within : b < n = omega arith in
    cond-true (ltb b n) (Some b) None (lt-ltb b n within) ∙ ap Some here ∙ ap Some parts.1

module _ {X : Type 0} (p : X → Bool) (xs : List X) (y : X) where
  -- An item that fails a test leaves the first place that passes it as it was.
  pub place_kept : p y ≡ false → position p (xs ++ y ∷ []) ≡ position p xs
  place_kept fails =
      place_same (position_or_len p xs) (position_or_len p (xs ++ y ∷ [])) (length xs)
      (length (xs ++ y ∷ []))
      (prefix_len-le-length (λ x. not (p x)) xs) (length-append xs (y ∷ []))
      (position_or_len_push p xs y
      ∙ ap (λ b.
      cond (eqb (position_or_len p xs) (length xs)) (length xs + cond b 0 1) (position_or_len p xs))
      fails)

  -- An item that is the first to pass a test has its own place as the first one.
  pub place_new : position p xs ≡ None → p y ≡ true → position p (xs ++ y ∷ []) ≡ Some (length xs)
  place_new none passes =
      place_last (position_or_len p xs) (position_or_len p (xs ++ y ∷ [])) (length xs)
      (length (xs ++ y ∷ []))
      (prefix_len-le-length (λ x. not (p x)) xs) (length-append xs (y ∷ [])) none
      (position_or_len_push p xs y
      ∙ ap (λ b.
      cond (eqb (position_or_len p xs) (length xs)) (length xs + cond b 0 1) (position_or_len p xs))
      passes)

  -- An item that passes a test after another one leaves the first place as it was.
  pub place_before : (i : ℕ) → position p xs ≡ Some i → position p (xs ++ y ∷ []) ≡ Some i
  place_before i e =
      place_found i (position_or_len p xs) (position_or_len p (xs ++ y ∷ [])) (length xs)
      (length (xs ++ y ∷ [])) (cond (p y) 0 1)
      (length-append xs (y ∷ [])) e (position_or_len_push p xs y)

at_least : (x y : ℕ) → x ≡ y → y ≤ x
at_least x y e = omega arith

least : (x y : ℕ) → y < x → y ≤ x
least x y h = omega arith

-- Two keys tie exactly where their bytes are the same.
pub ties_is : (xs ys : List ℕ) → is_eq (slice_cmp nat_cmp xs ys) ≡ bytes_eq xs ys
ties_is [] [] = refl
ties_is [] (y ∷ ys) = refl
ties_is (x ∷ xs) [] = refl
ties_is (x ∷ xs) (y ∷ ys) = elim (cases_order x y) [
  | inl e ↦ rw (le-ltb x y (at_least x y e), eq-eqb x y e) (ties_is xs ys)
  | inr other ↦ elim other [
    | inl less ↦ rw (lt-ltb x y less, ne_eqb x y (λ e. apart x y less e))
    | inr more ↦ rw (le-ltb x y (least x y more), ne_eqb x y (λ e. apart y x more (sym e)))
  ]
]

-- a span whose identifier is new, and one whose identifier another span had
module _ (taken : List TreeSpan) (x : TreeSpan) where
  -- A span with a new identifier becomes the first span with it, and others stay.
  pub id_new : (q : List ℕ) (old : Option ℕ) → place_of_id taken x.span_id.now ≡ None
      → old ≡ place_of_id taken q
      → cond (is_eq (slice_cmp nat_cmp x.span_id.now q)) (Some (length taken)) old
      ≡ place_of_id (taken ++ x ∷ []) q
  id_new q old none is = elim (cases_Bool (bytes_eq x.span_id.now q)) [
    | inl same ↦
        let e : x.span_id.now ≡ q = (bytes_eq-Decides x.span_id.now q).0 same in
        let nowhere : place_of_id taken q ≡ None =
        subst (λ id. place_of_id taken id ≡ None) e none in
        cond-true (is_eq (slice_cmp nat_cmp x.span_id.now q)) (Some (length taken)) old
        (ties_is x.span_id.now q ∙ same)
        ∙ sym (place_new (has_id q) taken x nowhere same)
    | inr other ↦
        cond-false (is_eq (slice_cmp nat_cmp x.span_id.now q)) (Some (length taken)) old
        (ties_is x.span_id.now q ∙ other)
        ∙ is ∙ sym (place_kept (has_id q) taken x other)
  ]

  -- A span with an identifier that another span had changes the first place of no identifier.
  pub id_known : (q : List ℕ) (i : ℕ) → place_of_id taken x.span_id.now ≡ Some i
      → place_of_id (taken ++ x ∷ []) q ≡ place_of_id taken q
  id_known q i found = elim (cases_Bool (bytes_eq x.span_id.now q)) [
    | inl same ↦
        let e : x.span_id.now ≡ q = (bytes_eq-Decides x.span_id.now q).0 same in
        let here : place_of_id taken q ≡ Some i =
        subst (λ id. place_of_id taken id ≡ Some i) e found in
        place_before (has_id q) taken x i here ∙ sym here
    | inr other ↦ place_kept (has_id q) taken x other
  ]

of_span : (spans : List TreeSpan) (s : TreeSpan) (p : ℕ) → parent_of spans s ≡ Some p
    → p < length spans
of_span spans s p e = elim (cases_Bool (names_none s)) [
  | inl none ↦
      absurd (none-some p
      (sym (cond-true (names_none s) None (place_of_id spans s.parent_span_id.now) none) ∙ e))
  | inr some ↦
      (position-Some (has_id s.parent_span_id.now) spans p s
      (sym (cond-false (names_none s) None (place_of_id spans s.parent_span_id.now) some) ∙ e)).0
]

each_of : (spans ss : List TreeSpan) (k p : ℕ) → get_or (map (parent_of spans) ss) k None ≡ Some p
    → p < length spans
each_of spans [] k p e = absurd (none-some p e)
each_of spans (s ∷ ss) zero p e = of_span spans s p e
each_of spans (s ∷ ss) (suc k) p e = each_of spans ss k p e

-- The parents of spans are in the list of these spans.
pub parents_in_list : (spans : List TreeSpan) → AreInList (parents_of spans)
unfolding parents_of
parents_in_list spans = record {
  each =
      λ k p e.
      subst (λ n. p < n) (sym (length-map spans (parent_of spans))) (each_of spans spans k p e);
}

some_place : (o : Option ℕ) → is_some o ≡ true → (i : ℕ) × (o ≡ Some i)
some_place None e = absurd (false≢true e)
some_place (Some i) e = (i, refl)

no_place : (o : Option ℕ) → is_some o ≡ false → o ≡ None
no_place None e = refl
no_place (Some i) e = absurd (true≢false e)

-- what a map of identifiers has, after one more span
module _ (spans : List TreeSpan) (i : ℕ) (d : TreeSpan) (within : i < length spans) (q : List ℕ)
    (old new found : Option ℕ)
    (had : found ≡ place_of_id (take i spans) (get_or spans i d).span_id.now)
    (before : old ≡ place_of_id (take i spans) q) where
  long : length (take i spans) ≡ i
  long = length-take-le i spans upto
    where
      upto : i ≤ length spans
      upto = omega arith

  -- A map in which a new identifier is put has the places of the identifiers so far.
  pub ids_new : is_some found ≡ false
      → new ≡ cond (is_eq (slice_cmp nat_cmp (get_or spans i d).span_id.now q)) (Some i) old
      → new ≡ place_of_id (take (i + 1) spans) q
  ids_new none is =
      is
      ∙ ap (λ n. cond (is_eq (slice_cmp nat_cmp (get_or spans i d).span_id.now q)) (Some n) old)
      (sym long)
      ∙ id_new (take i spans) (get_or spans i d) q old (sym had ∙ no_place found none) before
      ∙ ap (λ l. place_of_id l q) (sym (take_more spans i d within))

  -- A map that stays, where the identifier is known, has the places of the identifiers so far.
  pub ids_known : is_some found ≡ true → new ≡ old → new ≡ place_of_id (take (i + 1) spans) q
  ids_known some is =
      let known = some_place found some in
      is ∙ before
      ∙ sym (id_known (take i spans) (get_or spans i d) q known.0 (sym had ∙ known.1))
      ∙ ap (λ l. place_of_id l q) (sym (take_more spans i d within))

-- ---- the parents of the first spans

-- After one more parent is appended, the list has the parents of the spans so far.
pub parents_more : (spans : List TreeSpan) (i : ℕ) (d : TreeSpan) (items after : List (Option ℕ))
    (p : Option ℕ)
    → i < length spans
    → items ≡ map (parent_of spans) (take i spans) → after ≡ items ++ p ∷ []
    → p ≡ parent_of spans (get_or spans i d)
    → after ≡ map (parent_of spans) (take (i + 1) spans)
parents_more spans i d items after p within had more is =
    more ∙ ap (λ l. l ++ p ∷ []) had ∙ ap (λ o. map (parent_of spans) (take i spans) ++ o ∷ []) is
    ∙ sym (map_more (parent_of spans) spans i d within)

-- Once all spans are done, the list has the parents of all spans.
pub parents_all : (spans : List TreeSpan) (i : ℕ) (items : List (Option ℕ))
    → items ≡ map (parent_of spans) (take i spans) → length spans ≤ i → items ≡ parents_of spans
unfolding parents_of
parents_all spans i items had past = had ∙ ap (map (parent_of spans)) (take_all i spans past)

-- A span that names no parent has none.
pub parent_none : (spans : List TreeSpan) (s : TreeSpan) → names_none s ≡ true
    → None ≡ parent_of spans s
parent_none spans s none =
    sym (cond-true (names_none s) None (place_of_id spans s.parent_span_id.now) none)

-- A span that names a parent has the first span with this identifier as its parent.
pub parent_some : (spans : List TreeSpan) (s : TreeSpan) → names_none s ≡ false
    → place_of_id spans s.parent_span_id.now ≡ parent_of spans s
parent_some spans s some =
    sym (cond-false (names_none s) None (place_of_id spans s.parent_span_id.now) some)
