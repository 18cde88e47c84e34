-- What steps on the open accounts do to a total, to a list of what all of them have, and to a fact
-- that is true of each.
use Rattle.std.proofs.Common.{◌≡◌, ℕ, ◌+◌, List, [], ◌∷◌, ◌++◌, length, sym, refl, ap, ◌∙◌, subst}
use Rattle.std.proofs.Common.{arith}
use Rattle.std.specs.Prelude.{Contains, IsPermutation, Option, Some, None}
use Rattle.std.specs.List.{sum_by, flat_map, filter_map, AllByRecursion}
use Rattle.std.proofs.lemmas.List.{append-nil, append_assoc, length-append, nil_from_length}
use Rattle.std.proofs.lemmas.List.Elements.{Contains-append_right, filter_map-append}
use Rattle.std.proofs.lemmas.List.Sums.{sum_by-append, sum_by-cons}
use Rattle.std.proofs.lemmas.List.Sorted.{IsPermutation-refl, IsPermutation-sym}
use Rattle.std.proofs.lemmas.List.Sorted.{IsPermutation-trans, IsPermutation-append_left}
use Rattle.std.proofs.lemmas.List.Sorted.{IsPermutation-append_right, IsPermutation-append_comm}
use Rattle.std.proofs.lemmas.Grind.{flat_map-append}
use Rattle.account_book.specs.Accounts.{Replaces, Removes, Closes}

module _ {V : Type 0} where
  -- ---- totals

  -- A total changes with one account by as much as this account's share changes.
  pub sum_replaced : (f : V → ℕ) (old : List V) (v w : V) (new : List V) → Replaces old v w new
      → sum_by f new + f v ≡ sum_by f old + f w
  sum_replaced f old v w new r =
      let a = sum_by-append f r.0 (v ∷ r.1) in
      let b = sum_by-append f r.0 (w ∷ r.1) in
      let d = sum_by-cons f v r.1 in
      let e = sum_by-cons f w r.1 in
      let x = ap (sum_by f) r.2 in let y = ap (sum_by f) r.3 in
      omega arith

  -- A change of one account leaves the number of accounts as it was.
  pub length_replaced : (old : List V) (v w : V) (new : List V) → Replaces old v w new
      → length new ≡ length old
  length_replaced old v w new r =
      ap length r.3 ∙ (length-append r.0 (w ∷ r.1) ∙ sym (length-append r.0 (v ∷ r.1)))
      ∙ sym (ap length r.2)

  -- A removal leaves one account fewer.
  pub length_removed : (old : List V) (v : V) (new : List V) → Removes old v new
      → length old ≡ length new + 1
  length_removed old v new r =
      let a = length-append r.0 (v ∷ r.1) in
      let b = length-append r.0 r.1 in
      let x = ap length r.2 in
      let y = ap length r.3 in
      omega arith

  sum_removed : (f : V → ℕ) (old : List V) (v : V) (new : List V) → Removes old v new
      → sum_by f old ≡ f v + sum_by f new
  sum_removed f old v new r =
      let a = sum_by-append f r.0 (v ∷ r.1) in
      let b = sum_by-append f r.0 r.1 in
      let d = sum_by-cons f v r.1 in
      let x = ap (sum_by f) r.2 in let y = ap (sum_by f) r.3 in
      omega arith

  -- An account that is changed was one of the accounts before.
  pub contains_replaced : (old : List V) (v w : V) (new : List V) → Replaces old v w new
      → Contains old v
  contains_replaced old v w new r =
      subst (λ (vs : List V). Contains vs v) (sym r.2)
      (Contains-append_right r.0 (v ∷ r.1) v (0, omega arith, refl))

  -- A change of one account that leaves what it says leaves all as they were.
  pub replaced_same : (old : List V) (v w : V) (new : List V) → Replaces old v w new → w ≡ v
      → new ≡ old
  replaced_same old v w new r same = r.3 ∙ ap (λ (u : V). r.0 ++ u ∷ r.1) same ∙ sym r.2

  -- ---- what all have

  module _ {X : Type 0} (f : V → List X) where
    at : (before : List V) (v : V) (appended : List V)
        → flat_map f (before ++ v ∷ appended) ≡ flat_map f before ++ (f v ++ flat_map f appended)
    at before v appended = flat_map-append f before (v ∷ appended)

    -- The gathered entries of all grow by what one account has more, in some order.
    pub gathered_replaced : (old : List V) (v w : V) (new : List V) (more : List X)
        → Replaces old v w new → f w ≡ f v ++ more
        → IsPermutation (flat_map f new) (flat_map f old ++ more)
    gathered_replaced old v w new more r has =
        let front = flat_map f r.0 in let back = flat_map f r.1 in
        let new_is : flat_map f new ≡ front ++ ((f v ++ more) ++ back) =
        ap (flat_map f) r.3 ∙ at r.0 w r.1 ∙ ap (λ (xs : List X). front ++ (xs ++ back)) has in
        let old_is : flat_map f old ++ more ≡ front ++ (f v ++ (back ++ more)) =
        ap (λ (vs : List V). flat_map f vs ++ more) r.2
        ∙ ap (λ (xs : List X). xs ++ more) (at r.0 v r.1) ∙ append_assoc front (f v ++ back) more
        ∙ ap (λ (xs : List X). front ++ xs) (append_assoc (f v) back more) in
        let moved : IsPermutation (f v ++ (more ++ back)) (f v ++ (back ++ more)) =
        IsPermutation-append_right (f v) (more ++ back) (back ++ more)
        (IsPermutation-append_comm more back) in
        let inner : IsPermutation ((f v ++ more) ++ back) (f v ++ (back ++ more)) =
        subst (λ (xs : List X). IsPermutation xs (f v ++ (back ++ more)))
        (sym (append_assoc (f v) more back)) moved in
        let whole : IsPermutation (front ++ ((f v ++ more) ++ back))
        (front ++ (f v ++ (back ++ more))) =
        IsPermutation-append_right front ((f v ++ more) ++ back) (f v ++ (back ++ more)) inner in
        subst (λ (xs : List X). IsPermutation xs (flat_map f old ++ more)) (sym new_is)
        (subst (λ (xs : List X). IsPermutation (front ++ ((f v ++ more) ++ back)) xs)
        (sym old_is) whole)

    gathered_removed : (old : List V) (v : V) (new : List V) → Removes old v new
        → IsPermutation (flat_map f old) (f v ++ flat_map f new)
    gathered_removed old v new r =
        let front = flat_map f r.0 in let back = flat_map f r.1 in
        let old_is : flat_map f old ≡ (front ++ f v) ++ back =
        ap (flat_map f) r.2 ∙ at r.0 v r.1 ∙ sym (append_assoc front (f v) back) in
        let new_is : f v ++ flat_map f new ≡ (f v ++ front) ++ back =
        ap (λ (vs : List V). f v ++ flat_map f vs) r.3
        ∙ ap (λ (xs : List X). f v ++ xs) (flat_map-append f r.0 r.1)
        ∙ sym (append_assoc (f v) front back) in
        let moved : IsPermutation ((front ++ f v) ++ back) ((f v ++ front) ++ back) =
        IsPermutation-append_left back (front ++ f v) (f v ++ front)
        (IsPermutation-append_comm front (f v)) in
        subst (λ (xs : List X). IsPermutation xs (f v ++ flat_map f new)) (sym old_is)
        (subst (λ (xs : List X). IsPermutation ((front ++ f v) ++ back) xs) (sym new_is) moved)

    -- The closed accounts and those left have the entries that all had, in some order.
    pub gathered_closed : (old closed new : List V) → Closes old closed new
        → IsPermutation (flat_map f old) (flat_map f closed ++ flat_map f new)
    gathered_closed old [] new c =
        subst (λ (vs : List V). IsPermutation (flat_map f old) (flat_map f vs)) (sym c)
        (IsPermutation-refl (flat_map f old))
    gathered_closed old (v ∷ closed) new c =
        let first = gathered_removed old v c.0 c.1 in
        let rest = gathered_closed c.0 closed new c.2 in
        let both =
        IsPermutation-trans (flat_map f old) (f v ++ flat_map f c.0)
        (f v ++ (flat_map f closed ++ flat_map f new)) first
        (IsPermutation-append_right (f v) (flat_map f c.0)
        (flat_map f closed ++ flat_map f new) rest) in
        subst (λ (xs : List X). IsPermutation (flat_map f old) xs)
        (sym (append_assoc (f v) (flat_map f closed) (flat_map f new))) both

  -- ---- accounts that are closed

  -- Closed accounts, and one more that is removed from those left, are all closed.
  pub closes_step : (old closed left : List V) (v : V) (left' : List V) → Closes old closed left
      → Removes left v left' → Closes old (closed ++ v ∷ []) left'
  closes_step old [] left v left' c r =
      (left', subst (λ (vs : List V). Removes vs v left') c r, refl)
  closes_step old (u ∷ closed) left v left' c r =
      (c.0, c.1, closes_step c.0 closed left v left' c.2 r)

  -- A total over all accounts is that over the closed ones and that over those left.
  pub sum_closed : (f : V → ℕ) (old closed new : List V) → Closes old closed new
      → sum_by f old ≡ sum_by f closed + sum_by f new
  sum_closed f old [] new c = let x = ap (sum_by f) c in omega arith
  sum_closed f old (v ∷ closed) new c =
      let a = sum_removed f old v c.0 c.1 in
      let b = sum_closed f c.0 closed new c.2 in
      let d = sum_by-cons f v closed in
      omega arith

  -- The closed accounts have the entries that all had, in some order, where none is left.
  pub gathered_all : {X : Type 0} (f : V → List X) (old closed : List V) → Closes old closed []
      → IsPermutation (flat_map f closed) (flat_map f old)
  gathered_all {X} f old closed c =
      IsPermutation-sym (flat_map f old) (flat_map f closed)
      (subst (λ (xs : List X). IsPermutation (flat_map f old) xs) (append-nil (flat_map f closed))
      (gathered_closed f old closed [] c))

  -- A total over all accounts is that over the closed ones, where none is left.
  pub sum_all : (f : V → ℕ) (old closed : List V) → Closes old closed []
      → sum_by f old ≡ sum_by f closed
  sum_all f old closed c = let e = sum_closed f old closed [] c in omega arith

  -- ---- facts of each

  module _ (P : V → Type 0) where
    -- A fact of each element of two lists is true of each of both together.
    pub each_append : (xs ys : List V) → AllByRecursion P xs → AllByRecursion P ys
        → AllByRecursion P (xs ++ ys)
    each_append [] ys a b = b
    each_append (x ∷ xs) ys a b = (a.0, each_append xs ys a.1 b)

    -- A fact of each element of two lists together is true of each in either list.
    pub each_split : (xs ys : List V) → AllByRecursion P (xs ++ ys)
        → AllByRecursion P xs × AllByRecursion P ys
    each_split [] ys a = (tt, a)
    each_split (x ∷ xs) ys a = let rest = each_split xs ys a.1 in ((a.0, rest.0), rest.1)

    -- A fact of each account is true of the one that is changed.
    pub each_at : (old : List V) (v w : V) (new : List V) → Replaces old v w new
        → AllByRecursion P old → P v
    each_at old v w new r all = (each_split r.0 (v ∷ r.1) (subst (AllByRecursion P) r.2 all)).1.0

    -- A fact of each account stays so after a change of one, where it is true of its new state.
    pub each_replaced : (old : List V) (v w : V) (new : List V) → Replaces old v w new
        → AllByRecursion P old → P w → AllByRecursion P new
    each_replaced old v w new r all one =
        let parts = each_split r.0 (v ∷ r.1) (subst (AllByRecursion P) r.2 all) in
        subst (AllByRecursion P) (sym r.3) (each_append r.0 (w ∷ r.1) parts.0 (one, parts.1.1))

    -- A fact of each account is true of the removed one and of each that is left.
    pub each_removed : (old : List V) (v : V) (new : List V) → Removes old v new
        → AllByRecursion P old → P v × AllByRecursion P new
    each_removed old v new r all =
        let parts = each_split r.0 (v ∷ r.1) (subst (AllByRecursion P) r.2 all) in
        (parts.1.0, subst (AllByRecursion P) (sym r.3) (each_append r.0 r.1 parts.0 parts.1.1))

    -- A fact of each account is true of each closed one.
    pub each_closed : (old closed new : List V) → Closes old closed new → AllByRecursion P old
        → AllByRecursion P closed
    each_closed old [] new c all = tt
    each_closed old (v ∷ closed) new c all =
        let one = each_removed old v c.0 c.1 all in (one.0, each_closed c.0 closed new c.2 one.1)

  -- A fact of each element that implies another makes this one true of each.
  pub each_map : (P Q : V → Type 0) (xs : List V) → ((x : V) → P x → Q x) → AllByRecursion P xs
      → AllByRecursion Q xs
  each_map P Q [] f all = tt
  each_map P Q (x ∷ xs) f all = (f x all.0, each_map P Q xs f all.1)

  -- ---- accounts that say the same

  module _ (u : V) where
    -- Accounts that all say what has no entry have no entries together.
    pub nothing_of : {X : Type 0} (f : V → List X) → f u ≡ [] → (vs : List V)
        → AllByRecursion (λ v. v ≡ u) vs → flat_map f vs ≡ []
    nothing_of f none [] all = refl
    nothing_of f none (v ∷ vs) all =
        ap (λ (x : V). f x ++ flat_map f vs) all.0 ∙ ap (λ xs. xs ++ flat_map f vs) none
        ∙ nothing_of f none vs all.1

    -- Accounts that all say what counts 0 have the total 0.
    pub zero_of : (f : V → ℕ) → f u ≡ 0 → (vs : List V) → AllByRecursion (λ v. v ≡ u) vs
        → sum_by f vs ≡ 0
    zero_of f none [] all = refl
    zero_of f none (v ∷ vs) all =
        let e = sum_by-cons f v vs in
        let h = ap f all.0 in
        let r = zero_of f none vs all.1 in
        let z = none in
        omega arith

    -- A fact of one state is true of each account that says this.
    pub each_same : (P : V → Type 0) → P u → (vs : List V) → AllByRecursion (λ v. v ≡ u) vs
        → AllByRecursion P vs
    each_same P one [] all = tt
    each_same P one (v ∷ vs) all = (subst P (sym all.0) one, each_same P one vs all.1)

  -- ---- the only account

  -- A change among one account changes just this one.
  pub one_replaced : (x v w : V) (new : List V) → Replaces (x ∷ []) v w new
      → (v ≡ x) × (new ≡ w ∷ [])
  one_replaced x v w new r =
      let long = ap length r.2 in let parts = length-append r.0 (v ∷ r.1) in
      let front : r.0 ≡ [] = nil_from_length r.0 (omega arith) in
      let back : r.1 ≡ [] = nil_from_length r.1 (omega arith) in
      let whole : x ∷ [] ≡ v ∷ [] =
      r.2 ∙ ap (λ (xs : List V). xs ++ v ∷ r.1) front ∙ ap (λ (xs : List V). v ∷ xs) back in
      ((cc), r.3 ∙ ap (λ (xs : List V). xs ++ w ∷ r.1) front ∙ ap (λ (xs : List V). w ∷ xs) back)

  -- A removal among one account removes just this one.
  pub one_removed : (x v : V) (new : List V) → Removes (x ∷ []) v new → v ≡ x
  one_removed x v new r = (one_replaced x v v (r.0 ++ v ∷ r.1) (r.0, r.1, r.2, refl)).0

  -- ---- an account that was recognized

  -- A change of accounts that are recognized as these is a change of these.
  pub replaces_told : (old known new : List V) (known_v w a b : V) → known ≡ old → known_v ≡ a
      → w ≡ b → Replaces known known_v w new → Replaces old a b new
  replaces_told old known new known_v w a b same now told r =
      subst (λ (vs : List V). Replaces vs a b new) same
      (subst (λ (x : V). Replaces known x b new) now
      (subst (λ (x : V). Replaces known known_v x new) told r))

  -- A removal from accounts that are recognized as these is a removal from these.
  pub removes_told : (old known new : List V) (known_v a : V) → known ≡ old → known_v ≡ a
      → Removes known known_v new → Removes old a new
  removes_told old known new known_v a same now r =
      subst (λ (vs : List V). Removes vs a new) same (subst (λ (x : V). Removes known x new) now r)

  -- ---- accounts of one kind

  module _ {W : Type 0} (part : V → Option W) where
    one_of : (v : V) (w : W) (rest : List V) → part v ≡ Some w
        → filter_map part (v ∷ rest) ≡ w ∷ filter_map part rest
    one_of v w rest is = rw is refl

    around : (before : List V) (v : V) (w : W) (appended : List V) → part v ≡ Some w
        → filter_map part (before ++ v ∷ appended)
        ≡ filter_map part before ++ w ∷ filter_map part appended
    around before v w appended is =
        filter_map-append part before (v ∷ appended)
        ∙ ap (λ (ws : List W). filter_map part before ++ ws) (one_of v w appended is)

    -- A change of an account of one kind is a change among the accounts of this kind.
    pub part_replaced : (old : List V) (v w : V) (new : List V) (a b : W) → Replaces old v w new
        → part v ≡ Some a → part w ≡ Some b
        → Replaces (filter_map part old) a b (filter_map part new)
    part_replaced old v w new a b r v_is w_is = (
      filter_map part r.0,
      filter_map part r.1,
      ap (filter_map part) r.2 ∙ around r.0 v a r.1 v_is,
      ap (filter_map part) r.3 ∙ around r.0 w b r.1 w_is,
    )

    -- A removal of an account of one kind is a removal among the accounts of this kind.
    pub part_removed : (old : List V) (v : V) (new : List V) (a : W) → Removes old v new
        → part v ≡ Some a → Removes (filter_map part old) a (filter_map part new)
    part_removed old v new a r v_is = (
      filter_map part r.0,
      filter_map part r.1,
      ap (filter_map part) r.2 ∙ around r.0 v a r.1 v_is,
      ap (filter_map part) r.3 ∙ filter_map-append part r.0 r.1,
    )

    -- A removal of an account of another kind leaves the accounts of this kind as they were.
    pub part_kept : (old : List V) (v : V) (new : List V) → Removes old v new → part v ≡ None
        → filter_map part new ≡ filter_map part old
    part_kept old v new r none =
        let skipped : filter_map part (v ∷ r.1) ≡ filter_map part r.1 = rw none refl in
        ap (filter_map part) r.3 ∙ filter_map-append part r.0 r.1
        ∙ ap (λ (ws : List W). filter_map part r.0 ++ ws) (sym skipped)
        ∙ sym (filter_map-append part r.0 (v ∷ r.1)) ∙ sym (ap (filter_map part) r.2)

  -- ---- a loop over a list by value

  -- What a loop has yielded, with the next element, and what is left then are still the list.
  pub yields_step : (yielded rest rest' all : List V) (v : V) → yielded ++ rest ≡ all
      → rest ≡ v ∷ rest' → (yielded ++ v ∷ []) ++ rest' ≡ all
  yields_step yielded rest rest' all v so next =
      append_assoc yielded (v ∷ []) rest' ∙ ap (λ (l : List V). yielded ++ l) (sym next) ∙ so

  -- A loop that has none left has yielded the whole list.
  pub yields_end : (yielded rest all : List V) → yielded ++ rest ≡ all → rest ≡ [] → yielded ≡ all
  yields_end yielded rest all so none =
      sym (append-nil yielded) ∙ ap (λ (l : List V). yielded ++ l) (sym none) ∙ so

  -- A fact of each element of the list is true of the one that the loop yields next.
  pub yields_each : (P : V → Type 0) (yielded rest rest' all : List V) (v : V)
      → yielded ++ rest ≡ all → rest ≡ v ∷ rest' → AllByRecursion P all → P v
  yields_each P yielded rest rest' all v so next each =
      (each_split P yielded (v ∷ rest')
      (subst (AllByRecursion P) (sym (ap (λ (l : List V). yielded ++ l) (sym next) ∙ so)) each)).1.0

-- ---- the accounts of a kind are closed, one after the other

module _ {V W : Type 0} (part : V → Option W) where
  -- One more closed account of a kind is counted, and moves from those left to those closed.
  pub closes_part : (first before after : List V) (yielded rest rest' all : List W) (v : V) (w : W)
      → part v ≡ Some w → Removes before v after → rest ≡ w ∷ rest'
      → Closes (filter_map part first) yielded (filter_map part before)
      → length first ≡ length before + length yielded → yielded ++ rest ≡ all
      → Closes (filter_map part first) (yielded ++ w ∷ []) (filter_map part after)
      × (length first ≡ length after + length (yielded ++ w ∷ []))
      × ((yielded ++ w ∷ []) ++ rest' ≡ all)
  closes_part first before after yielded rest rest' all v w is gone next closed counted so =
      let fewer = length_removed before v after gone in
      let longer = length-append yielded (w ∷ []) in (
        closes_step (filter_map part first) yielded (filter_map part before) w
            (filter_map part after) closed (part_removed part before v after w gone is),
        omega arith,
        yields_step yielded rest rest' all w so next,
      )
