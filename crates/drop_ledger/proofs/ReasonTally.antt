-- Counts of older names of which there is one more.
use Rattle.std.proofs.Common.{◌≡◌, sym, ap, ◌∙◌, ℕ, ◌+◌, ◌-◌, List, [], ◌∷◌, ◌++◌, Bool, true}
use Rattle.std.proofs.Common.{false, cond, map, length, take, drop, arith}
use Rattle.std.proofs.lemmas.List.{append-nil, drop-map, length-map, map-append, take-map}
use Rattle.std.proofs.lemmas.List.Sums.{sum_by-append, sum_by-cons}
use Rattle.model_span.specs.Dropped.{Entry, Reason, queue_full, encode_memory, too_large, abandoned}
use Rattle.model_span.specs.Dropped.{refused, bad_reply, given_up, left_handed}
use Rattle.drop_ledger.specs.ReasonCounts.{Counts, capped, count_of_kind, counts_of, one_more}
use Rattle.drop_ledger.specs.ReasonCounts.{raised, same_kind}
use Rattle.drop_ledger.specs.Newest.{newest_of, older_of}

raised-capped : (b : Bool) (n : ℕ) → capped (n + cond b 1 0) ≡ raised b (capped n)
raised-capped true n = omega arith
raised-capped false n = omega arith

counts-made : (a b c d e f g h a' b' c' d' e' f' g' h' : ℕ) → a ≡ a' → b ≡ b' → c ≡ c' → d ≡ d'
    → e ≡ e' → f ≡ f' → g ≡ g' → h ≡ h'
    → record {
      queue_full = a;
      encode_memory = b;
      too_large = c;
      abandoned = d;
      refused = e;
      bad_reply = f;
      given_up = g;
      left_handed = h;
    }
    ≡ (let made : Counts =
    record {
      queue_full = a';
      encode_memory = b';
      too_large = c';
      abandoned = d';
      refused = e';
      bad_reply = f';
      given_up = g';
      left_handed = h';
    } in
    made)
counts-made a b c d e f g h a' b' c' d' e' f' g' h' p q r s t u v w = cc

-- one list of names has one more than another
record HasOneMore (e : Entry) (more names : List Entry) : Type 0 where
  each : (r : Reason)
      → count_of_kind r more ≡ count_of_kind r names + cond (same_kind r e.reason) 1 0

count-more : (e : Entry) (more names : List Entry) → HasOneMore e more names → (r : Reason)
    → capped (count_of_kind r more) ≡ raised (same_kind r e.reason) (capped (count_of_kind r names))
count-more e more names h r =
    ap capped (h.each r) ∙ raised-capped (same_kind r e.reason) (count_of_kind r names)

counts-more : (e : Entry) (more names : List Entry) → HasOneMore e more names
    → counts_of more ≡ one_more e.reason (counts_of names)
counts-more e more names h =
    let one = count-more e more names h in
    counts-made _ _ _ _ _ _ _ _ _ _ _ _ _ _ _ _ (one queue_full) (one encode_memory) (one too_large)
    (one abandoned) (one (refused 0)) (one bad_reply) (one given_up) (one left_handed)

-- one, where the name has this reason
abbrev is_one : Reason → Entry → ℕ
is_one r x = cond (same_kind r x.reason) 1 0

count-push : (r : Reason) (xs : List Entry) (e : Entry)
    → count_of_kind r (xs ++ e ∷ []) ≡ count_of_kind r xs + is_one r e
count-push r xs e = omega (arith, sum_by-append (is_one r) xs (e ∷ []), sum_by-cons (is_one r) e [])

count-both : (r : Reason) (xs ys : List Entry)
    → count_of_kind r (xs ++ ys) ≡ count_of_kind r xs + count_of_kind r ys
count-both r xs ys = sum_by-append (is_one r) xs ys

-- one more name of the first list, or of the second
first-more : (e : Entry) (xs ys : List Entry)
    → counts_of ((xs ++ e ∷ []) ++ ys) ≡ one_more e.reason (counts_of (xs ++ ys))
first-more e xs ys = counts-more e ((xs ++ e ∷ []) ++ ys) (xs ++ ys) (record {
  each = λ r. omega (arith, count-both r (xs ++ e ∷ []) ys, count-push r xs e, count-both r xs ys);
})

second-more : (e : Entry) (xs ys : List Entry)
    → counts_of (xs ++ (ys ++ e ∷ [])) ≡ one_more e.reason (counts_of (xs ++ ys))
second-more e xs ys = counts-more e (xs ++ (ys ++ e ∷ [])) (xs ++ ys) (record {
  each = λ r. omega (arith, count-both r xs (ys ++ e ∷ []), count-push r ys e, count-both r xs ys);
})

module _ {X : Type 0} (f : X → Entry) where
  -- The newest of the names of items are the names of the newest items.
  pub newest-map : (most : ℕ) (items : List X)
      → newest_of most (map f items) ≡ map f (newest_of most items)
  newest-map most items =
      ap (λ n. drop (n - most) (map f items)) (length-map items f)
      ∙ drop-map f (length items - most) items

  older-map : (most : ℕ) (items : List X)
      → older_of most (map f items) ≡ map f (older_of most items)
  older-map most items =
      ap (λ n. take (n - most) (map f items)) (length-map items f)
      ∙ take-map f (length items - most) items

  older-grown : (most : ℕ) (items : List X) (item : X) (gone : List X)
      → older_of most (items ++ item ∷ []) ≡ older_of most items ++ gone
      → older_of most (map f (items ++ item ∷ [])) ≡ older_of most (map f items) ++ map f gone
  older-grown most items item gone grown =
      older-map most (items ++ item ∷ []) ∙ ap (map f) grown
      ∙ map-append f (older_of most items) gone
      ∙ ap (λ xs. xs ++ map f gone) (sym (older-map most items))

  older-same : (most : ℕ) (items : List X) (item : X)
      → older_of most (items ++ item ∷ []) ≡ older_of most items ++ []
      → older_of most (map f (items ++ item ∷ [])) ≡ older_of most (map f items)
  older-same most items item grown =
      older-grown most items item [] grown ∙ append-nil (older_of most (map f items))

  module _ (most : ℕ) (items lost : List X) (item : X) (old : Counts)
      (counted : old ≡ counts_of (older_of most (map f items) ++ older_of most (map f lost))) where
    -- The counts are right where one more dropped span's name makes another older, once it is
    -- counted.
    pub dropped-gone : (gone : X) (new : Counts)
        → older_of most (items ++ item ∷ []) ≡ older_of most items ++ gone ∷ []
        → new ≡ one_more (f gone).reason old
        → new ≡ counts_of (older_of most (map f (items ++ item ∷ [])) ++ older_of most (map f lost))
    dropped-gone gone new grown added =
        added ∙ ap (one_more (f gone).reason) counted
        ∙ sym (first-more (f gone) (older_of most (map f items)) (older_of most (map f lost)))
        ∙ ap (λ xs. counts_of (xs ++ older_of most (map f lost)))
        (sym (older-grown most items item (gone ∷ []) grown))

    -- The counts are still right where one more dropped span's name makes no other older.
    pub dropped-kept : older_of most (items ++ item ∷ []) ≡ older_of most items ++ []
        → old ≡ counts_of (older_of most (map f (items ++ item ∷ [])) ++ older_of most (map f lost))
    dropped-kept grown =
        counted
        ∙ ap (λ xs. counts_of (xs ++ older_of most (map f lost)))
        (sym (older-same most items item grown))

  module _ (most : ℕ) (dropped items : List X) (item : X) (old : Counts)
      (counted : old
      ≡ counts_of (older_of most (map f dropped) ++ older_of most (map f items))) where
    -- The counts are right where one more lost span's name makes another older, once it is counted.
    pub lost-gone : (gone : X) (new : Counts)
        → older_of most (items ++ item ∷ []) ≡ older_of most items ++ gone ∷ []
        → new ≡ one_more (f gone).reason old
        → new
        ≡ counts_of (older_of most (map f dropped) ++ older_of most (map f (items ++ item ∷ [])))
    lost-gone gone new grown added =
        added ∙ ap (one_more (f gone).reason) counted
        ∙ sym (second-more (f gone) (older_of most (map f dropped)) (older_of most (map f items)))
        ∙ ap (λ xs. counts_of (older_of most (map f dropped) ++ xs))
        (sym (older-grown most items item (gone ∷ []) grown))

    -- The counts are still right where one more lost span's name makes no other older.
    pub lost-kept : older_of most (items ++ item ∷ []) ≡ older_of most items ++ []
        → old
        ≡ counts_of (older_of most (map f dropped) ++ older_of most (map f (items ++ item ∷ [])))
    lost-kept grown =
        counted
        ∙ ap (λ xs. counts_of (older_of most (map f dropped) ++ xs))
        (sym (older-same most items item grown))
