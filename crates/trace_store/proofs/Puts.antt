-- What `put` makes of traces.
use Rattle.std.proofs.Common.{◌≡◌, ℕ, ◌-◌, ◌<◌, false, List, [], ◌∷◌, ◌++◌, length, nat_eq, Option}
use Rattle.std.proofs.Common.{Some, None, IsSome, refl, sym, ◌∙◌, ap, inl, inr, eqb-true, eq-eqb}
use Rattle.std.proofs.Common.{arith}
use Rattle.std.proofs.lemmas.Bool.{cases_Bool}
use Rattle.std.proofs.lemmas.List.{take_all}
use Rattle.std.specs.Prelude.{Result, Ok, Err, IsOk, OnOk, is_some}
use Rattle.std.specs.Map.{lookup, lookup_entry, remove_entry}
use Rattle.lru.specs.LruCache.{LruCache, lru_cache, put_entries}
use Rattle.trace_store.specs.Traces.{with_spans}

module _ {X : Type 0} where
  -- An entry that is found by a key has this key.
  pub found : (k : ℕ) (es : List (ℕ × X)) (e : ℕ × X) → lookup_entry (nat_eq k) es ≡ Some e
      → (e.0 ≡ k) × (lookup (nat_eq k) es ≡ Some e.1)
  found k [] e h = cc
  found k (f ∷ es) e h = elim (cases_Bool (nat_eq k f.0)) [
    | inl t ↦
        let h' = rw t at h in
        let same : f ≡ e = cc in
        (ap (λ x. x.0) (sym same) ∙ sym (eqb-true k f.0 t), rw t (ap (λ x. Some x.1) same))
    | inr n ↦ let on = found k es e (rw n at h) in (on.0, rw n on.1)
  ]

  -- Where no entry has a key, nothing is found by it and nothing is taken out.
  pub missing : (k : ℕ) (es : List (ℕ × X)) → lookup_entry (nat_eq k) es ≡ None
      → (lookup (nat_eq k) es ≡ None) × (remove_entry (nat_eq k) es ≡ es)
  missing k [] h = (refl, refl)
  missing k (f ∷ es) h = elim (cases_Bool (nat_eq k f.0)) [
    | inl t ↦ let h' = rw t at h in cc
    | inr n ↦ let on = missing k es (rw n at h) in (rw n on.0, rw n (ap (λ x. f ∷ x) on.1))
  ]

  put_by : (c : LruCache ℕ X) (k : ℕ) (v old : X) (o : Option (ℕ × X))
      → lookup_entry (nat_eq k) c.entries ≡ o → lookup (nat_eq k) c.entries ≡ Some old
      → put_entries nat_eq c k v ≡ (k, v) ∷ remove_entry (nat_eq k) c.entries
  put_by c k v old (Some e) h there =
      rw h (ap (λ x. (x, v) ∷ remove_entry (nat_eq k) c.entries) (found k c.entries e h).0)
  put_by c k v old None h there = let none = (missing k c.entries h).0 in cc

  -- A put of a key that is there replaces its entry and makes it the first one.
  pub put_there : (c : LruCache ℕ X) (k : ℕ) (v old : X) → lookup (nat_eq k) c.entries ≡ Some old
      → put_entries nat_eq c k v ≡ (k, v) ∷ remove_entry (nat_eq k) c.entries
  put_there c k v old = put_by c k v old (lookup_entry (nat_eq k) c.entries) refl

  -- A key that has no value in a list has no entry in it.
  pub absent_by : (k : ℕ) (es : List (ℕ × X)) (o : Option (ℕ × X)) → lookup_entry (nat_eq k) es ≡ o
      → lookup (nat_eq k) es ≡ None → lookup_entry (nat_eq k) es ≡ None
  absent_by k es (Some e) h none = let some = (found k es e h).1 in cc
  absent_by k es None h none = h

  -- A put of a new key adds an entry in front, where there is room, and takes none out.
  pub put_absent : (c : LruCache ℕ X) (k : ℕ) (v : X) → lookup (nat_eq k) c.entries ≡ None
      → length c.entries < c.cap
      → (put_entries nat_eq c k v ≡ (k, v) ∷ c.entries)
      × (remove_entry (nat_eq k) c.entries ≡ c.entries)
  put_absent c k v none room =
      let absent = absent_by k c.entries (lookup_entry (nat_eq k) c.entries) refl none in (
        rw absent (ap (λ x. (k, v) ∷ x) (take_all (c.cap - 1) c.entries (omega arith))),
        (missing k c.entries absent).1,
      )

  -- A key that was just put finds its value.
  pub first_found : (k : ℕ) (v : X) (es : List (ℕ × X)) → lookup (nat_eq k) ((k, v) ∷ es) ≡ Some v
  first_found k v es = rw (eq-eqb k k refl) refl

  first_removed : (k : ℕ) (v : X) (es : List (ℕ × X)) → remove_entry (nat_eq k) ((k, v) ∷ es) ≡ es
  first_removed k v es = rw (eq-eqb k k refl) refl

  -- A second put of a key finds the first value and replaces it.
  pub put_twice : (c first : LruCache ℕ X) (k : ℕ) (v w old : X)
      → lookup (nat_eq k) c.entries ≡ Some old
      → first ≡ lru_cache (put_entries nat_eq c k v) c.cap
      → (lookup (nat_eq k) first.entries ≡ Some v)
      × (put_entries nat_eq first k w ≡ (k, w) ∷ remove_entry (nat_eq k) c.entries)
  put_twice c first k v w old there e =
      let entries : first.entries ≡ (k, v) ∷ remove_entry (nat_eq k) c.entries =
      ap (λ x. x.entries) e ∙ put_there c k v old there in
      let again : lookup (nat_eq k) first.entries ≡ Some v =
      ap (lookup (nat_eq k)) entries ∙ first_found k v (remove_entry (nat_eq k) c.entries) in (
        again,
        put_there first k w v again
            ∙ ap (λ x. (k, w) ∷ x)
            (ap (remove_entry (nat_eq k)) entries
            ∙ first_removed k v (remove_entry (nat_eq k) c.entries)),
      )

-- Spans are added to a trace that is there by a put of an empty list and one of the longer list.
pub added_there : {S : Type 0} (c first second : LruCache ℕ (List S)) (k : ℕ)
    (empty kept more appended : List S)
    → lookup (nat_eq k) c.entries ≡ Some kept
    → first ≡ lru_cache (put_entries nat_eq c k empty) c.cap → appended ≡ kept ++ more
    → second ≡ lru_cache (put_entries nat_eq first k appended) first.cap
    → second ≡ lru_cache (with_spans c.entries k more) c.cap
added_there c first second k empty kept more appended there put append again =
    again
    ∙ ap (λ x. lru_cache x first.cap) ((put_twice c first k empty appended kept there put).1)
    ∙ ap (λ x. lru_cache ((k, appended) ∷ remove_entry (nat_eq k) c.entries) x)
    (ap (λ x. x.cap) put)
    ∙ ap (λ x. lru_cache ((k, x) ∷ remove_entry (nat_eq k) c.entries) c.cap) append
    ∙ rw there refl

-- A call that can't fail where there is a value returns no error there.
pub never_fails : {X T E : Type 0} (o : Option X) (x : X) (r : Result T E) (e : E) → o ≡ Some x
    → (IsSome o → IsOk r) → r ≡ Err e → ⊥
never_fails o x r e some succeeds failed =
    let ok : IsOk r = succeeds (ap is_some some) in
    let wrong = rw failed at ok in
    cc

-- An option that isn't `Some` is `None`.
pub none_there : {X : Type 0} (o : Option X) → is_some o ≡ false → o ≡ None
none_there None h = refl
none_there (Some x) h = cc

-- Spans of a trace that isn't there become a new trace, the newest one.
pub with_absent : {S : Type 0} (es : List (ℕ × List S)) (k : ℕ) (spans : List S)
    → lookup (nat_eq k) es ≡ None → with_spans es k spans ≡ (k, spans) ∷ es
with_absent es k spans none =
    rw none
    (ap (λ x. (k, spans) ∷ x)
    (missing k es (absent_by k es (lookup_entry (nat_eq k) es) refl none)).1)

-- What holds of a success carries over to whatever follows from it.
pub ok_map : {T E : Type 0} (P Q : Type 0) (r : Result T E) → (P → Q) → OnOk r P → OnOk r Q
ok_map P Q (Ok x) f p = f p
ok_map P Q (Err e) f p = p
