-- Maps by keys of bytes, with one entry more.
use Rattle.std.proofs.Common.{◌≡◌, sym, ap, subst, ◌∙◌, ℕ, false, cond, inl, inr}
use Rattle.std.proofs.Common.{Some}
use Rattle.std.proofs.Common.{List}
use Rattle.std.specs.Prelude.{Vec}
use Rattle.std.specs.BTreeMap.{BTreeMap, Updates}
use Rattle.std.specs.Cmp.Lexicographic.{slice_cmp}
use Rattle.std.specs.Map.{KeepsOthers}
use Rattle.std.specs.Ordering.{is_eq, nat_cmp}
use Rattle.std.specs.Str.{bytes_eq}
use Rattle.std.proofs.lemmas.Bool.{cases_Bool, cond-true, cond-false, true≢false}
use Rattle.std.proofs.lemmas.Slice.Eq.{bytes_eq-Decides}
use Rattle.trace_tree.proofs.Ids.{ties_is}
use Rattle.trace_lines.specs.Keys.{value_at}

-- equality of bytes goes both ways
flip : (a b : List ℕ) → bytes_eq a b ≡ false → bytes_eq b a ≡ false
flip a b other = elim (cases_Bool (bytes_eq b a)) [
  | inl same ↦
      absurd (true≢false
      (sym ((bytes_eq-Decides a b).1 (sym ((bytes_eq-Decides b a).0 same))) ∙ other))
  | inr not_same ↦ not_same
]

module _ {A X : Type 0} (old new : BTreeMap (Vec ℕ A) X) (key : Vec ℕ A) (v : X)
    (moved : Updates (λ (x y : Vec ℕ A). slice_cmp nat_cmp x.items y.items) old new key (Some v))
  where
    kept : (bytes : List ℕ) → bytes_eq key.items bytes ≡ false
        → value_at new bytes ≡ value_at old bytes
    unfolding KeepsOthers
    kept bytes other =
        moved.3 (λ (k : Vec ℕ A). is_eq (slice_cmp nat_cmp bytes k.items))
        (λ x y h. ap (λ l. is_eq (slice_cmp nat_cmp l y.items))
        ((bytes_eq-Decides bytes x.items).0 (sym (ties_is bytes x.items) ∙ h)))
        (λ k h. ties_is bytes k.items
        ∙ subst (λ l. bytes_eq bytes l ≡ false)
        ((bytes_eq-Decides key.items k.items).0 (sym (ties_is key.items k.items) ∙ h))
        (flip key.items bytes other))

    -- After an entry is put in, its key has the value, and other keys have what they had.
    pub value_after : (bytes : List ℕ)
        → value_at new bytes
        ≡ cond (is_eq (slice_cmp nat_cmp key.items bytes)) (Some v) (value_at old bytes)
    value_after bytes = elim (cases_Bool (bytes_eq key.items bytes)) [
      | inl same ↦
          subst (λ l. value_at new l ≡ Some v) ((bytes_eq-Decides key.items bytes).0 same) moved.1
          ∙ sym (cond-true (is_eq (slice_cmp nat_cmp key.items bytes)) (Some v) (value_at old bytes)
          (ties_is key.items bytes ∙ same))
      | inr other ↦
          kept bytes other
          ∙ sym
          (cond-false (is_eq (slice_cmp nat_cmp key.items bytes)) (Some v) (value_at old bytes)
          (ties_is key.items bytes ∙ other))
    ]
