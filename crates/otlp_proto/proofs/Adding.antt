-- Where a key is, and the groups of a map that gets one item more.
use Rattle.std.proofs.Common.{◌≡◌, sym, ap, ◌∙◌, ℕ, zero, suc, ◌-◌, ◌<◌, List, [], ◌∷◌, ◌++◌}
use Rattle.std.proofs.Common.{length, get_or, slice_get, position, Bool, true, false, Some, Vec}
use Rattle.std.proofs.Common.{cond, arith}
use Rattle.std.specs.Cmp.{IsEquivalence}
use Rattle.std.specs.List.{IsDistinct}
use Rattle.std.specs.Option.{unwrap_or}
use Rattle.std.specs.Map.{keys_of, values_of, lookup}
use Rattle.std.proofs.lemmas.List.Quantifiers.{position-Some}
use Rattle.indexmap.specs.IndexMap.{insert_entry, set_value_at}
use Rattle.indexmap.proofs.MapLemmas.{index-first}
use Rattle.indexmap.proofs.RemoveLemmas.{own_first}
use Rattle.otlp_proto.specs.Keyed.{groups_of, with_item}

-- A key that equals the last one is at the place of the last one.
pub last-index : {K X : Type 0} (eq : K → K → Bool) → IsEquivalence eq
    → (es : List (K × X)) (last key : K) (v : X) → IsDistinct eq (keys_of es) →
    slice_get es (length es - 1) ≡ Some (last, v) → eq last key ≡ true
    → Some (length es - 1) ≡ position (eq key) (keys_of es)
last-index eq laws es last key v unique there same =
    let alike : eq last ≡ eq key = λ j k. laws.congr last key k same j in
    let first : position (eq last) (keys_of es) ≡ Some (length es - 1) =
    index-first (eq last) es (length es - 1)
    (own_first eq laws es (length es - 1) last v unique there) in
    sym first ∙ ap (λ test. position test (keys_of es)) alike

appended : {K T A : Type 0} (eq : K → K → Bool) (k : K) (x : T) (old new : Vec T A)
    → new.items ≡ old.items ++ x ∷ [] → (es : List (K × Vec T A)) (i : ℕ) → i < length (keys_of es)
    → eq k (get_or (keys_of es) i k) ≡ true →
    ((j : ℕ) → j < i → eq k (get_or (keys_of es) j k) ≡ false)
    → slice_get (values_of es) i ≡ Some old
    → groups_of (set_value_at es i new) ≡ with_item eq (groups_of es) k x
appended eq k x old new p [] i l same before at = absurd (omega (arith, l))
appended eq k x old new p (e ∷ es) zero l same before at =
    let own : e.1 ≡ old = cc in
    rw same
    (ap (λ ys. record { key = e.0; items = ys } ∷ groups_of es)
    (p ∙ ap (λ v. v.items ++ x ∷ []) (sym own)))
appended eq k x old new p (e ∷ es) (suc i) l same before at =
    let other : eq k e.0 ≡ false = before 0 (omega arith) in
    rw other
    (ap (λ gs. record { key = e.0; items = e.1.items } ∷ gs)
    (appended eq k x old new p es i (omega (arith, l)) same
    (λ j h. before (suc j) (omega (arith, h))) at))

-- An item that is put after those of its key is added as in the model.
pub added-after : {K T A : Type 0} (eq : K → K → Bool) (es : List (K × Vec T A)) (k : K) (x : T)
    (i : ℕ) (old new : Vec T A)
    → position (eq k) (keys_of es) ≡ Some i → slice_get (values_of es) i ≡ Some old
    → new.items ≡ old.items ++ x ∷ [] →
    groups_of (set_value_at es i new) ≡ with_item eq (groups_of es) k x
added-after eq es k x i old new there at p =
    let found = position-Some (eq k) (keys_of es) i k there in
    appended eq k x old new p es i found.0 found.1 found.2 at

looked-up : {K T A : Type 0} (eq : K → K → Bool) (k : K) (x : T) (none new : Vec T A)
    → none.items ≡ [] → (es : List (K × Vec T A))
    → new.items ≡ (unwrap_or (lookup (eq k) es) none).items ++ x ∷ [] →
    groups_of (insert_entry eq es k new) ≡ with_item eq (groups_of es) k x
looked-up eq k x none new empty [] p =
    ap (λ ys. record { key = k; items = ys } ∷ []) (p ∙ ap (λ ys. ys ++ x ∷ []) empty)
looked-up {K = K} {T = T} {A = A} eq k x none new empty (e ∷ es) p =
    go (eq k e.0) p (looked-up eq k x none new empty es)
  where
    go : (t : Bool)
        → new.items ≡ (unwrap_or (cond t (Some e.1) (lookup (eq k) es)) none).items ++ x ∷ [] →
        (new.items ≡ (unwrap_or (lookup (eq k) es) none).items ++ x ∷ []
        → groups_of (insert_entry eq es k new) ≡ with_item eq (groups_of es) k x) →
        groups_of (cond t ((e.0, new) ∷ es) (e ∷ insert_entry eq es k new))
        ≡ cond t (record { key = e.0; items = e.1.items ++ x ∷ [] } ∷ groups_of es)
        (record { key = e.0; items = e.1.items } ∷ with_item eq (groups_of es) k x)
    go true q rest = ap (λ ys. record { key = e.0; items = ys } ∷ groups_of es) q
    go false q rest = ap (λ gs. record { key = e.0; items = e.1.items } ∷ gs) (rest q)

-- An item whose key is looked up is added as in the model.
pub added-by-entry : {K T A : Type 0} (eq : K → K → Bool) (es : List (K × Vec T A)) (k : K) (x : T)
    (none old new : Vec T A) (after : List (K × Vec T A))
    → none.items ≡ [] → old ≡ unwrap_or (lookup (eq k) es) none → new.items ≡ old.items ++ x ∷ [] →
    after ≡ insert_entry eq es k new → groups_of after ≡ with_item eq (groups_of es) k x
added-by-entry eq es k x none old new after empty had p is =
    ap groups_of is ∙ looked-up eq k x none new empty es (p ∙ ap (λ v. v.items ++ x ∷ []) had)
