-- The services of a trace, with one span more.
use Rattle.std.proofs.Common.{◌≡◌, refl, sym, ap, subst, ◌∙◌, ℕ, ◌+◌, true, false, cond}
use Rattle.std.proofs.Common.{inl, inr, Option, Some, None, List, [], ◌∷◌, ◌++◌, length}
use Rattle.std.proofs.Common.{length-append, position, is_some}
use Rattle.std.specs.Prelude.{Vec}
use Rattle.std.specs.BTreeMap.{BTreeMap, btree_map_len}
use Rattle.std.specs.Cmp.Lexicographic.{slice_cmp}
use Rattle.std.specs.Ordering.{is_eq, nat_cmp}
use Rattle.std.specs.Str.{bytes_eq}
use Rattle.std.proofs.lemmas.Bool.{cases_Bool, cond-true, cond-false}
use Rattle.std.proofs.lemmas.List.Sums.{fold_push}
use Rattle.std.proofs.lemmas.Slice.Eq.{bytes_eq-Decides}
use Rattle.trace_tree.proofs.Ids.{place_kept, place_new, ties_is}
use Rattle.trace_store.specs.declared.span.ViewSpan.{ViewSpan}
use Rattle.trace_lines.specs.Keys.{value_at}
use Rattle.trace_lines.specs.Services.{AreServices, is_named, more_services, place_of_name}
use Rattle.trace_lines.specs.Services.{services_of, with_name}
use Rattle.trace_store.specs.Facts.{service_of}

none_of : (o : Option ℕ) → is_some o ≡ false → o ≡ None
none_of None h = refl
none_of (Some n) h = cc

-- a name that is there
pub name_there : {A : Type 0} (names : List (List ℕ)) (name : List ℕ)
    (places : BTreeMap (Vec ℕ A) ℕ)
    → is_some (place_of_name names name) ≡ true
    → AreServices names places → AreServices (with_name names name) places
unfolding with_name
name_there names name places there h =
    subst (λ l. AreServices l places)
    (sym (cond-true (is_some (place_of_name names name)) names (names ++ name ∷ []) there)) h

-- where a name is, with one more that wasn't there
place_more : (names : List (List ℕ)) (name q : List ℕ) → is_some (place_of_name names name) ≡ false
    → cond (is_eq (slice_cmp nat_cmp name q)) (Some (length names)) (place_of_name names q)
    ≡ place_of_name (names ++ name ∷ []) q
place_more names name q new = elim (cases_Bool (bytes_eq name q)) [
  | inl same ↦
      let e : name ≡ q = (bytes_eq-Decides name q).0 same in
      let none : position (is_named q) names ≡ None =
      subst (λ l. position (is_named l) names ≡ None) e (none_of (place_of_name names name) new) in
      cond-true (is_eq (slice_cmp nat_cmp name q)) (Some (length names)) (place_of_name names q)
      (ties_is name q ∙ same)
      ∙ sym (place_new (is_named q) names name none same)
  | inr other ↦
      cond-false (is_eq (slice_cmp nat_cmp name q)) (Some (length names)) (place_of_name names q)
      (ties_is name q ∙ other)
      ∙ sym (place_kept (is_named q) names name other)
]

-- a name that isn't, and is put in at the next place
pub name_new : {A : Type 0} (names : List (List ℕ)) (name : List ℕ) (old new : BTreeMap (Vec ℕ A) ℕ)
    (place : ℕ)
    → is_some (place_of_name names name) ≡ false
    → AreServices names old → place ≡ btree_map_len old
    → ((q : List ℕ)
    → value_at new q ≡ cond (is_eq (slice_cmp nat_cmp name q)) (Some place) (value_at old q))
    → btree_map_len new ≡ btree_map_len old + 1
    → AreServices (with_name names name) new
unfolding with_name
name_new names name old new place fresh h at updates long =
    subst (λ l. AreServices l new)
    (sym (cond-false (is_some (place_of_name names name)) names (names ++ name ∷ []) fresh))
    (record {
      each = λ q.
          updates q
          ∙ ap (λ o. cond (is_eq (slice_cmp nat_cmp name q)) (Some place) o) (h.each q)
          ∙ ap
          (λ p. cond (is_eq (slice_cmp nat_cmp name q)) (Some p) (place_of_name names q))
          (at ∙ h.count)
          ∙ place_more names name q fresh;
      count = long ∙ ap (λ n. n + 1) h.count ∙ sym (length-append names (name ∷ []));
    })

-- a map has one more, where the key wasn't there
pub len_more : (new old : ℕ) (was : Option ℕ) → is_some was ≡ false
    → new ≡ old + cond (is_some was) 0 1 → new ≡ old + 1
len_more new old was none is = is ∙ ap (λ b. old + cond b 0 1) none

-- the services of spans, with one span more
pub services_more : {A : Type 0} (spans : List (ViewSpan A)) (x : ViewSpan A)
    → services_of (spans ++ x ∷ []) ≡ with_name (services_of spans) (service_of x)
services_more spans x = fold_push more_services [] spans x

-- those of none
pub services_none : {A : Type 0} (places : BTreeMap (Vec ℕ A) ℕ) → places.entries ≡ []
    → AreServices [] places
services_none places empty = record { each = λ q. rw empty refl; count = ap length empty }
