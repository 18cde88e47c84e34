-- Which traces are given up to make room.
use Rattle.std.proofs.Common.{◌≡◌, ℕ, ◌+◌, ◌-◌, ◌<◌, ◌≤◌, ◌⊎◌, inl, inr, List, [], ◌∷◌, ◌++◌}
use Rattle.std.proofs.Common.{length, sym, ◌∙◌, ap, subst, arith, append-nil, append_assoc}
use Rattle.std.specs.Prelude.{sum_by}
use Rattle.std.proofs.lemmas.List.{length-append}
use Rattle.trace_store.specs.Stores.{MakesRoom}
use Rattle.trace_store.specs.Traces.{byte_count}
use Rattle.trace_store.proofs.PartLemmas.{parts_sum}
use Rattle.trace_store.proofs.Sums.{sum_last}

-- these are left of all, and each of the others had to go
pub record IsGiving {S : Type 0} (size : S → ℕ) (bytes : ℕ)
    (all left : List (ℕ × List S)) : Type 0 where
  pub older : List (ℕ × List S)
  pub split : all ≡ left ++ older
  pub needed : (next : ℕ × List S) (others : List (ℕ × List S)) → older ≡ next ∷ others
      → byte_count size others < bytes

module _ {S : Type 0} (size : S → ℕ) (bytes : ℕ) (all : List (ℕ × List S)) where
  -- Before any trace is given up, all traces are left.
  pub none_given : IsGiving size bytes all all
  none_given = record { older = []; split = sym (append-nil all); needed = λ next others e. cc }

  given_bytes : (left older : List (ℕ × List S)) → all ≡ left ++ older
      → byte_count size all ≡ byte_count size left + byte_count size older
  given_bytes left older split = ap (byte_count size) split ∙ parts_sum (sum_by size) left older

  few_older : (before : ℕ) (left older : List (ℕ × List S)) → before ≡ byte_count size all
      → all ≡ left ++ older
      → ¬ (bytes ≤ before - byte_count size left) → byte_count size older < bytes
  few_older before left older whole split few =
      let sum = given_bytes left older split in grind (arith, whole, sum, few)

  -- The oldest trace may be given up as well, where those given up so far take too few bytes.
  pub one_given : (before : ℕ) (left left' : List (ℕ × List S)) (oldest : ℕ × List S)
      → before ≡ byte_count size all
      → IsGiving size bytes all left → ¬ (bytes ≤ before - byte_count size left)
      → left ≡ left' ++ oldest ∷ []
      → IsGiving size bytes all left'
  one_given before left left' oldest whole h few split = record {
    older = oldest ∷ h.older;
    split = h.split ∙ ap (λ x. x ++ h.older) split ∙ append_assoc left' (oldest ∷ []) h.older;
    needed = λ next others e.
        let same : h.older ≡ others = cc in
        subst (λ x. byte_count size x < bytes) same
        (few_older before left h.older whole h.split few);
  }

  -- Traces without the oldest one take no more bytes than all traces took at first.
  pub less_left : (before : ℕ) (left left' : List (ℕ × List S)) (oldest : ℕ × List S)
      → before ≡ byte_count size all
      → IsGiving size bytes all left → left ≡ left' ++ oldest ∷ [] → byte_count size left' ≤ before
  less_left before left left' oldest whole h split =
      omega (
        arith,
        whole,
        given_bytes left h.older h.split,
        sum_last (sum_by size) left left' oldest.0 oldest.1 split,
      )

  enough_given : (before : ℕ) (left older : List (ℕ × List S)) → before ≡ byte_count size all
      → all ≡ left ++ older
      → ((bytes ≤ before - byte_count size left) ⊎ (left ≡ []))
      → ((bytes ≤ byte_count size older) ⊎ (left ≡ []))
  enough_given before left older whole split (inl e) =
      inl (omega (arith, whole, given_bytes left older split, e))
  enough_given before left older whole split (inr e) = inr e

  -- The traces left have made room once enough bytes were given up or no trace is left.
  pub makes_room : (before : ℕ) (left : List (ℕ × List S)) → before ≡ byte_count size all
      → IsGiving size bytes all left → ((bytes ≤ before - byte_count size left) ⊎ (left ≡ []))
      → MakesRoom size bytes all left
  makes_room before left whole h enough = record {
    older = h.older;
    split = h.split;
    enough = enough_given before left h.older whole h.split enough;
    needed = h.needed;
  }

  -- No more traces are left than there were at first.
  pub fewer_left : (left : List (ℕ × List S)) → IsGiving size bytes all left
      → length left ≤ length all
  fewer_left left h = omega (arith, ap length h.split, length-append left h.older)
