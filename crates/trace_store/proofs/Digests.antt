-- The digest of the spans so far.
use Rattle.std.proofs.Common.{◌≡◌, List, [], ◌∷◌, ◌++◌, refl, sym, ◌∙◌, ap, append_assoc}
use Rattle.std.proofs.Common.{append-nil}

-- these spans came, of which the digest is this, and those are left
pub record IsSoFar {S D : Type 0} (digest_of : List S → D) (all rest : List S)
    (digest : D) : Type 0 where
  pub done : List S
  pub split : all ≡ done ++ rest
  pub value : digest ≡ digest_of done

-- Before any span came, the digest is the one of an empty list.
pub none_so_far : {S D : Type 0} (digest_of : List S → D) (all : List S) (digest : D)
    → digest ≡ digest_of [] → IsSoFar digest_of all all digest
none_so_far digest_of all digest e = record { done = []; split = refl; value = e }

-- When one more span comes and the new digest counts it, the digest is the one of the spans so far.
pub one_so_far : {S D : Type 0} (digest_of : List S → D) (all rest rest' : List S) (old new : D)
    (x : S)
    → IsSoFar digest_of all rest old → rest ≡ x ∷ rest'
    → ((spans : List S) → old ≡ digest_of spans → new ≡ digest_of (spans ++ x ∷ []))
    → IsSoFar digest_of all rest' new
one_so_far digest_of all rest rest' old new x h next adds = record {
  done = h.done ++ x ∷ [];
  split = h.split ∙ ap (λ r. h.done ++ r) next ∙ sym (append_assoc h.done (x ∷ []) rest');
  value = adds h.done h.value;
}

-- Once no span is left, the digest is the one of all spans.
pub all_so_far : {S D : Type 0} (digest_of : List S → D) (all : List S) (digest : D)
    → IsSoFar digest_of all [] digest → digest ≡ digest_of all
all_so_far digest_of all digest h = h.value ∙ ap digest_of (sym (h.split ∙ append-nil h.done))
