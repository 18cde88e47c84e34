-- One of three accounts is changed.
use Rattle.std.proofs.Common.{◌≡◌, ap, ℕ, zero, suc, List, [], ◌∷◌, length, length-append, arith}
use Rattle.std.specs.Prelude.{Contains, Option}
use Rattle.account_book.specs.Accounts.{Replaces}
use Rattle.relay_store.specs.Accounts.{Said, Sent, posts, sends, closes}

-- the three accounts of a relay
abbrev pub three : List (List ℕ) → Sent → Option (List (List ℕ)) → List Said
three p s g = posts p ∷ sends s ∷ closes g ∷ []

module _ (p : List (List ℕ)) (s : Sent) (g : Option (List (List ℕ))) where
  -- The account of what is kept is changed, which is the first one.
  pub record IsFirst (b : List (List ℕ)) (w : Said) (new : List Said) : Type 0 where
    pub same : b ≡ p
    pub new_is : new ≡ w ∷ sends s ∷ closes g ∷ []

  -- What is changed is the account of what is kept.
  pub replaced_post : (b : List (List ℕ)) (w : Said) (new : List Said)
      → Replaces (three p s g) (posts b) w new → IsFirst b w new
  replaced_post b w new ([], appended, e, k) = record {
    same = cc;
    new_is = cc;
  }
  replaced_post b w new (x ∷ [], appended, e, k) = absurd cc
  replaced_post b w new (x ∷ (y ∷ []), appended, e, k) = absurd cc
  replaced_post b w new (x ∷ (y ∷ (z ∷ before)), appended, e, k) =
      absurd (omega (arith, ap length e, length-append before (posts b ∷ appended)))

  -- The sender's account is changed, which is the second one.
  pub record IsSecond (t : Sent) (w : Said) (new : List Said) : Type 0 where
    pub same : t ≡ s
    pub new_is : new ≡ posts p ∷ w ∷ closes g ∷ []

  -- What is changed is the sender's account.
  pub replaced_send : (t : Sent) (w : Said) (new : List Said)
      → Replaces (three p s g) (sends t) w new → IsSecond t w new
  replaced_send t w new ([], appended, e, k) = absurd cc
  replaced_send t w new (x ∷ [], appended, e, k) = record {
    same = cc;
    new_is = cc;
  }
  replaced_send t w new (x ∷ (y ∷ []), appended, e, k) = absurd cc
  replaced_send t w new (x ∷ (y ∷ (z ∷ before)), appended, e, k) =
      absurd (omega (arith, ap length e, length-append before (sends t ∷ appended)))

  -- The account of what is given up is changed, which is the third one.
  pub record IsThird (h : Option (List (List ℕ))) (w : Said) (new : List Said) : Type 0 where
    pub same : h ≡ g
    pub new_is : new ≡ posts p ∷ sends s ∷ w ∷ []

  -- What is changed is the account of what is given up.
  pub replaced_close : (h : Option (List (List ℕ))) (w : Said) (new : List Said)
      → Replaces (three p s g) (closes h) w new → IsThird h w new
  replaced_close h w new ([], appended, e, k) = absurd cc
  replaced_close h w new (x ∷ [], appended, e, k) = absurd cc
  replaced_close h w new (x ∷ (y ∷ []), appended, e, k) = record {
    same = cc;
    new_is = cc;
  }
  replaced_close h w new (x ∷ (y ∷ (z ∷ before)), appended, e, k) =
      absurd (omega (arith, ap length e, length-append before (closes h ∷ appended)))

  -- ---- one that is there

  -- The account of what is kept is the first one.
  pub posts-in : (b : List (List ℕ)) → Contains (three p s g) (posts b) → b ≡ p
  posts-in b (zero, lt, e) = cc
  posts-in b (suc zero, lt, e) = absurd cc
  posts-in b (suc (suc zero), lt, e) = absurd cc
  posts-in b (suc (suc (suc k)), lt, e) = absurd (omega (arith, lt))

  -- The sender's account is the second one.
  pub sends-in : (t : Sent) → Contains (three p s g) (sends t) → t ≡ s
  sends-in t (zero, lt, e) = absurd cc
  sends-in t (suc zero, lt, e) = cc
  sends-in t (suc (suc zero), lt, e) = absurd cc
  sends-in t (suc (suc (suc k)), lt, e) = absurd (omega (arith, lt))

  -- The account of what is given up is the third one.
  pub closes-in : (h : Option (List (List ℕ))) → Contains (three p s g) (closes h) → h ≡ g
  closes-in h (zero, lt, e) = absurd cc
  closes-in h (suc zero, lt, e) = absurd cc
  closes-in h (suc (suc zero), lt, e) = cc
  closes-in h (suc (suc (suc k)), lt, e) = absurd (omega (arith, lt))
