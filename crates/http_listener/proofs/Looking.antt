-- The peers that were looked at, one after another.
use Rattle.std.proofs.Common.{◌≡◌, ◌∙◌, ◌++◌, ◌∷◌, [], ℕ, Bool, List, Option, ap, refl, subst, sym}
use Rattle.std.proofs.lemmas.List.{append-nil, append_assoc, flat_map_more}
use Rattle.http_listener.specs.Crowds.{waiter_in, waiters_of}
use Rattle.http_listener.specs.Waiting.{IsLongest}
use Rattle.http_listener.specs.declared.longest.Waiter.{Waiter}
use Rattle.http_listener.specs.declared.peer.Peer.{Peer}

-- The longest was found of those that were looked at, of which so many are left.
pub record Looked {T P : Type 0} (only_idle : Bool) (all rest : List (ℕ × Peer T P))
    (found : Option Waiter) : Type 0 where
  pub seen : List (ℕ × Peer T P)
  pub split : seen ++ rest ≡ all
  pub longest : IsLongest (waiters_of only_idle seen) found

module _ {T P : Type 0} (only_idle : Bool) (all : List (ℕ × Peer T P)) where
  -- None was.
  pub looked-none : (found : Option Waiter) → IsLongest [] found → Looked only_idle all all found
  looked-none found none = record { seen = []; split = refl; longest = none }

  -- One more was, which counts so.
  pub looked-next : (entry : ℕ × Peer T P) (rest : List (ℕ × Peer T P)) (old new : Option Waiter)
      (more : List Waiter) → waiter_in only_idle entry ≡ more
      → ((seen : List Waiter) → IsLongest seen old → IsLongest (seen ++ more) new)
      → Looked only_idle all (entry ∷ rest) old → Looked only_idle all rest new
  looked-next entry rest old new more counts look before = record {
    seen = before.seen ++ entry ∷ [];
    split = append_assoc before.seen (entry ∷ []) rest ∙ before.split;
    longest =
        subst (λ (ws : List Waiter). IsLongest ws new)
        (ap (λ (m : List Waiter). waiters_of only_idle before.seen ++ m) (sym counts)
        ∙ flat_map_more (waiter_in only_idle) [] before.seen entry)
        (look (waiters_of only_idle before.seen) before.longest);
  }

  -- One more was, which doesn't count.
  pub looked-other : (entry : ℕ × Peer T P) (rest : List (ℕ × Peer T P)) (found : Option Waiter)
      → waiter_in only_idle entry ≡ []
      → Looked only_idle all (entry ∷ rest) found → Looked only_idle all rest found
  looked-other entry rest found counts before =
      looked-next entry rest found found [] counts
      (λ seen longest. subst (λ (ws : List Waiter). IsLongest ws found)
      (sym (append-nil seen)) longest) before

  -- All were.
  pub looked-all : (found : Option Waiter) → Looked only_idle all [] found
      → IsLongest (waiters_of only_idle all) found
  looked-all found done =
      subst (λ (es : List (ℕ × Peer T P)). IsLongest (waiters_of only_idle es) found)
      (sym (append-nil done.seen) ∙ done.split) done.longest
