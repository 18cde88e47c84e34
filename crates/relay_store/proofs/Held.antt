-- What a hold of the lock shows.
use Rattle.std.proofs.Common.{◌≡◌, subst, ℕ, List, [], true, false}
use Rattle.std.specs.Prelude.{Result, Ok, Err, IsErrAnd, IsErrOf}
use Rattle.spool.specs.Disks.{Disk}
use Rattle.relay_store.specs.Kept.{Admits, Kept, Puts}
use Rattle.relay_store.specs.Holds.{KeepsInHold}

-- A body that is kept is so in a hold.
pub keeps-in : {D : Type 0} (known : Type 0) (files : D → Disk) (moment : D → ℕ)
    (left_at : D → ℕ → Disk → Type 0) (old new : Kept D) (body : List ℕ) (spans : ℕ)
    → (old.is_spooled ≡ false → Admits body spans old new)
    → (old.is_spooled ≡ true → known → Puts files moment left_at body old.spool new.spool)
    → KeepsInHold known files moment left_at body
keeps-in known files moment left_at old new body spans admits puts = record {
  old = old;
  new = new;
  spans = spans;
  admitted = admits;
  put = λ is k. record {
    number = (puts is k).number;
    before = [];
    later = [];
    waits = (puts is k).waits;
    settled = (puts is k).settled;
  };
}

-- An error that is handed on is the same.
pub err-same : {T E : Type 0} (r : Result T E) (fault x : E) → IsErrAnd r (λ f. f ≡ fault)
    → IsErrOf r x → IsErrOf {T = T} {E = E} (Err fault) x
err-same (Ok v) fault x h e = absurd h
err-same {T} {E} (Err f) fault x h e = subst (λ y. IsErrOf {T = T} {E = E} (Err y) x) h e
