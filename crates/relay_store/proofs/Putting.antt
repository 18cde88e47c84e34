-- Bodies that are put into a spool: one that is put alone, and what is true of each of them.
use Rattle.std.proofs.Common.{◌≡◌, sym, subst, ◌≤◌, arith, zero, suc, ◌<◌, ℕ, List, [], ◌∷◌}
use Rattle.std.proofs.Common.{length, take}
use Rattle.std.proofs.lemmas.List.{take_all}
use Rattle.std.specs.Prelude.{Option, Result, Ok, Err, OnOk}
use Rattle.std.specs.List.{AllByRecursion, slice_index_or}
use Rattle.spool.specs.Disks.{Disk}
use Rattle.spool.specs.declared.state.Spool.{Spool}
use Rattle.relay_store.specs.Kept.{Puts, PutsAll}

-- What follows where there is no error.
pub on-ok : {T E A B : Type 0} (r : Result T E) → (A → B) → OnOk r A → OnOk r B
on-ok (Ok v) f a = f a
on-ok (Err e) f a = tt

all-suc : {X : Type 0} (P : X → Type 0) (xs : List X) (k : ℕ) (x : X)
    → x ≡ slice_index_or xs k x → k < length xs → AllByRecursion P (take k xs) → P x
    → AllByRecursion P (take (suc k) xs)
all-suc P [] k x is within all p = absurd (omega (arith, within))
all-suc P (y ∷ xs) zero x is within all p = (subst P is p, tt)
all-suc P (y ∷ xs) (suc k) x is within all p =
    (all.0, all-suc P xs k x is (omega (arith, within)) all.1 p)

-- What is true of the first ones and of the next one is true of all of these.
pub all-next : {X : Type 0} (P : X → Type 0) (xs : List X) (k n : ℕ) (x : X) → n ≡ suc k
    → x ≡ slice_index_or xs k x → k < length xs → AllByRecursion P (take k xs) → P x
    → AllByRecursion P (take n xs)
all-next P xs k n x next is within all p =
    subst (λ (m : ℕ). AllByRecursion P (take m xs)) (sym next) (all-suc P xs k x is within all p)

-- What is true of each of a list's first ones is true of each of a list that is no longer.
pub all-taken : {X : Type 0} (P : X → Type 0) (xs : List X) (k : ℕ) → length xs ≤ k
    → AllByRecursion P (take k xs) → AllByRecursion P xs
all-taken P xs k few all = subst (AllByRecursion P) (take_all k xs few) all

-- A body that is put alone.
pub puts-one : {D : Type 0} (files : D → Disk) (moment : D → ℕ) (left_at : D → ℕ → Disk → Type 0)
    (body : List ℕ) (old new : Option (Spool D))
    → PutsAll files moment left_at (body ∷ []) old new → Puts files moment left_at body old new
puts-one files moment left_at body old new puts = record {
  number = puts.first;
  number_is = puts.first_is;
  next_is = omega (arith, puts.next_is);
  waits = puts.waits;
  settled = puts.settled;
}
