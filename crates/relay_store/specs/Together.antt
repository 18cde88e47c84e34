-- Bodies that are kept together, in one hold of the lock. (profile)
use Rattle.std.specs.Prelude.{◌≡◌, ℕ, ◌<◌, List, Vec, length}
use Rattle.std.specs.List.{AllByRecursion, slice_index_or}
use Rattle.model_body.specs.Names.{IsReadable}
use Rattle.spool.specs.Disks.{Disk}
use Rattle.relay_store.specs.Holds.{KeepsInHold}

-- each of these bodies is read
abbrev pub AreReadable : {A : Type 0} → List (Vec ℕ A) → Type 0
AreReadable bodies = AllByRecursion (λ body. IsReadable body.items) bodies

-- each of these bodies was kept, in a hold
abbrev pub AreKept : {A D : Type 0} → Type 0 → (D → Disk) → (D → ℕ) → (D → ℕ → Disk → Type 0)
    → List (Vec ℕ A) → Type 0
AreKept known files moment left_at bodies =
    AllByRecursion (λ body. KeepsInHold known files moment left_at body.items) bodies

-- a body with these bytes is at this place
abbrev pub IsAt : {A : Type 0} → List (Vec ℕ A) → ℕ → List ℕ → Type 0
IsAt {A} bodies index content = (index < length bodies)
    × ((d : Vec ℕ A) → (slice_index_or bodies index d).items ≡ content)
