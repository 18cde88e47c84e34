-- Bodies of a spool that are at a desk too. (profile)
use Rattle.std.specs.Prelude.{◌≡◌, ℕ, List, [], ◌++◌, map, Option, Some, None}
use Rattle.std.specs.List.{enumerate_from}
use Rattle.spool.specs.Crashes.{LeavesOnly}
use Rattle.spool.specs.Disks.{Disk}
use Rattle.spool.specs.Spools.{next_number, numbered_from, waiting}
use Rattle.spool.specs.Settled.{IsSettled, device_of}
use Rattle.spool.specs.declared.state.Spool.{Spool}

-- The bodies that wait in a spool, each with its number, in order; none where there is no spool.
abbrev pub spool_waiting : {D : Type 0} → (D → Disk) → Option (Spool D) → List (ℕ × List ℕ)
spool_waiting files None = []
spool_waiting files (Some spool) = waiting (files (device_of spool))

-- the number that the next body of a spool gets, or 0 where there is no spool
abbrev pub spool_next : {D : Type 0} → (D → Disk) → Option (Spool D) → ℕ
spool_next files None = 0
spool_next files (Some spool) = next_number (files (device_of spool))

-- There is a spool before and after, or none. From its one state to the other a crash at any moment
-- leaves files that meet this.
abbrev pub SpoolLeaves : {D : Type 0} → (D → ℕ) → (D → ℕ → Disk → Type 0) → Option (Spool D)
    → Option (Spool D) → (Spool D → Disk → Type 0) → Type 0
SpoolLeaves moment left_at None None meets = Unit {0}
SpoolLeaves moment left_at None (Some new) meets = ⊥
SpoolLeaves moment left_at (Some old) None meets = ⊥
SpoolLeaves moment left_at (Some old) (Some new) meets =
    LeavesOnly moment left_at (device_of old) (device_of new) (meets old)

-- bodies without their numbers
abbrev pub bodies_of : List (ℕ × List ℕ) → List (List ℕ)
bodies_of bodies = map (λ body. body.1) bodies

-- Of the bodies that wait, with a number from this on, these are the first, numbered from it on.
pub record AreFirst (number : ℕ) (bodies : List (List ℕ)) (waits : List (ℕ × List ℕ)) : Type 0 where
  pub others : List (ℕ × List ℕ)
  pub are : numbered_from number waits ≡ enumerate_from number bodies ++ others

-- These bodies are the first of all that wait, numbered from this on.
pub record BeginWith (number : ℕ) (bodies : List (List ℕ)) (waits : List (ℕ × List ℕ))
    : Type 0 where
  pub others : List (ℕ × List ℕ)
  pub are : waits ≡ enumerate_from number bodies ++ others

-- A spool that is in use is as it knows its files, all of which is on the disk, and the bodies at
-- the desk are the first ones that wait.
pub record IsInUse {D : Type 0} (files : D → Disk) (moment : D → ℕ)
    (left_at : D → ℕ → Disk → Type 0) (number : ℕ) (bodies : List (List ℕ)) (spool : Spool D)
    : Type 0 where
  pub settled : IsSettled files moment left_at spool
  pub first : AreFirst number bodies (waiting (files (device_of spool)))
