-- What a crash may leave of the files of a spool. (profile)
use Rattle.std.specs.Prelude.{◌≡◌, ◌⊎◌, ℕ, ◌≤◌, List, [], ◌∷◌, ◌++◌, take, drop}
use Rattle.spool.specs.Disks.{Disk, new_file, grow_last}

-- ---- what is left of one call

-- a file was made, or it wasn't
abbrev pub Created : ℕ → Disk → Disk → Type 0
Created number old left = (left ≡ old) ⊎ (left ≡ old ++ new_file number ∷ [])

-- some of the bytes, the first ones, were added to the newest file: none, all, or as many as came
-- to the disk
abbrev pub Appended : List ℕ → Disk → Disk → Type 0
Appended bytes old left = (n : ℕ) × (left ≡ grow_last (take n bytes) old)

-- the oldest file was removed, or it wasn't
abbrev pub Removed : Disk → Disk → Type 0
Removed old left = (left ≡ old) ⊎ (left ≡ drop 1 old)

-- What a crash leaves after a call, where it might have left these files before the call: one of
-- them, with what the call did to it.
abbrev pub After : (Disk → Disk → Type 0) → (Disk → Type 0) → Disk → Type 0
After call before left = (old : Disk) × before old × call old left

-- a crash leaves these files and no others
abbrev pub Only : Disk → (Disk → Type 0) → Type 0
Only disk outcomes = (left : Disk) → outcomes left → left ≡ disk

-- ---- moments

-- From one state of a device to a later one, a crash at any moment leaves files that meet this, and
-- what a crash at an earlier moment might have left is as it was. The moments are numbered, and a
-- state has the number of its moment.
pub record LeavesOnly {D : Type 0} (moment : D → ℕ) (left_at : D → ℕ → Disk → Type 0) (old new : D)
    (meets : Disk → Type 0) : Type 0 where
  pub later : moment old ≤ moment new
  pub past : (t : ℕ) (left : Disk) → t ≤ moment old → left_at new t left → left_at old t left
  pub each : (t : ℕ) (left : Disk) → moment old ≤ t → t ≤ moment new → left_at new t left
      → meets left
