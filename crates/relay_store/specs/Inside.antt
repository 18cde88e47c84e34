-- What the fields of what keeps bodies show, and what is true of them.
use Rattle.std.specs.Prelude.{◌≡◌, ℕ, ◌+◌, ◌^◌, ◌<◌, ◌≤◌, true, false, IfSome, IsSome, length}
use Rattle.spool.specs.Disks.{Disk}
use Rattle.relay_store.specs.Fronts.{IsInUse, spool_next}
use Rattle.relay_store.specs.Kept.{HasHistory, Kept}
use Rattle.relay_store.specs.declared.keeping.Keeping.TheInside.{Inside}

abbrev pub kept_view : {D : Type 0} → Inside D → Kept D
kept_view k = record {
  desk = k.desk;
  is_spooled = k.is_spooled;
  spool = k.spool;
  has_failed = k.has_failed;
  first = k.first;
  next = k.next;
  start = k.start;
  counts = k.counts;
}

-- The spool is there, and `first` isn't above `next`, which is the number that its next body gets.
abbrev pub IsNumbered : {D : Type 0} → (D → Disk) → Inside D → Type 0
IsNumbered files k =
    IsSome k.spool × (k.first ≤ k.next) × (k.next ≡ spool_next files k.spool)

-- What is true of the fields: the desk shows what some events made of it; unless it failed, a spool
-- of a device that is known is there, in use, and its numbers are known; and the numbers of bodies
-- of a spool are below 2^64.
pub record IsSound {D : Type 0} (known : Type 0) (files : D → Disk) (moment : D → ℕ)
    (left_at : D → ℕ → Disk → Type 0) (k : Inside D) : Type 0 where
  pub history : HasHistory k.desk
  pub in_use : known → k.is_spooled ≡ true → k.has_failed ≡ false
      → IfSome k.spool (IsInUse files moment left_at k.first k.desk.kept)
  pub numbered : known → k.is_spooled ≡ true → k.has_failed ≡ false → IsNumbered files k
  pub numbers : k.is_spooled ≡ true → k.first + length k.desk.kept < 2 ^ 64
