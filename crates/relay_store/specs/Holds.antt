-- What is done in a hold of the lock: a step at what is kept then. (profile)
use Rattle.std.specs.Prelude.{◌≡◌, ◌⊎◌, ℕ, ◌<◌, List, true, false}
use Rattle.model_body.specs.Desks.{HasRoom, body_size}
use Rattle.spool.specs.Disks.{Disk}
use Rattle.relay_queue.specs.declared.report.Report.{Report}
use Rattle.relay_store.specs.Kept.{Admits, IsFull, IsReport, Kept, PutsAmong}

-- ---- bodies that are kept

-- In a hold, a body was kept: at the desk, or in the spool, where it is on the disk, alone or with
-- others that were put with it.
pub record KeepsInHold {D : Type 0} (known : Type 0) (files : D → Disk) (moment : D → ℕ)
    (left_at : D → ℕ → Disk → Type 0) (body : List ℕ) : Type 0 where
  pub old : Kept D
  pub new : Kept D
  pub spans : ℕ
  pub admitted : old.is_spooled ≡ false → Admits body spans old new
  pub put : old.is_spooled ≡ true → known → PutsAmong files moment left_at body old.spool new.spool

-- In a hold, a body had no room: at the desk, or in the spool, or it is above the memory that
-- bodies may take.
pub record LacksInHold {D : Type 0} (known : Type 0) (files : D → Disk) (body : List ℕ)
    : Type 0 where
  pub kept : Kept D
  pub no_room : kept.is_spooled ≡ false → ¬ HasRoom kept.desk body
  pub full : kept.is_spooled ≡ true → known
      → (kept.desk.config.memory_bytes < body_size body) ⊎ IsFull files body kept.spool

-- In a hold, a spool that failed was met, or it failed; or, where bodies are kept in memory, all
-- had been given up.
pub record FailsInHold (D : Type 0) : Type 0 where
  pub old : Kept D
  pub new : Kept D
  pub only : new ≡ record old { spool = new.spool; has_failed = new.has_failed }
  pub failed : old.is_spooled ≡ true → new.has_failed ≡ true

-- In a hold, this was reported.
pub record ReportsInHold (D : Type 0) (report : Report) : Type 0 where
  pub kept : Kept D
  pub reported : IsReport kept report
