-- What keeps a relay's bodies shows, and what a call makes of it. (profile)
use Rattle.std.specs.Prelude.{◌≡◌, ℕ, ◌+◌, ◌-◌, ◌^◌, min, Bool, List, [], ◌∷◌}
use Rattle.std.specs.Prelude.{◌++◌, if◌then◌else◌, Option, IfSome, length}
use Rattle.model_body.specs.Histories as events
use Rattle.model_body.specs.Histories.{BodyEvent}
use Rattle.model_body.specs.Desks.{BodyDesk, Does, HasRoom, IsDesk, after}
use Rattle.std.specs.List.{enumerate_from}
use Rattle.spool.specs.Disks.{Disk}
use Rattle.spool.specs.Spools.{HasNoRoom, LeftByNote, LeftByPut, numbered_from}
use Rattle.spool.specs.Settled.{IsSettled, device_of, limit_of}
use Rattle.spool.specs.declared.state.Spool.{Spool}
use Rattle.relay_store.specs.Fronts.{bodies_of, spool_next, spool_waiting}
use Rattle.relay_queue.specs.declared.report.Amounts.{Amounts}
use Rattle.relay_queue.specs.declared.report.Report.{Report}
use Rattle.relay_store.specs.declared.counts.Counts.{Counts}

-- A desk shows what some events made of it, each of which was allowed.
pub record HasHistory (desk : BodyDesk) : Type 0 where
  pub events : List BodyEvent
  pub is : IsDesk events desk

-- The desk; whether bodies are kept in a spool; the spool, where it is there; whether it failed, so
-- that it has to be opened again. All bodies of the spool with a number below `first` ended; the
-- next body gets `next`; those with a number below `start` were received by an earlier run.
pub record Kept (D : Type 0) : Type 0 where
  pub desk : BodyDesk
  pub is_spooled : Bool
  pub spool : Option (Spool D)
  pub has_failed : Bool
  pub first : ℕ
  pub next : ℕ
  pub start : ℕ
  pub counts : Counts

-- the bodies that wait in the spool and haven't ended, in order
abbrev pub remaining_in : {D : Type 0} → (D → Disk) → Kept D → List (List ℕ)
remaining_in files kept = bodies_of (numbered_from kept.first (spool_waiting files kept.spool))

-- ---- counts

-- a count of 64 bits, which stops at its greatest number
abbrev pub capped : ℕ → ℕ
capped n = min n (2 ^ 64 - 1)

-- The counts, with so many more spans that were received.
abbrev pub with_received : ℕ → Counts → Counts
with_received spans counts =
    record counts { received_spans = capped (counts.received_spans + spans) }

-- With one more batch that was taken to be sent.
abbrev pub with_attempt : Counts → Counts
with_attempt counts = record counts { attempts = capped (counts.attempts + 1) }

-- With so many more spans that are lost, or were delivered but for so many that were rejected.
abbrev pub with_ended : Bool → ℕ → ℕ → Counts → Counts
with_ended is_loss spans rejected counts =
    if is_loss then record counts { lost_spans = capped (counts.lost_spans + spans) }
    else record counts {
      delivered_spans = capped (counts.delivered_spans + (spans - rejected));
      rejected_spans = capped (counts.rejected_spans + rejected);
    }

-- With the bodies that were delivered from a desk, or lost at it, which is no longer there.
abbrev pub with_desk : ℕ → ℕ → Counts → Counts
with_desk delivered lost counts = record counts {
  delivered = capped (counts.delivered + delivered);
  lost = capped (counts.lost + lost);
}

-- ---- a body that is kept

-- A body that has room is kept at the desk, after the others, with so many spans, and nothing else
-- is changed.
pub record Admits {D : Type 0} (body : List ℕ) (spans : ℕ) (old new : Kept D) : Type 0 where
  pub room : HasRoom old.desk body
  pub only : new ≡ record old {
    desk = after (events.admitted body) old.desk;
    counts = with_received spans old.counts;
  }
  pub history : Does (events.admitted body) old.desk new.desk

-- A body waits in the spool, after the others, under the number that the next body got, and what
-- waits is on the disk.
pub record Puts {D : Type 0} (files : D → Disk) (moment : D → ℕ)
    (left_at : D → ℕ → Disk → Type 0) (body : List ℕ) (old new : Option (Spool D)) : Type 0 where
  pub number : ℕ
  pub number_is : number ≡ spool_next files old
  pub next_is : spool_next files new ≡ number + 1
  pub waits : spool_waiting files new ≡ spool_waiting files old ++ (number, body) ∷ []
  pub settled : IfSome new (IsSettled files moment left_at)

-- Bodies wait in the spool, after the others, under numbers from the one on that the next body got,
-- and what waits is on the disk.
pub record PutsAll {D : Type 0} (files : D → Disk) (moment : D → ℕ)
    (left_at : D → ℕ → Disk → Type 0) (bodies : List (List ℕ)) (old new : Option (Spool D))
    : Type 0 where
  pub first : ℕ
  pub first_is : first ≡ spool_next files old
  pub next_is : spool_next files new ≡ first + length bodies
  pub waits : spool_waiting files new ≡ spool_waiting files old ++ enumerate_from first bodies
  pub settled : IfSome new (IsSettled files moment left_at)

-- A body waits in the spool, under a number, after the others that waited, with those that were put
-- with it before and after it, and what waits is on the disk.
pub record PutsAmong {D : Type 0} (files : D → Disk) (moment : D → ℕ)
    (left_at : D → ℕ → Disk → Type 0) (body : List ℕ) (old new : Option (Spool D)) : Type 0 where
  pub number : ℕ
  pub before : List (ℕ × List ℕ)
  pub later : List (ℕ × List ℕ)
  pub waits : spool_waiting files new
      ≡ spool_waiting files old ++ (before ++ (number, body) ∷ later)
  pub settled : IfSome new (IsSettled files moment left_at)

-- what a crash leaves of a spool while these bodies are put into it
abbrev pub LeftByPuts : {D : Type 0} → (D → Disk) → List (List ℕ) → Spool D → Disk → Type 0
LeftByPuts files bodies spool left =
    LeftByPut (files (device_of spool)) bodies (limit_of spool) left

-- what a crash leaves of a spool while it is noted that all bodies with lower numbers ended
abbrev pub LeftByNotes : {D : Type 0} → (D → Disk) → ℕ → Spool D → Disk → Type 0
LeftByNotes files number spool left = LeftByNote (files (device_of spool)) number left

-- Bodies have no room in a spool.
abbrev pub AreFull : {D : Type 0} → (D → Disk) → List (List ℕ) → Option (Spool D) → Type 0
AreFull files bodies spool =
    IfSome spool (λ s. HasNoRoom (files (device_of s)) bodies (limit_of s))

-- A body has no room in a spool.
abbrev pub IsFull : {D : Type 0} → (D → Disk) → List ℕ → Option (Spool D) → Type 0
IsFull files body spool = AreFull files (body ∷ []) spool

-- ---- bodies that are read from a spool

-- Some of these bodies, the first ones, are kept at a desk, after those that it had. (profile)
pub record AdmitsFirst (bodies : List (List ℕ)) (old new : BodyDesk) : Type 0 where
  pub admitted : List (List ℕ)
  pub others : List (List ℕ)
  pub all : bodies ≡ admitted ++ others
  pub desk : new ≡ record old {
    kept = old.kept ++ admitted;
    admitted = old.admitted + length admitted;
  }
  pub history : HasHistory old → HasHistory new

-- ---- reports

-- How many bodies are kept: those of the desk, or all that wait in the spool.
abbrev pub kept_count : {D : Type 0} → Kept D → ℕ
kept_count kept =
    if kept.is_spooled then kept.next - kept.first else length kept.desk.kept

-- What became of the bodies: each that was received was delivered, is lost, or is kept.
pub record AreBodies {D : Type 0} (kept : Kept D) (bodies : Amounts) : Type 0 where
  pub delivered : bodies.delivered ≡ capped (kept.counts.delivered + kept.desk.delivered)
  pub lost : bodies.lost ≡ capped (kept.counts.lost + kept.desk.lost)
  pub kept_are : bodies.kept ≡ kept_count kept
  pub sum : bodies.received ≡ capped (bodies.delivered + bodies.lost + bodies.kept)

-- What is reported of what keeps bodies.
pub record IsReport {D : Type 0} (kept : Kept D) (report : Report) : Type 0 where
  pub bodies : AreBodies kept report.bodies
  pub received_spans : report.spans.received ≡ kept.counts.received_spans
  pub delivered_spans : report.spans.delivered ≡ kept.counts.delivered_spans
  pub lost_spans : report.spans.lost ≡ kept.counts.lost_spans
  pub rejected_spans : report.rejected_spans ≡ kept.counts.rejected_spans
  pub unwritten_names : report.unwritten_names ≡ kept.counts.unwritten_names
  pub refusals : report.refusals ≡ kept.counts.refusals
  pub attempts : report.attempts ≡ kept.counts.attempts
  pub failed : report.has_failed ≡ kept.has_failed
