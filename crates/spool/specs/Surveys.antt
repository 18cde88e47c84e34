-- What is found in the files of a spool as it is opened. (profile)
use Rattle.std.specs.Prelude.{◌≡◌, ℕ, List, [], ◌∷◌, ◌++◌, map, Option}
use Rattle.std.specs.Prelude.{Some, None}
use Rattle.spool.specs.Disks.{Disk, disk_size}
use Rattle.spool.specs.Spools.{bodies_end, end_of, greatest, done_to}
use Rattle.spool.specs.Spools.{damaged_bytes, Rises}
use Rattle.spool.specs.Settled.{segment_of}
use Rattle.spool.specs.declared.state.Segment.{Segment}
use Rattle.spool.specs.declared.opening.Survey.{Survey}

-- what these files are, whose numbers rise
pub record IsSurvey (disk : Disk) (survey : Survey) : Type 0 where
  pub segments : survey.segments.items ≡ map segment_of disk
  pub done : survey.done ≡ done_to disk
  pub bodies : survey.bodies_end ≡ greatest (map bodies_end disk)
  pub ends : survey.last_end ≡ greatest (map end_of disk)
  pub size : survey.size ≡ disk_size disk
  pub damaged : survey.damaged ≡ damaged_bytes disk
  pub rises : Rises disk

-- The last segment is taken out, of a file without bytes whose bodies can begin with this number.
abbrev pub IsSplit : List Segment → List Segment → ℕ → Option Segment → Type 0
IsSplit old new next (Some segment) =
    (old ≡ new ++ segment ∷ []) × (segment.len ≡ 0) × (segment.«end» ≡ next)
IsSplit old new next None = new ≡ old
