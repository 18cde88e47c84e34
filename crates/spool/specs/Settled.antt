-- What a spool knows of its files between two calls. (profile)
use Rattle.std.specs.Prelude.{◌≡◌, ℕ, ◌+◌, ◌-◌, ◌*◌, ◌<◌, ◌≤◌, List, [], ◌∷◌, ◌++◌, length, map}
use Rattle.std.specs.Prelude.{Option, Some, None, IsSome, min, max, ◌^◌, ◌==◌, if◌then◌else◌, take}
use Rattle.std.specs.Option.{option_to_list}
use Rattle.std.specs.List.{AllByRecursion, enumerate_from}
use Rattle.spool.specs.Disks.{SpoolFile, Disk, grown, grow_last, disk_size}
use Rattle.spool.specs.Crashes.{Only}
use Rattle.spool.specs.Spools.{end_of, done_to, next_number, waiting, waiting_from, CanGrow}
use Rattle.spool.specs.Spools.{notes_in, greatest, Rises}
use Rattle.spool.specs.Records.{IsContent, spelled, body_content, note_content, note_size, rest}
use Rattle.spool.specs.declared.records.WaitingBody.{WaitingBody}
use Rattle.spool.specs.declared.state.Segment.{Segment}
use Rattle.spool.specs.declared.state.Spool.{Spool}

-- the device of a spool
abbrev pub device_of : {D : Type 0} → Spool D → D
device_of spool = spool.device

-- how many bytes the files of a spool may have
abbrev pub limit_of : {D : Type 0} → Spool D → ℕ
limit_of spool = spool.limit

-- bodies that wait, each with its number
abbrev pub waiting_view : List WaitingBody → List (ℕ × List ℕ)
waiting_view bodies = map (λ body. (body.number, body.bytes.items)) bodies

-- what a spool keeps of a file
abbrev pub segment_of : SpoolFile → Segment
segment_of file = record {
  number = file.number;
  «end» = end_of file;
  len = length file.bytes;
  rest = length (rest file.bytes);
}

-- a segment that has grown by so many bytes, and ends before this number
abbrev pub grown_by : ℕ → ℕ → Option Segment → Option Segment
grown_by after len None = None
grown_by after len (Some segment) = Some (record segment {
  «end» = after;
  len = min (segment.len + len) (2 ^ 64 - 1);
})

-- The files of a spool are as it knows them, their numbers rise, and all of that is on the disk.
pub record IsSettled {D : Type 0} (files : D → Disk) (moment : D → ℕ)
    (left_at : D → ℕ → Disk → Type 0) (spool : Spool D) : Type 0 where
  pub segments : spool.older.items ++ option_to_list spool.growing
      ≡ map segment_of (files spool.device)
  pub done : spool.done ≡ done_to (files spool.device)
  pub next : spool.next ≡ next_number (files spool.device)
  pub size : spool.size ≡ disk_size (files spool.device)
  pub grows : IsSome spool.growing → CanGrow (files spool.device)
  pub rises : Rises (files spool.device)
  pub durable : Only (files spool.device) (left_at spool.device (moment spool.device))

-- The same bodies wait, with the same numbers, the files are as large, and their numbers rise if
-- they did.
pub record IsSame (disk left : Disk) : Type 0 where
  pub waits : (number : ℕ) → waiting_from number left ≡ waiting_from number disk
  pub done : done_to left ≡ done_to disk
  pub next : next_number left ≡ next_number disk
  pub size : disk_size left ≡ disk_size disk
  pub rises : Rises disk → Rises left

-- With these bytes at the end of the newest file, the files have this next number, note this number
-- and are as large as that, and the newest file can grow on.
pub record Grows (disk : Disk) (more : List ℕ) (next done size : ℕ) : Type 0 where
  pub can : CanGrow disk
  pub next_is : next ≡ next_number (grow_last more disk)
  pub done_is : done ≡ done_to (grow_last more disk)
  pub size_is : size ≡ disk_size (grow_last more disk)
  pub still : CanGrow (grow_last more disk)
  pub end : end_of (grown more can.last) ≡ next

-- What a crash leaves while the files are rolled over: the same bodies wait, the files are larger
-- by
-- a note at most, and their numbers rise if they did.
pub record IsRolled (disk left : Disk) : Type 0 where
  pub waits : waiting left ≡ waiting disk
  pub size : disk_size left ≤ disk_size disk + note_size
  pub rises : Rises disk → Rises left

-- There is room for so many bytes of so many bodies, after which the files have this size, which is
-- within the limit, and this next number.
pub record IsRoom (disk : Disk) (len count size next limit : ℕ) : Type 0 where
  pub next_is : next ≡ next_number disk + count
  pub size_is : size ≡ disk_size disk + len
  pub within : size + note_size * (next - done_to disk) ≤ limit

-- What a crash leaves while records of bodies are added: what waited, and some of the bodies, the
-- first ones, within the limit.
pub record LeftByAdding (disk : Disk) (bodies : List (List ℕ)) (limit : ℕ) (left : Disk)
    : Type 0 where
  pub count : ℕ
  pub few : count ≤ length bodies
  pub waits : waiting left ≡ waiting disk ++ enumerate_from (next_number disk) (take count bodies)
  pub within : disk_size left ≤ limit
  pub rises : Rises left

-- No body of a file waits, where those with lower numbers were delivered.
abbrev pub IsEnded : ℕ → Segment → Type 0
IsEnded done segment =
    segment.«end» ≤ max done segment.number + (if segment.rest == 0 then 0 else 1)

-- These bytes are the records of bodies, after which the files have this next number and this
-- size, which is within the limit.
pub record IsPut (disk : Disk) (bodies : List (List ℕ)) (more : List ℕ) (next size limit : ℕ)
    : Type 0 where
  pub fits : AllByRecursion IsContent (map body_content bodies)
  pub written : more ≡ spelled (map body_content bodies)
  pub next_is : next ≡ next_number disk + length bodies
  pub size_is : size ≡ disk_size disk + length more
  pub within : size + note_size * (next - done_to disk) ≤ limit

-- These bytes are the record of a note that all bodies below this number were delivered, with which
-- no lower number is noted than before, and after which the files have this size.
pub record IsNote (disk : Disk) (number : ℕ) (more : List ℕ) (size : ℕ) : Type 0 where
  pub later : done_to disk ≤ number
  pub there : number ≤ next_number disk
  pub small : number < 2 ^ 64
  pub fits : IsContent (note_content number)
  pub written : more ≡ spelled (note_content number ∷ [])
  pub size_is : size ≡ disk_size disk + length more

-- the greatest number that the newest file notes
abbrev pub last_done : Disk → ℕ
last_done [] = 0
last_done (file ∷ []) = greatest (notes_in file)
last_done (file ∷ next ∷ disk) = last_done (next ∷ disk)

-- The newest file notes all that is noted.
abbrev pub IsNoted : Disk → Type 0
IsNoted disk = last_done disk ≡ done_to disk

-- The first segment has only bodies that are noted as delivered.
abbrev pub FirstIsDone : List Segment → ℕ → Type 0
FirstIsDone segments done =
    (first : Segment) × (others : List Segment) × (segments ≡ first ∷ others) × (first.«end» ≤ done)

-- The first segment, if there is one, has a body that is not noted as delivered.
abbrev pub FirstIsLeft : List Segment → ℕ → Type 0
FirstIsLeft segments done =
    (first : Segment) (others : List Segment) → segments ≡ first ∷ others → done < first.«end»

-- The same bodies wait, the files are no larger, and their numbers rise if they did.
pub record IsNoLarger (disk left : Disk) : Type 0 where
  pub waits : waiting left ≡ waiting disk
  pub size : disk_size left ≤ disk_size disk
  pub rises : Rises disk → Rises left
