-- What the files of a spool mean. (profile)
use Rattle.std.specs.Prelude.{◌≡◌, ◌⊎◌, ℕ, ◌+◌, ◌-◌, ◌*◌, ◌<◌, ◌≤◌, ◌==◌, max, Bool, List, [], ◌∷◌}
use Rattle.std.specs.Prelude.{◌++◌}
use Rattle.std.specs.Prelude.{length, map, take, flat_map, filter, sum_by, nat_le, true, Option}
use Rattle.std.specs.Prelude.{if◌then◌else◌, Any, ◌^◌}
use Rattle.std.specs.List.{AllByRecursion, enumerate_from}
use Rattle.spool.specs.Disks.{SpoolFile, Disk, disk_size}
use Rattle.spool.specs.Records.{contents, rest, bodies, notes, note_size, spelled, body_content}
use Rattle.spool.specs.Records.{numbered, span}

-- ---- one file

-- the bodies of a file, in order, None for a damaged one
unfoldable pub bodies_in : SpoolFile → List (Option (List ℕ))
bodies_in file = bodies (contents file.bytes)

-- the numbers that a file notes
unfoldable pub notes_in : SpoolFile → List ℕ
notes_in file = notes (contents file.bytes)

-- whether all bytes of a file are records that check
unfoldable pub is_whole : SpoolFile → Bool
is_whole file = length (rest file.bytes) == 0

-- The number after that of a file's last body: they are numbered from the file's own number on.
unfoldable pub bodies_end : SpoolFile → ℕ
unfolding bodies_in
bodies_end file = file.number + span (bodies_in file)

-- The number after those that a file has taken: where it has bytes that aren't read, they count as
-- one more.
unfoldable pub end_of : SpoolFile → ℕ
unfolding bodies_end is_whole
end_of file = bodies_end file + (if is_whole file then 0 else 1)

-- ---- all files

-- the greatest of these, or 0
abbrev pub greatest : List ℕ → ℕ
greatest [] = 0
greatest (x ∷ xs) = max x (greatest xs)

-- All bodies with lower numbers were noted as delivered: the greatest number that is noted.
unfoldable pub done_to : Disk → ℕ
done_to disk = greatest (flat_map notes_in disk)

-- the number that no body has yet, nor a higher one
unfoldable pub next_number : Disk → ℕ
next_number disk = max (done_to disk) (greatest (map end_of disk))

-- those with this number or a higher one
abbrev pub numbered_from : ℕ → List (ℕ × List ℕ) → List (ℕ × List ℕ)
numbered_from number bodies = filter (λ body. nat_le number body.0) bodies

-- the bodies of a file with this number or a higher one, each with its number
unfoldable pub waiting_in : ℕ → SpoolFile → List (ℕ × List ℕ)
waiting_in number file = numbered_from number (numbered file.number (bodies_in file))

-- the same of all files, in order
unfoldable pub waiting_from : ℕ → Disk → List (ℕ × List ℕ)
waiting_from number disk = flat_map (waiting_in number) disk

-- The bodies that wait, each with its number, in order: those that were put and were not noted as
-- delivered.
unfoldable pub waiting : Disk → List (ℕ × List ℕ)
waiting disk = waiting_from (done_to disk) disk

-- how many bytes are not read
unfoldable pub damaged_bytes : Disk → ℕ
damaged_bytes disk = sum_by (λ file. length (rest file.bytes)) disk

-- How many bytes the files have, and may have once more notes were written: each note raises the
-- number up to which all is noted.
unfoldable pub reserved : Disk → ℕ
reserved disk = disk_size disk + note_size * (next_number disk - done_to disk)

-- ---- numbers that rise

-- The bodies of each file have higher numbers than those of the files before it. Damaged bodies at
-- the end of a file, and what isn't read there, don't count here.
abbrev pub Rises : Disk → Type 0
Rises [] = Unit {0}
Rises (file ∷ disk) = AllByRecursion (λ later. bodies_end file ≤ later.number) disk × Rises disk

-- The numbers of these bodies rise. They are no lower than a first one, and below a last one.
abbrev pub AreRising : ℕ → ℕ → List (ℕ × List ℕ) → Type 0
AreRising first last [] = first ≤ last
AreRising first last (body ∷ bodies) = (first ≤ body.0) × AreRising (body.0 + 1) last bodies

-- ---- growth

-- The newest file can grow: all its bytes are records, and the next number is the one after its
-- bodies.
pub record CanGrow (disk : Disk) : Type 0 where
  pub front : Disk
  pub last : SpoolFile
  pub split : disk ≡ front ++ last ∷ []
  pub whole : is_whole last ≡ true
  pub end : end_of last ≡ next_number disk

-- ---- room

-- One of the bodies is too long for a record.
abbrev pub IsOneTooLong : List (List ℕ) → Type 0
IsOneTooLong bodies = Any (λ body. 2 ^ 32 ≤ length body + 1) bodies

-- Bodies have no room: with them, and notes of their deliveries, the files would pass the limit; or
-- there are too many numbers; or one is too long.
abbrev pub HasNoRoom : Disk → List (List ℕ) → ℕ → Type 0
HasNoRoom disk bodies limit =
    (limit < disk_size disk + length (spelled (map body_content bodies))
    + note_size * (next_number disk + length bodies - done_to disk))
    ⊎ ((2 ^ 63 ≤ next_number disk + length bodies) ⊎ IsOneTooLong bodies)

-- Bodies never have room: also where no body waits they would pass the limit, with notes of their
-- deliveries and the note that no other waits; or there are too many numbers; or one is too long.
abbrev pub HasNeverRoom : Disk → List (List ℕ) → ℕ → Type 0
HasNeverRoom disk bodies limit =
    (limit < note_size + length (spelled (map body_content bodies)) + note_size * length bodies)
    ⊎ ((2 ^ 63 ≤ next_number disk + length bodies) ⊎ IsOneTooLong bodies)

-- ---- crashes

-- What a crash during a put leaves: what waited, and some of the bodies, the first ones, none, some
-- or all, each of them whole, with the numbers that they are given. The files stay within the
-- limit, or are larger by a note than they were, and their numbers rise.
pub record LeftByPut (disk : Disk) (bodies : List (List ℕ)) (limit : ℕ) (left : Disk) : Type 0 where
  pub count : ℕ
  pub few : count ≤ length bodies
  pub waits : waiting left ≡ waiting disk ++ enumerate_from (next_number disk) (take count bodies)
  pub within : disk_size left ≤ max limit (disk_size disk + note_size)
  pub rises : Rises left

-- What a crash leaves while it is noted that all bodies with lower numbers were delivered: what
-- waited, with those bodies or without them. The files stay within what was reserved, and their
-- numbers rise.
pub record LeftByNote (disk : Disk) (number : ℕ) (left : Disk) : Type 0 where
  pub waits : (waiting left ≡ waiting disk) ⊎ (waiting left ≡ numbered_from number (waiting disk))
  pub within : disk_size left ≤ reserved disk
  pub rises : Rises left
