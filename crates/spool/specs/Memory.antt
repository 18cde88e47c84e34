-- The files of a device in memory. (profile)
use Rattle.std.specs.Prelude.{◌≡◌, ℕ, List, [], ◌∷◌, ◌++◌, map, Some, slice_get, Vec}
use Rattle.std.specs.declared.alloc.Global.{Global}
use Rattle.spool.specs.Disks.{SpoolFile, Disk}
use Rattle.spool.specs.declared.memory.MemoryFile.{MemoryFile}
use Rattle.spool.specs.declared.memory.MemoryDevice.{MemoryDevice}

-- a file
abbrev pub file_view : MemoryFile → SpoolFile
file_view file = record { number = file.number; bytes = file.bytes.items }

-- files
abbrev pub files_view : List MemoryFile → Disk
files_view files = map file_view files

-- what was there at each moment, the last one now
abbrev pub moments : List Disk → Disk → List Disk
moments past now = past ++ now ∷ []

-- the earlier ones
abbrev pub past_view : List (Vec MemoryFile Global) → List Disk
past_view past = map (λ files. files_view files.items) past

-- what a crash left, or leaves
abbrev pub was_left : MemoryDevice → ℕ → Disk → Type 0
was_left device moment left =
    slice_get (moments (past_view device.past.items) (files_view device.files.items)) moment
    ≡ Some left
