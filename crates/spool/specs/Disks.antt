-- The files of a spool. (profile)
use Rattle.std.specs.Prelude.{ℕ, List, [], ◌∷◌, ◌++◌, length, map, sum_by}

-- A file: its number, which is its name, and its bytes.
pub record SpoolFile : Type 0 where
  pub number : ℕ
  pub bytes : List ℕ

-- all files of a spool, the oldest first
abbrev pub Disk : Type 0
Disk = List SpoolFile

-- a file without bytes
abbrev pub new_file : ℕ → SpoolFile
new_file number = record { number = number; bytes = [] }

-- a file with more bytes at its end
abbrev pub grown : List ℕ → SpoolFile → SpoolFile
grown more file = record { number = file.number; bytes = file.bytes ++ more }

-- files, the newest with more bytes at its end
abbrev pub grow_last : List ℕ → Disk → Disk
grow_last more [] = []
grow_last more (file ∷ []) = grown more file ∷ []
grow_last more (file ∷ next ∷ disk) = file ∷ grow_last more (next ∷ disk)

-- the numbers of the files
abbrev pub file_numbers : Disk → List ℕ
file_numbers disk = map (λ file. file.number) disk

-- how many bytes the files have together
abbrev pub disk_size : Disk → ℕ
disk_size disk = sum_by (λ file. length file.bytes) disk
