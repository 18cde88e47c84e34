-- Files of the worked values, by hand, with the CRC-32 of zlib.
use Rattle.std.specs.Prelude.{ℕ, List, [], ◌∷◌, ◌++◌, take}
use Rattle.spool.specs.Disks.{SpoolFile}

-- the record of the body 7, 8
abbrev pub first : List ℕ
first = 3 ∷ 0 ∷ 0 ∷ 0 ∷ 208 ∷ 173 ∷ 25 ∷ 191 ∷ 1 ∷ 7 ∷ 8 ∷ []

-- the record of the body 9
abbrev pub second : List ℕ
second = 2 ∷ 0 ∷ 0 ∷ 0 ∷ 26 ∷ 155 ∷ 30 ∷ 33 ∷ 1 ∷ 9 ∷ []

-- the record of the note that all bodies below 6 were delivered
abbrev pub note : List ℕ
note = 9 ∷ 0 ∷ 0 ∷ 0 ∷ 175 ∷ 53 ∷ 144 ∷ 14 ∷ 2 ∷ 6 ∷ 0 ∷ 0 ∷ 0 ∷ 0 ∷ 0 ∷ 0 ∷ 0 ∷ []

-- the same record of the body 7, 8, with another bit in its body
abbrev pub flipped : List ℕ
flipped = 3 ∷ 0 ∷ 0 ∷ 0 ∷ 208 ∷ 173 ∷ 25 ∷ 191 ∷ 1 ∷ 7 ∷ 9 ∷ []

-- a file of two bodies
abbrev pub old_file : SpoolFile
old_file = record { number = 5; bytes = first ++ second }

-- a file of a body and a note, whose end is cut short
abbrev pub torn_file : SpoolFile
torn_file = record { number = 9; bytes = second ++ note ++ take 9 second }

-- the same record, with another bit in its length
abbrev pub longer : List ℕ
longer = 7 ∷ 0 ∷ 0 ∷ 0 ∷ 208 ∷ 173 ∷ 25 ∷ 191 ∷ 1 ∷ 7 ∷ 8 ∷ []

-- the record of the note, with another bit in its number
abbrev pub flipped_note : List ℕ
flipped_note =
    9 ∷ 0 ∷ 0 ∷ 0 ∷ 175 ∷ 53 ∷ 144 ∷ 14 ∷ 2 ∷ 7 ∷ 0 ∷ 0 ∷ 0 ∷ 0 ∷ 0 ∷ 0 ∷ 0 ∷ []

-- a file of a body, a body that is damaged, and a note
abbrev pub lost_file : SpoolFile
lost_file = record { number = 30; bytes = second ++ (flipped ++ note) }

-- a file of which the first record is damaged
abbrev pub damaged_file : SpoolFile
damaged_file = record { number = 20; bytes = flipped ++ first }

-- a file of a body, with the first number after the body of the torn file
abbrev pub touching_file : SpoolFile
touching_file = record { number = 10; bytes = first }

-- a file of a body, and of a note that is cut short
abbrev pub torn_note_file : SpoolFile
torn_note_file = record { number = 5; bytes = first ++ take 16 note }

-- a file of a body, with the first number after the body of that file, which is the number of the
-- old file's second body
abbrev pub sixth_file : SpoolFile
sixth_file = record { number = 6; bytes = second }
