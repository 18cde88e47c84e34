-- The bytes of a file of a spool: records, one after the other. (profile)
use Rattle.std.specs.Prelude.{ℕ, zero, suc, ◌+◌, ◌^◌, ◌<◌, ◌==◌, nat_lt, nat_le, Bool}
use Rattle.std.specs.Prelude.{◌&&◌, ◌||◌, not, false, List, [], ◌∷◌, ◌++◌, length, take, drop}
use Rattle.std.specs.Prelude.{flat_map}
use Rattle.std.specs.Prelude.{filter_map, Option, Some, None, if◌then◌else◌}
use Rattle.std.specs.Option.{option_map}
use Rattle.std.specs.Int.{w32, w64, to_le_bytes, from_le_bytes}
use Rattle.model_deflate.specs.Crc.{crc32}

-- ---- a record

-- A record of some content: the content's length and its CRC-32, four bytes each, the lowest byte
-- first, and then the content.
unfoldable pub record_bytes : List ℕ → List ℕ
record_bytes content =
    to_le_bytes w32 (length content) ++ (to_le_bytes w32 (crc32 content) ++ content)

-- A record can have this content: it has a byte, and its length and its check fit four bytes.
pub record IsContent (content : List ℕ) : Type 0 where
  pub some : 0 < length content
  pub short : length content < 2 ^ 32
  pub check : crc32 content < 2 ^ 32

-- records of these contents
abbrev pub spelled : List (List ℕ) → List ℕ
spelled contents = flat_map record_bytes contents

-- ---- what bytes begin with

-- the length that bytes begin with
unfoldable pub length_at : List ℕ → ℕ
length_at bytes = from_le_bytes w32 (take 4 bytes)

-- the content of the record that bytes begin with, if they begin with one
unfoldable pub content_at : List ℕ → List ℕ
unfolding length_at
content_at bytes = take (length_at bytes) (drop 8 bytes)

-- the bytes after it
unfoldable pub after_at : List ℕ → List ℕ
unfolding length_at
after_at bytes = drop (8 + length_at bytes) bytes

-- Whether bytes begin with a record: with as many bytes as its length says, at least one, whose
-- check is the one that is there.
unfoldable pub is_record_at : List ℕ → Bool
unfolding length_at content_at
is_record_at bytes =
    nat_lt 0 (length_at bytes) && (nat_le (8 + length_at bytes) (length bytes)
    && (from_le_bytes w32 (take 4 (drop 4 bytes)) == crc32 (content_at bytes)))

-- ---- a damaged record

-- Whether bytes that begin with no record are those of a damaged one which is skipped: the record
-- after it, by its length, checks.
unfoldable pub is_skipped_at : List ℕ → Bool
unfolding length_at after_at is_record_at
is_skipped_at bytes = nat_lt 0 (length_at bytes) && is_record_at (after_at bytes)

-- Whether the content of a damaged record kept a body: unless it is as long as that of a note, and
-- doesn't begin as one with a body.
abbrev pub kept_body : List ℕ → Bool
kept_body [] = false
kept_body (kind ∷ bytes) = (kind == 1) || not (length bytes == 8)

-- what is known of a damaged record's content: that it kept a body, or nothing
abbrev pub damaged_content : List ℕ → List (Option (List ℕ))
damaged_content content = if kept_body content then None ∷ [] else []

-- ---- all records

-- the contents of up to so many records that are read of bytes
unfoldable pub contents_by : ℕ → List ℕ → List (Option (List ℕ))
contents_by zero bytes = []
contents_by (suc n) bytes =
    if is_record_at bytes then Some (content_at bytes) ∷ contents_by n (after_at bytes)
    else if is_skipped_at bytes
    then damaged_content (content_at bytes) ++ contents_by n (after_at bytes) else []

-- the bytes that are not read
unfoldable pub rest_by : ℕ → List ℕ → List ℕ
rest_by zero bytes = bytes
rest_by (suc n) bytes =
    if is_record_at bytes then rest_by n (after_at bytes)
    else if is_skipped_at bytes
    then take (8 + length_at bytes) bytes ++ rest_by n (after_at bytes) else bytes

-- The contents of the records of a file, up to where it goes on with neither a record nor one that
-- is skipped; None for one that is skipped and kept a body. No record is shorter than a byte, so
-- there are no more than the bytes are.
unfoldable pub contents : List ℕ → List (Option (List ℕ))
unfolding contents_by
contents bytes = contents_by (length bytes) bytes

-- The bytes that are not read: those of records that are skipped, and, at the end, those of a
-- record that is cut short, or is damaged and isn't skipped, and of what is after it.
unfoldable pub rest : List ℕ → List ℕ
unfolding rest_by
rest bytes = rest_by (length bytes) bytes

-- ---- contents

-- The content that keeps a body: 1, and the body.
abbrev pub body_content : List ℕ → List ℕ
body_content body = 1 ∷ body

-- The content that notes that all bodies with lower numbers were delivered: 2, and the number in
-- eight bytes, the lowest first.
abbrev pub note_content : ℕ → List ℕ
note_content number = 2 ∷ to_le_bytes w64 number

-- how many bytes a note takes, with its record
abbrev pub note_size : ℕ
note_size = 17

-- the body of a content, if it keeps one
abbrev pub body_of : List ℕ → Option (List ℕ)
body_of [] = None
body_of (kind ∷ bytes) = if kind == 1 then Some bytes else None

-- the number of a content, if it notes one
abbrev pub note_of : List ℕ → Option ℕ
note_of [] = None
note_of (kind ∷ bytes) =
    if (kind == 2) && (length bytes == 8) then Some (from_le_bytes w64 bytes) else None

-- the body of a record that was read, None for one that is damaged; nothing if it kept none
abbrev pub slot_of : Option (List ℕ) → Option (Option (List ℕ))
slot_of None = Some None
slot_of (Some content) = option_map Some (body_of content)

-- the number that such a record notes, if it does
abbrev pub noted_by : Option (List ℕ) → Option ℕ
noted_by None = None
noted_by (Some content) = note_of content

-- the bodies of records, in order, None for a damaged one
abbrev pub bodies : List (Option (List ℕ)) → List (Option (List ℕ))
bodies contents = filter_map slot_of contents

-- the numbers that records note, in order
abbrev pub notes : List (Option (List ℕ)) → List ℕ
notes contents = filter_map noted_by contents

-- ---- numbers

-- Bodies with their numbers, which go from this one on. A damaged body has one too.
abbrev pub numbered : ℕ → List (Option (List ℕ)) → List (ℕ × List ℕ)
numbered n [] = []
numbered n (None ∷ bodies) = numbered (n + 1) bodies
numbered n (Some body ∷ bodies) = (n, body) ∷ numbered (n + 1) bodies

-- one more than some, but none for none
abbrev pub one_more : ℕ → ℕ
one_more zero = zero
one_more (suc n) = suc (suc n)

-- how many numbers bodies take, up to the last one that isn't damaged
abbrev pub span : List (Option (List ℕ)) → ℕ
span [] = 0
span (None ∷ bodies) = one_more (span bodies)
span (Some body ∷ bodies) = suc (span bodies)
