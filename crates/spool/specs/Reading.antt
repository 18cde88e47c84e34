-- What is found as the records of a file are read. (profile)
use Rattle.std.specs.Prelude.{◌≡◌, ℕ, zero, suc, ◌+◌, ◌*◌, ◌<◌, ◌≤◌, max, Bool, List, [], ◌∷◌}
use Rattle.std.specs.Prelude.{◌++◌, length, Option, Some, None, if◌then◌else◌}
use Rattle.spool.specs.Records.{length_at, contents, rest, bodies, notes, damaged_content, span}
use Rattle.spool.specs.Spools.{greatest}
use Rattle.spool.specs.declared.records.FileRecords.{FileRecords}
use Rattle.spool.specs.declared.records.Kept.{Kept}
use Rattle.spool.specs.declared.records.Kept.TheVariants as kept

-- Bytes begin with as many bytes as the length of a record says, at least one.
pub record IsFramed (bytes : List ℕ) : Type 0 where
  pub some : 0 < length_at bytes
  pub there : 8 + length_at bytes ≤ length bytes

-- what is read of a record with this content, which checks or is skipped
abbrev pub read_of : Bool → List ℕ → List (Option (List ℕ))
read_of checks content = if checks then Some content ∷ [] else damaged_content content

-- how many bytes of such a record are not read
abbrev pub unread_of : Bool → List ℕ → ℕ
unread_of checks content = if checks then 0 else 8 + length content

-- Bytes begin with a record of this content, which checks or is skipped, and go on with these.
pub record IsEntry (bytes content after : List ℕ) (checks : Bool) : Type 0 where
  pub contents_are : contents bytes ≡ read_of checks content ++ contents after
  pub rest_is : length (rest bytes) ≡ unread_of checks content + length (rest after)
  pub sized : 8 + length content + length after ≡ length bytes
  pub some : 0 < length content

-- what bodies of these are kept: one, a damaged one, or none
abbrev pub IsKept : Kept → List (Option (List ℕ)) → Type 0
IsKept kept.Body these = (body : List ℕ) × (these ≡ Some body ∷ [])
IsKept kept.Damaged these = these ≡ None ∷ []
IsKept kept.Nothing these = these ≡ []

-- where the last of some bodies ends that begin at a place, or of those before them if it is none
abbrev pub last_end : ℕ → ℕ → ℕ → ℕ
last_end place ends zero = ends
last_end place ends (suc n) = place + suc n

-- Where the last body ends that isn't damaged, where these go on from a place, and before them the
-- last one ends so.
abbrev pub span_on : ℕ → ℕ → List (Option (List ℕ)) → ℕ
span_on place ends bodies = last_end place ends (span bodies)

-- What was found in the records of bytes up to where these bytes are left.
pub record IsRead (bytes left : List ℕ) (found : FileRecords) : Type 0 where
  pub bodies_are : span_on found.place found.bodies (bodies (contents left))
      ≡ span (bodies (contents bytes))
  pub notes_are : max found.done (greatest (notes (contents left)))
      ≡ greatest (notes (contents bytes))
  pub rest_is : found.rest + length (rest left) ≡ length (rest bytes)
  pub unread : found.rest + length left ≤ length bytes
  pub few : 9 * found.place + length left ≤ length bytes
  pub within : found.bodies ≤ found.place
