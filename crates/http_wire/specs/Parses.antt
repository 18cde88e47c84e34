-- What the parts of a body in chunks are, as they are read.
use Rattle.std.specs.Prelude.{◌≡◌, ◌≢◌, ℕ, ◌<◌, ◌≤◌, ◌⊎◌, ⊤, Bool, true, false, List, [], ◌∷◌, ◌++◌}
use Rattle.std.specs.Prelude.{length}
use Rattle.std.specs.Prelude.{Option, Some, None, Result, Ok, Err}
use Rattle.std.specs.Io.KnownBytes.{IsAtEnd}
use Rattle.httparse.specs.Ascii.{crlf_bytes}
use Rattle.httparse.specs.Grammar.{ChunkLine, ReadsChunkLine, print_chunk_line, chunk_size}
use Rattle.httparse.specs.Grammar.{HasNoChunkLine, NeverHasChunkLine, MayBecomeChunkLine}
use Rattle.httparse.specs.Grammar.{Field, LineEnd, ReadsSection}
use Rattle.httparse.specs.Grammar.{HasNoSection, NeverHasSection, MayBecomeSection}
use Rattle.httparse.specs.Spans.{SectionExceeds, SectionOverflows}
use Rattle.http_wire.specs.declared.fault.HttpFault.{HttpFault}
use Rattle.http_wire.specs.declared.fault.HttpFault.TheVariants as faults
use Rattle.http_wire.specs.Chunks.{IsLine, ended_lines}

-- the text is a chunk's line that says that size
pub record FindsLine (most : ℕ) (text : List ℕ) (size : ℕ) : Type 0 where
  pub line : ChunkLine
  pub within : IsLine most line
  pub whole : text ≡ print_chunk_line line
  pub says : size ≡ chunk_size line

-- what a parse of a line's text says
abbrev pub ParsesLine : List ℕ → Result (Option ℕ) HttpFault → Type 0
ParsesLine text (Ok (Some size)) =
    (line : ChunkLine) × (rest : List ℕ) × ReadsChunkLine text line rest × (size ≡ chunk_size line)
ParsesLine text (Ok None) = HasNoChunkLine text × MayBecomeChunkLine text
ParsesLine text (Err faults.BadChunk) = NeverHasChunkLine text
ParsesLine text (Err faults.Ended) = ⊥
ParsesLine text (Err faults.Device) = ⊥
ParsesLine text (Err faults.BadHead) = ⊥
ParsesLine text (Err faults.BadLength) = ⊥
ParsesLine text (Err faults.TooLarge) = ⊥
ParsesLine text (Err faults.OutOfMemory) = ⊥

-- the bytes ended after the text of a line, which can begin one or not
pub data IsStoppedLine (text : List ℕ) (answer : HttpFault) : Type 0 where
  unfinished : MayBecomeChunkLine text → answer ≡ faults.Ended → IsStoppedLine text answer
  bad : NeverHasChunkLine text → answer ≡ faults.BadChunk → IsStoppedLine text answer

-- this number of bytes was taken, or fewer for this cause
abbrev pub IsExactly : ℕ → List ℕ → Option (List ℕ) → Type 0 → Result ⊤ HttpFault → Type 0
IsExactly size taken left failed (Ok done) = length taken ≡ size
IsExactly size taken left failed (Err faults.Ended) = IsAtEnd left × (length taken < size)
IsExactly size taken left failed (Err faults.Device) = failed × (length taken < size)
IsExactly size taken left failed (Err faults.OutOfMemory) =
    (0 < length taken) × (length taken ≤ size)
IsExactly size taken left failed (Err faults.BadHead) = ⊥
IsExactly size taken left failed (Err faults.BadLength) = ⊥
IsExactly size taken left failed (Err faults.BadChunk) = ⊥
IsExactly size taken left failed (Err faults.TooLarge) = ⊥

-- what a parse of trailers' text says, with room for this number of fields
abbrev pub ParsesTrailers : List ℕ → ℕ → Result Bool HttpFault → Type 0
ParsesTrailers text room (Ok true) =
    (fields : List Field) × (last : LineEnd) × (rest : List ℕ)
    × ReadsSection text fields last rest × (length fields ≤ room)
ParsesTrailers text room (Ok false) = HasNoSection text × MayBecomeSection text
ParsesTrailers text room (Err faults.BadChunk) =
    NeverHasSection text ⊎ (SectionOverflows room text × SectionExceeds room text)
ParsesTrailers text room (Err faults.Ended) = ⊥
ParsesTrailers text room (Err faults.Device) = ⊥
ParsesTrailers text room (Err faults.BadHead) = ⊥
ParsesTrailers text room (Err faults.BadLength) = ⊥
ParsesTrailers text room (Err faults.TooLarge) = ⊥
ParsesTrailers text room (Err faults.OutOfMemory) = ⊥

-- the bytes ended after the text of trailers, which can begin some or not
pub data IsStoppedTrailers (text : List ℕ) (room : ℕ) (answer : HttpFault) : Type 0 where
  unfinished : MayBecomeSection text → answer ≡ faults.Ended → IsStoppedTrailers text room answer
  bad : NeverHasSection text → answer ≡ faults.BadChunk → IsStoppedTrailers text room answer
  over : room < ended_lines text → answer ≡ faults.BadChunk → IsStoppedTrailers text room answer

-- data of that size and CR LF were taken, and the data was put after the bytes
pub record TakesData (size : ℕ) (taken before after : List ℕ) : Type 0 where
  pub added : List ℕ
  pub size_of : length added ≡ size
  pub whole : taken ≡ added ++ crlf_bytes
  pub put : after ≡ before ++ added

-- the byte was taken, or another or none for this cause
abbrev pub IsExpected : ℕ → List ℕ → Option (List ℕ) → Type 0 → Result ⊤ HttpFault → Type 0
IsExpected byte taken left failed (Ok done) = taken ≡ byte ∷ []
IsExpected byte taken left failed (Err faults.Ended) = IsAtEnd left × (taken ≡ [])
IsExpected byte taken left failed (Err faults.Device) = failed × (taken ≡ [])
IsExpected byte taken left failed (Err faults.BadChunk) =
    (other : ℕ) × (taken ≡ other ∷ []) × (other ≢ byte)
IsExpected byte taken left failed (Err faults.BadHead) = ⊥
IsExpected byte taken left failed (Err faults.BadLength) = ⊥
IsExpected byte taken left failed (Err faults.TooLarge) = ⊥
IsExpected byte taken left failed (Err faults.OutOfMemory) = ⊥
