-- A body in chunks (RFC 9112, section 7.1): its lines and its trailers are what `httparse` takes.
use Rattle.std.specs.Prelude.{◌≡◌, ℕ, ◌+◌, ◌<◌, ◌≤◌, ◌⊎◌, ◌==◌, if◌then◌else◌, List, [], ◌∷◌, ◌++◌}
use Rattle.std.specs.Prelude.{length}
use Rattle.std.specs.Prelude.{All, Option, Result, Ok, Err}
use Rattle.std.specs.List.{flat_map}
use Rattle.std.specs.Io.KnownBytes.{IsAtEnd}
use Rattle.httparse.specs.Ascii.{line_feed, crlf_bytes}
use Rattle.httparse.specs.Grammar.{ChunkLine, IsChunkLine, print_chunk_line, chunk_size}
use Rattle.httparse.specs.Grammar.{HasNoChunkLine, NeverHasChunkLine, MayBecomeChunkLine}
use Rattle.httparse.specs.Grammar.{Field, IsField, LineEnd, print_section}
use Rattle.httparse.specs.Grammar.{NeverHasSection, MayBecomeSection}
use Rattle.http_wire.specs.declared.fault.HttpFault.{HttpFault}
use Rattle.http_wire.specs.declared.fault.HttpFault.TheVariants as faults
use Rattle.http_wire.specs.declared.limits.HeadLimits.{HeadLimits}

-- a chunk: its line, and its data
pub record Chunk : Type 0 where
  pub line : ChunkLine
  pub bytes : List ℕ

-- a chunk's bytes: its data is between its line and CR LF
abbrev pub print_chunk : Chunk → List ℕ
print_chunk chunk = print_chunk_line chunk.line ++ (chunk.bytes ++ crlf_bytes)

-- a chunk's line within the limit of bytes (the limit, which is a head's: profile)
pub record IsLine (most : ℕ) (line : ChunkLine) : Type 0 where
  pub valid : IsChunkLine line
  pub bytes : length (print_chunk_line line) ≤ most

-- a chunk that isn't the last one: it has as many bytes as its line says
pub record IsChunk (most : ℕ) (chunk : Chunk) : Type 0 where
  pub line : IsLine most chunk.line
  pub some : 0 < chunk_size chunk.line
  pub size : length chunk.bytes ≡ chunk_size chunk.line

-- the data of the chunks, one after another
abbrev pub data_of : List Chunk → List ℕ
data_of chunks = flat_map (λ (chunk : Chunk). chunk.bytes) chunks

-- the fields after the last chunk, and the empty line that ends them
pub record Trailers : Type 0 where
  pub fields : List Field
  pub last : LineEnd

-- their bytes
abbrev pub print_trailers : Trailers → List ℕ
print_trailers trailers = print_section trailers.fields trailers.last

-- trailers within the limits of bytes and of fields (the limits, which are a head's: profile)
pub record IsTrailers (limits : HeadLimits) (trailers : Trailers) : Type 0 where
  pub valid : All IsField trailers.fields
  pub few : length trailers.fields ≤ limits.fields
  pub bytes : length (print_trailers trailers) ≤ limits.head

-- no front of the text is such trailers
abbrev pub HasNoTrailers : HeadLimits → List ℕ → Type 0
HasNoTrailers limits text =
    (trailers : Trailers) (rest : List ℕ)
    → ¬ (IsTrailers limits trailers × (text ≡ print_trailers trailers ++ rest))

-- how many lines have ended in the text
abbrev pub ended_lines : List ℕ → ℕ
ended_lines [] = 0
ended_lines (byte ∷ text) = (if byte == line_feed then 1 else 0) + ended_lines text

-- the text came where a chunk's line was due, then these bytes were left, and no line came for this
-- cause: a text that can't begin one, or that is as long as the limit, is bad
abbrev pub LacksLine : ℕ → List ℕ → Option (List ℕ) → Type 0 → HttpFault → Type 0
LacksLine most text left failed faults.Ended =
    IsAtEnd left × HasNoChunkLine text × MayBecomeChunkLine text × (length text < most)
LacksLine most text left failed faults.Device =
    failed × HasNoChunkLine text × (length text < most)
LacksLine most text left failed faults.BadChunk =
    (length text ≤ most)
    × (NeverHasChunkLine text ⊎ (HasNoChunkLine text × (length text ≡ most)))
LacksLine most text left failed faults.OutOfMemory = HasNoChunkLine text × (length text < most)
LacksLine most text left failed faults.BadHead = ⊥
LacksLine most text left failed faults.BadLength = ⊥
LacksLine most text left failed faults.TooLarge = ⊥

-- bytes can follow that make the text data of that size, and CR LF
abbrev pub MayBecomeData : ℕ → List ℕ → Type 0
MayBecomeData size text =
    (more : List ℕ) × (added : List ℕ)
    × (length added ≡ size) × (text ++ more ≡ added ++ crlf_bytes)

-- the text came where a chunk's data and its CR LF were due, and they didn't come for this cause
abbrev pub LacksData : ℕ → List ℕ → Option (List ℕ) → Type 0 → HttpFault → Type 0
LacksData size text left failed faults.Ended =
    IsAtEnd left × MayBecomeData size text × (length text < size + 2)
LacksData size text left failed faults.Device = failed × (length text < size + 2)
LacksData size text left failed faults.BadChunk =
    (¬ (MayBecomeData size text)) × (length text ≤ size + 2)
LacksData size text left failed faults.OutOfMemory = (0 < length text) × (length text ≤ size)
LacksData size text left failed faults.BadHead = ⊥
LacksData size text left failed faults.BadLength = ⊥
LacksData size text left failed faults.TooLarge = ⊥

-- the text came where trailers were due, and none came for this cause: a text that can't begin any,
-- that is as long as the limit, or that has more lines than the limit of fields, is bad
abbrev pub LacksTrailers : HeadLimits → List ℕ → Option (List ℕ) → Type 0 → HttpFault → Type 0
LacksTrailers limits text left failed faults.Ended =
    IsAtEnd left × HasNoTrailers limits text × MayBecomeSection text
    × (length text < limits.head) × (ended_lines text ≤ limits.fields)
LacksTrailers limits text left failed faults.Device =
    failed × HasNoTrailers limits text × (length text < limits.head)
LacksTrailers limits text left failed faults.BadChunk =
    (length text ≤ limits.head) × HasNoTrailers limits text
    × (NeverHasSection text ⊎ (length text ≡ limits.head) ⊎ (limits.fields < ended_lines text))
LacksTrailers limits text left failed faults.OutOfMemory =
    HasNoTrailers limits text × (length text < limits.head)
LacksTrailers limits text left failed faults.BadHead = ⊥
LacksTrailers limits text left failed faults.BadLength = ⊥
LacksTrailers limits text left failed faults.TooLarge = ⊥

-- The text came after the chunks that have those bytes of data, then these were left, and the
-- answer is for this cause: the last chunk's line and trailers came; a line came that passes the
-- limit of the body; no line came; a line came and not its data; or the last line came and no
-- trailers.
pub data EndsChunks (limits : HeadLimits) (bytes text : List ℕ) (left : Option (List ℕ))
    (failed : Type 0) (answer : Result (List ℕ) HttpFault) : Type 0 where
  whole : (line : ChunkLine) (trailers : Trailers)
      → IsLine limits.head line → chunk_size line ≡ 0 → IsTrailers limits trailers
      → text ≡ print_chunk_line line ++ print_trailers trailers
      → answer ≡ Ok bytes → EndsChunks limits bytes text left failed answer
  large : (line : ChunkLine)
      → IsLine limits.head line → limits.body < length bytes + chunk_size line
      → text ≡ print_chunk_line line
      → answer ≡ Err faults.TooLarge → EndsChunks limits bytes text left failed answer
  no_line : (fault : HttpFault)
      → LacksLine limits.head text left failed fault
      → answer ≡ Err fault → EndsChunks limits bytes text left failed answer
  no_data : (line : ChunkLine) (rest : List ℕ) (fault : HttpFault)
      → IsLine limits.head line → 0 < chunk_size line
      → length bytes + chunk_size line ≤ limits.body
      → text ≡ print_chunk_line line ++ rest
      → LacksData (chunk_size line) rest left failed fault
      → answer ≡ Err fault → EndsChunks limits bytes text left failed answer
  no_trailers : (line : ChunkLine) (rest : List ℕ) (fault : HttpFault)
      → IsLine limits.head line → chunk_size line ≡ 0
      → text ≡ print_chunk_line line ++ rest
      → LacksTrailers limits rest left failed fault
      → answer ≡ Err fault → EndsChunks limits bytes text left failed answer

-- a body in chunks, of which those bytes were taken, then these were left: whole chunks came, whose
-- data is within the limit, and then a text by which the answer is known
pub record IsChunkedBody (limits : HeadLimits) (taken : List ℕ) (left : Option (List ℕ))
    (failed : Type 0) (answer : Result (List ℕ) HttpFault) : Type 0 where
  pub chunks : List Chunk
  pub text : List ℕ
  pub each : All (IsChunk limits.head) chunks
  pub fit : length (data_of chunks) ≤ limits.body
  pub whole : taken ≡ flat_map print_chunk chunks ++ text
  pub ends : EndsChunks limits (data_of chunks) text left failed answer
