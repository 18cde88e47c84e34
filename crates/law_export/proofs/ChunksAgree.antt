-- The same bytes are one body in chunks.
use Rattle.std.proofs.Common.{◌≡◌, ◌≢◌, ℕ, ◌+◌, ◌<◌, ◌≤◌, ◌⊎◌, List, [], ◌∷◌, ◌++◌, length, refl}
use Rattle.std.proofs.Common.{sym, ap, subst, ◌∙◌, inl, inr, arith, append_assoc, append-nil}
use Rattle.std.proofs.Common.{length-append, Some, Result, Ok, Err}
use Rattle.std.specs.Prelude.{All}
use Rattle.std.specs.List.{flat_map}
use Rattle.std.proofs.lemmas.List.Elements.{All-head, All-tail}
use Rattle.httparse.specs.Ascii.{crlf_bytes}
use Rattle.httparse.specs.Grammar.{ChunkLine, IsChunkLine, print_chunk_line, chunk_size}
use Rattle.httparse.specs.Grammar.{HasNoChunkLine, NeverHasChunkLine, MayBecomeChunkLine}
use Rattle.httparse.proofs.ChunkLemmas.{chunk_line_unique}
use Rattle.http_wire.specs.declared.fault.HttpFault.{HttpFault}
use Rattle.http_wire.specs.declared.fault.HttpFault.TheVariants as faults
use Rattle.http_wire.specs.declared.limits.HeadLimits.{HeadLimits}
use Rattle.http_wire.specs.Chunks as model
use Rattle.http_wire.specs.Chunks.{Chunk, print_chunk, IsLine, IsChunk, data_of, Trailers}
use Rattle.http_wire.specs.Chunks.{print_trailers, IsTrailers, MayBecomeData, LacksLine, LacksData}
use Rattle.http_wire.specs.Chunks.{EndsChunks, IsChunkedBody}
use Rattle.http_wire.proofs.DataLemmas.{fronts_same}
use Rattle.law_export.proofs.Lacks.{front_of}
use Rattle.law_export.proofs.TrailersAgree.{Lacking, ended, bad, lacking_one, OpenTrailers}
use Rattle.law_export.proofs.TrailersAgree.{BadTrailers, trailers_clash, trailers_lacking}
use Rattle.law_export.proofs.TrailersAgree.{trailers_stand}

abbrev Answer : Type 0
Answer = Result (List ℕ) HttpFault

-- ---- lines

-- a text that a line can begin with, and one that it can't
abbrev OpenLine : ℕ → List ℕ → Type 0
OpenLine most text = HasNoChunkLine text × MayBecomeChunkLine text × (length text < most)

abbrev BadLine : ℕ → List ℕ → Type 0
BadLine most text = NeverHasChunkLine text ⊎ (HasNoChunkLine text × (length text ≡ most))

line_lacking : (most : ℕ) (text left : List ℕ) (failed : Type 0) (fault : HttpFault)
    → LacksLine most text (Some left) failed fault
    → ¬ failed → fault ≢ faults.OutOfMemory → Lacking (OpenLine most) (BadLine most) text left fault
line_lacking most text left failed faults.Ended x sound ample = ended refl x.0 (x.1, x.2, x.3)
line_lacking most text left failed faults.Device x sound ample = absurd (sound x.0)
line_lacking most text left failed faults.BadChunk x sound ample = bad refl x.1
line_lacking most text left failed faults.OutOfMemory x sound ample = absurd (ample refl)
line_lacking most text left failed faults.BadHead x sound ample = absurd x
line_lacking most text left failed faults.BadLength x sound ample = absurd x
line_lacking most text left failed faults.TooLarge x sound ample = absurd x

line_clash : (most : ℕ) (front rest : List ℕ) → BadLine most front → OpenLine most (front ++ rest)
    → ⊥
line_clash most front rest (inl never) unfinished =
    let may = unfinished.1 in
    never (rest ++ may.0) may.1 [] (may.2.0, sym (append_assoc front rest may.0) ∙ may.2.1)
line_clash most front rest (inr full) unfinished =
    let long = length-append front rest in
    omega (arith, long, full.1, unfinished.2)

-- No line is where a line is lacking.
line_stands : (most : ℕ) (text left : List ℕ) (fault : HttpFault) (line : ChunkLine) (rest : List ℕ)
    → Lacking (OpenLine most) (BadLine most) text left fault → IsLine most line
    → text ++ left ≡ print_chunk_line line ++ rest → ⊥
line_stands most text left fault line rest (ended _ none unfinished) is e =
    unfinished.0 line rest (is.valid, sym (append-nil text) ∙ ap (λ l. text ++ l) (sym none) ∙ e)
line_stands most text left fault line rest (bad _ (inl never)) is e =
    never left line rest (is.valid, e)
line_stands most text left fault line rest (bad _ (inr full)) is e =
    let bytes = is.bytes in
    let size = full.1 in
    let front = front_of text left (print_chunk_line line) rest e (omega (arith, bytes, size)) in
    full.0 line front.0 (is.valid, front.1)

-- Two lines at the front of the same bytes are one.
same_line : (l k : ChunkLine) (a b : List ℕ) → IsChunkLine l → IsChunkLine k
    → print_chunk_line l ++ a ≡ print_chunk_line k ++ b → (l ≡ k) × (a ≡ b)
same_line l k a b x y e = chunk_line_unique (print_chunk_line l ++ a) l k a b (x, refl) (y, e)

-- ---- data

abbrev OpenData : ℕ → List ℕ → Type 0
OpenData size text = MayBecomeData size text × (length text < size + 2)

abbrev BadData : ℕ → List ℕ → Type 0
BadData size text = (¬ (MayBecomeData size text)) × (length text ≤ size + 2)

data_lacking : (size : ℕ) (text left : List ℕ) (failed : Type 0) (fault : HttpFault)
    → LacksData size text (Some left) failed fault
    → ¬ failed → fault ≢ faults.OutOfMemory → Lacking (OpenData size) (BadData size) text left fault
data_lacking size text left failed faults.Ended x sound ample = ended refl x.0 (x.1, x.2)
data_lacking size text left failed faults.Device x sound ample = absurd (sound x.0)
data_lacking size text left failed faults.BadChunk x sound ample = bad refl x
data_lacking size text left failed faults.OutOfMemory x sound ample = absurd (ample refl)
data_lacking size text left failed faults.BadHead x sound ample = absurd x
data_lacking size text left failed faults.BadLength x sound ample = absurd x
data_lacking size text left failed faults.TooLarge x sound ample = absurd x

data_clash : (size : ℕ) (front rest : List ℕ) → BadData size front → OpenData size (front ++ rest)
    → ⊥
data_clash size front rest never unfinished =
    let may = unfinished.0 in
    never.0 (rest ++ may.0, may.1, may.2, sym (append_assoc front rest may.0) ∙ may.3)

-- No data is where data is lacking.
data_stands : (size : ℕ) (text left : List ℕ) (fault : HttpFault) (bytes rest : List ℕ)
    → Lacking (OpenData size) (BadData size) text left fault → length bytes ≡ size
    → text ++ left ≡ bytes ++ (crlf_bytes ++ rest) → ⊥
data_stands size text left fault bytes rest (ended _ none unfinished) long e =
    let short = unfinished.1 in
    let all =
    sym (length-append text left) ∙ ap length e ∙ length-append bytes (crlf_bytes ++ rest) in
    let end = length-append crlf_bytes rest in
    let empty = ap length none in
    omega (arith, short, all, end, empty, long)
data_stands size text left fault bytes rest (bad _ never) long e =
    let within = never.1 in
    let both = length-append bytes crlf_bytes in
    let front =
    front_of (bytes ++ crlf_bytes) rest text left (append_assoc bytes crlf_bytes rest ∙ sym e)
    (omega (arith, within, both, long)) in
    never.0 (front.0, bytes, long, sym front.1)

-- ---- what ends the chunks

-- What comes after chunks with these bytes, where no read failed and no memory was refused.
data Found (limits : HeadLimits) (bytes all : List ℕ) (answer : Answer) : Type 0 where
  whole : (line : ChunkLine) (trailers : Trailers) (rest : List ℕ) → IsLine limits.head line
      → chunk_size line ≡ 0 → IsTrailers limits trailers
      → all ≡ print_chunk_line line ++ (print_trailers trailers ++ rest) → answer ≡ Ok bytes
      → Found limits bytes all answer
  large : (line : ChunkLine) (rest : List ℕ) → IsLine limits.head line
      → limits.body < length bytes + chunk_size line
      → all ≡ print_chunk_line line ++ rest → answer ≡ Err faults.TooLarge
      → Found limits bytes all answer
  no_line : (text left : List ℕ) (fault : HttpFault)
      → Lacking (OpenLine limits.head) (BadLine limits.head) text left fault
      → all ≡ text ++ left → answer ≡ Err fault → Found limits bytes all answer
  no_data : (line : ChunkLine) (text left : List ℕ) (fault : HttpFault) → IsLine limits.head line
      → 0 < chunk_size line
      → length bytes + chunk_size line ≤ limits.body
      → Lacking (OpenData (chunk_size line)) (BadData (chunk_size line)) text left fault
      → all ≡ print_chunk_line line ++ (text ++ left) → answer ≡ Err fault
      → Found limits bytes all answer
  no_trailers : (line : ChunkLine) (text left : List ℕ) (fault : HttpFault)
      → IsLine limits.head line → chunk_size line ≡ 0
      → Lacking (OpenTrailers limits) (BadTrailers limits) text left fault
      → all ≡ print_chunk_line line ++ (text ++ left) → answer ≡ Err fault
      → Found limits bytes all answer

found_of : (limits : HeadLimits) (bytes text left : List ℕ) (failed : Type 0) (answer : Answer)
    → EndsChunks limits bytes text (Some left) failed answer
    → ¬ failed → answer ≢ Err faults.OutOfMemory → Found limits bytes (text ++ left) answer
found_of limits bytes text left failed answer
    (model.whole line trailers is last valid e a) sound ample =
    whole line trailers left is last valid
    (ap (λ t. t ++ left) e ∙ append_assoc (print_chunk_line line) (print_trailers trailers) left) a
found_of limits bytes text left failed answer (model.large line is over e a) sound ample =
    large line left is over (ap (λ t. t ++ left) e) a
found_of limits bytes text left failed answer (model.no_line fault x a) sound ample =
    no_line text left fault
    (line_lacking limits.head text left failed fault x sound (λ e. ample (a ∙ ap Err e))) refl a
found_of limits bytes text left failed answer
    (model.no_data line rest fault is some fit e x a) sound ample =
    no_data line rest left fault is some fit
    (data_lacking (chunk_size line) rest left failed fault x sound (λ o. ample (a ∙ ap Err o)))
    (ap (λ t. t ++ left) e ∙ append_assoc (print_chunk_line line) rest left) a
found_of limits bytes text left failed answer
    (model.no_trailers line rest fault is last e x a) sound ample =
    no_trailers line rest left fault is last
    (trailers_lacking limits rest left failed fault x sound (λ o. ample (a ∙ ap Err o)))
    (ap (λ t. t ++ left) e ∙ append_assoc (print_chunk_line line) rest left) a

-- A line of size zero and a line of another size aren't at the front of the same bytes.
apart : (l k : ChunkLine) (a b : List ℕ) (n : ℕ) → IsLine n l → IsLine n k
    → print_chunk_line l ++ a ≡ print_chunk_line k ++ b
    → chunk_size l ≡ 0 → 0 < chunk_size k → ⊥
apart l k a b n x y e none some =
    let same = ap chunk_size (same_line l k a b x.valid y.valid e).0 in
    omega (arith, same, none, some)

-- A line within the limit and one past it aren't at the front of the same bytes.
past : (l k : ChunkLine) (a b : List ℕ) (n long most : ℕ) → IsLine n l → IsLine n k
    → print_chunk_line l ++ a ≡ print_chunk_line k ++ b
    → long + chunk_size l ≤ most → most < long + chunk_size k → ⊥
past l k a b n long most x y e fit over =
    let same = ap chunk_size (same_line l k a b x.valid y.valid e).0 in
    omega (arith, same, fit, over)

module _ (limits : HeadLimits) (bytes all : List ℕ) (answer other : Answer)
    (fit : length bytes ≤ limits.body) where
  whole_and : (line : ChunkLine) (trailers : Trailers) (rest : List ℕ) → IsLine limits.head line
      → chunk_size line ≡ 0 → IsTrailers limits trailers
      → all ≡ print_chunk_line line ++ (print_trailers trailers ++ rest) → answer ≡ Ok bytes
      → Found limits bytes all other → other ≡ answer
  whole_and line trailers rest is last valid e a (whole _ _ _ _ _ _ _ b) = b ∙ sym a
  whole_and line trailers rest is last valid e a (large line' rest' is' over f b) =
      absurd (past line line' _ _ limits.head (length bytes) limits.body is is' (sym e ∙ f)
      (omega (arith, last, fit)) over)
  whole_and line trailers rest is last valid e a (no_line text left fault x f b) =
      absurd (line_stands limits.head text left fault line _ x is (sym f ∙ e))
  whole_and line trailers rest is last valid e a (no_data line' text left fault is' some _ x f b) =
      absurd (apart line line' _ _ limits.head is is' (sym e ∙ f) last some)
  whole_and line trailers rest is last valid e a
      (no_trailers line' text left fault is' last' x f b) =
      absurd (trailers_stand limits text left fault trailers rest x valid
      (sym (same_line line line' _ _ is.valid is'.valid (sym e ∙ f)).1))

  large_and : (line : ChunkLine) (rest : List ℕ) → IsLine limits.head line
      → limits.body < length bytes + chunk_size line
      → all ≡ print_chunk_line line ++ rest → answer ≡ Err faults.TooLarge
      → Found limits bytes all other → other ≡ answer
  large_and line rest is over e a (whole line' trailers rest' is' last valid f b) =
      absurd (past line' line _ _ limits.head (length bytes) limits.body is' is (sym f ∙ e)
      (omega (arith, last, fit)) over)
  large_and line rest is over e a (large _ _ _ _ _ b) = b ∙ sym a
  large_and line rest is over e a (no_line text left fault x f b) =
      absurd (line_stands limits.head text left fault line _ x is (sym f ∙ e))
  large_and line rest is over e a (no_data line' text left fault is' some within x f b) =
      absurd
      (past line' line _ _ limits.head (length bytes) limits.body is' is (sym f ∙ e) within over)
  large_and line rest is over e a (no_trailers line' text left fault is' last x f b) =
      absurd (past line' line _ _ limits.head (length bytes) limits.body is' is (sym f ∙ e)
      (omega (arith, last, fit)) over)

  no_line_and : (text left : List ℕ) (fault : HttpFault)
      → Lacking (OpenLine limits.head) (BadLine limits.head) text left fault
      → all ≡ text ++ left → answer ≡ Err fault → Found limits bytes all other → other ≡ answer
  no_line_and text left fault x e a (whole line _ _ is _ _ f _) =
      absurd (line_stands limits.head text left fault line _ x is (sym e ∙ f))
  no_line_and text left fault x e a (large line _ is _ f _) =
      absurd (line_stands limits.head text left fault line _ x is (sym e ∙ f))
  no_line_and text left fault x e a (no_line text' left' fault' y f b) =
      b
      ∙ ap Err
      (lacking_one _ _ (line_clash limits.head) text left text' left' fault fault' x y (sym e ∙ f))
      ∙ sym a
  no_line_and text left fault x e a (no_data line _ _ _ is _ _ _ f _) =
      absurd (line_stands limits.head text left fault line _ x is (sym e ∙ f))
  no_line_and text left fault x e a (no_trailers line _ _ _ is _ _ f _) =
      absurd (line_stands limits.head text left fault line _ x is (sym e ∙ f))

  no_data_and : (line : ChunkLine) (text left : List ℕ) (fault : HttpFault)
      → IsLine limits.head line → 0 < chunk_size line
      → length bytes + chunk_size line ≤ limits.body
      → Lacking (OpenData (chunk_size line)) (BadData (chunk_size line)) text left fault
      → all ≡ print_chunk_line line ++ (text ++ left) → answer ≡ Err fault
      → Found limits bytes all other → other ≡ answer
  no_data_and line text left fault is some within x e a (whole line' _ _ is' last _ f _) =
      absurd (apart line' line _ _ limits.head is' is (sym f ∙ e) last some)
  no_data_and line text left fault is some within x e a (large line' _ is' over f _) =
      absurd
      (past line line' _ _ limits.head (length bytes) limits.body is is' (sym e ∙ f) within over)
  no_data_and line text left fault is some within x e a (no_line text' left' fault' y f _) =
      absurd (line_stands limits.head text' left' fault' line _ y is (sym f ∙ e))
  no_data_and line text left fault is some within x e a
      (no_data line' text' left' fault' is' _ _ y f b) =
      let same = same_line line line' _ _ is.valid is'.valid (sym e ∙ f) in
      let own =
      subst (λ n. Lacking (OpenData n) (BadData n) text' left' fault')
      (ap chunk_size (sym same.0)) y in
      b
      ∙ ap Err
      (lacking_one _ _
      (data_clash (chunk_size line)) text left text' left' fault fault' x own same.1)
      ∙ sym a
  no_data_and line text left fault is some within x e a (no_trailers line' _ _ _ is' last _ f _) =
      absurd (apart line' line _ _ limits.head is' is (sym f ∙ e) last some)

  no_trailers_and : (line : ChunkLine) (text left : List ℕ) (fault : HttpFault)
      → IsLine limits.head line → chunk_size line ≡ 0
      → Lacking (OpenTrailers limits) (BadTrailers limits) text left fault
      → all ≡ print_chunk_line line ++ (text ++ left) → answer ≡ Err fault
      → Found limits bytes all other → other ≡ answer
  no_trailers_and line text left fault is last x e a (whole line' trailers rest is' _ valid f _) =
      absurd (trailers_stand limits text left fault trailers rest x valid
      (same_line line line' _ _ is.valid is'.valid (sym e ∙ f)).1)
  no_trailers_and line text left fault is last x e a (large line' _ is' over f _) =
      absurd (past line line' _ _ limits.head (length bytes) limits.body is is' (sym e ∙ f)
      (omega (arith, last, fit)) over)
  no_trailers_and line text left fault is last x e a (no_line text' left' fault' y f _) =
      absurd (line_stands limits.head text' left' fault' line _ y is (sym f ∙ e))
  no_trailers_and line text left fault is last x e a (no_data line' _ _ _ is' some _ _ f _) =
      absurd (apart line line' _ _ limits.head is is' (sym e ∙ f) last some)
  no_trailers_and line text left fault is last x e a
      (no_trailers line' text' left' fault' is' _ y f b) =
      let same = same_line line line' _ _ is.valid is'.valid (sym e ∙ f) in
      b
      ∙ ap Err
      (lacking_one _ _ (trailers_clash limits) text left text' left' fault fault' x y same.1)
      ∙ sym a

  found_one : Found limits bytes all answer → Found limits bytes all other → other ≡ answer
  found_one (whole line trailers rest is last valid e a) y =
      whole_and line trailers rest is last valid e a y
  found_one (large line rest is over e a) y = large_and line rest is over e a y
  found_one (no_line text left fault x e a) y = no_line_and text left fault x e a y
  found_one (no_data line text left fault is some within x e a) y =
      no_data_and line text left fault is some within x e a y
  found_one (no_trailers line text left fault is last x e a) y =
      no_trailers_and line text left fault is last x e a y

-- ---- chunks

-- A printed chunk is its line, its bytes and a line's end.
printed : (chunk : Chunk) (rest : List ℕ)
    → print_chunk chunk ++ rest
    ≡ print_chunk_line chunk.line ++ (chunk.bytes ++ (crlf_bytes ++ rest))
printed chunk rest =
    append_assoc (print_chunk_line chunk.line) (chunk.bytes ++ crlf_bytes) rest
    ∙ ap (λ t. print_chunk_line chunk.line ++ t) (append_assoc chunk.bytes crlf_bytes rest)

-- No chunk is where the chunks end.
chunk_not : (limits : HeadLimits) (bytes all : List ℕ) (answer : Answer) (chunk : Chunk)
    (rest : List ℕ)
    → IsChunk limits.head chunk
    → length bytes + length chunk.bytes ≤ limits.body
    → all ≡ print_chunk_line chunk.line ++ (chunk.bytes ++ (crlf_bytes ++ rest))
    → Found limits bytes all answer → ⊥
chunk_not limits bytes all answer chunk rest valid fit e (whole line _ _ is last _ f _) =
    apart line chunk.line _ _ limits.head is valid.line (sym f ∙ e) last valid.some
chunk_not limits bytes all answer chunk rest valid fit e (large line _ is over f _) =
    let size = valid.size in
    past chunk.line line _ _ limits.head (length bytes) limits.body valid.line is (sym e ∙ f)
    (omega (arith, size, fit)) over
chunk_not limits bytes all answer chunk rest valid fit e (no_line text left fault x f _) =
    line_stands limits.head text left fault chunk.line _ x valid.line (sym f ∙ e)
chunk_not limits bytes all answer chunk rest valid fit e
    (no_data line text left fault is _ _ x f _) =
    let same = same_line line chunk.line _ _ is.valid valid.line.valid (sym f ∙ e) in
    data_stands (chunk_size line) text left fault chunk.bytes rest x
    (valid.size ∙ ap chunk_size (sym same.0)) same.1
chunk_not limits bytes all answer chunk rest valid fit e (no_trailers line _ _ _ is last _ f _) =
    apart line chunk.line _ _ limits.head is valid.line (sym f ∙ e) last valid.some

-- Two chunks at the front of the same bytes are one.
same_chunk : (most : ℕ) (c d : Chunk) (a b : List ℕ) → IsChunk most c → IsChunk most d
    → print_chunk c ++ a ≡ print_chunk d ++ b → (c.bytes ≡ d.bytes) × (a ≡ b)
same_chunk most c d a b x y e =
    let line =
    same_line c.line d.line _ _ x.line.valid y.line.valid (sym (printed c a) ∙ e ∙ printed d b) in
    let bytes =
    fronts_same c.bytes d.bytes (crlf_bytes ++ a) (crlf_bytes ++ b)
    (x.size ∙ ap chunk_size line.0 ∙ sym y.size) line.1 in
    (bytes.0, let end = bytes.1 in cc)

-- The data of a first chunk is within the limit where the data of all chunks is.
first_fits : (before : List ℕ) (chunk : Chunk) (chunks : List Chunk) (most : ℕ)
    → length (before ++ data_of (chunk ∷ chunks)) ≤ most
    → length before + length chunk.bytes ≤ most
first_fits before chunk chunks most fit =
    let all = length-append before (data_of (chunk ∷ chunks)) in
    let both = length-append chunk.bytes (data_of chunks) in
    omega (arith, all, both, fit)

-- The chunks at the front of the same bytes are the same, and are ended in one way.
ends_one : (limits : HeadLimits) (chunks others : List Chunk) (before all other_all : List ℕ)
    (answer other : Answer)
    → All (IsChunk limits.head) chunks → All (IsChunk limits.head) others
    → length (before ++ data_of chunks) ≤ limits.body
    → length (before ++ data_of others) ≤ limits.body
    → flat_map print_chunk chunks ++ all ≡ flat_map print_chunk others ++ other_all
    → Found limits (before ++ data_of chunks) all answer
    → Found limits (before ++ data_of others) other_all other → other ≡ answer
ends_one limits [] [] before all other_all answer other _ _ fit other_fit e x y =
    found_one limits (before ++ []) all answer other fit x
    (subst (λ t. Found limits (before ++ []) t other) (sym e) y)
ends_one limits [] (d ∷ others) before all other_all answer other _ valid fit other_fit e x y =
    let bytes : Found limits before all answer =
    subst (λ t. Found limits t all answer) (append-nil before) x in
    let rest = flat_map print_chunk others ++ other_all in
    absurd (chunk_not limits before all answer d rest
    (All-head (IsChunk limits.head) d others valid)
    (first_fits before d others limits.body other_fit)
    (e ∙ append_assoc (print_chunk d) (flat_map print_chunk others) other_all ∙ printed d rest)
    bytes)
ends_one limits (c ∷ chunks) [] before all other_all answer other valid _ fit other_fit e x y =
    let bytes : Found limits before other_all other =
    subst (λ t. Found limits t other_all other) (append-nil before) y in
    let rest = flat_map print_chunk chunks ++ all in
    absurd (chunk_not limits before other_all other c rest
    (All-head (IsChunk limits.head) c chunks valid) (first_fits before c chunks limits.body fit)
    (sym e ∙ append_assoc (print_chunk c) (flat_map print_chunk chunks) all ∙ printed c rest) bytes)
ends_one limits (c ∷ chunks)
    (d ∷ others) before all other_all answer other valid other_valid fit other_fit e x y =
    let one =
    same_chunk limits.head c d (flat_map print_chunk chunks ++ all)
    (flat_map print_chunk others ++ other_all)
    (All-head (IsChunk limits.head) c chunks valid)
    (All-head (IsChunk limits.head) d others other_valid)
    (sym (append_assoc (print_chunk c) (flat_map print_chunk chunks) all) ∙ e
    ∙ append_assoc (print_chunk d) (flat_map print_chunk others) other_all) in
    let own : before ++ data_of (c ∷ chunks) ≡ (before ++ c.bytes) ++ data_of chunks =
    sym (append_assoc before c.bytes (data_of chunks)) in
    let others_are : before ++ data_of (d ∷ others) ≡ (before ++ c.bytes) ++ data_of others =
    sym (append_assoc before d.bytes (data_of others))
    ∙ ap (λ t. (before ++ t) ++ data_of others) (sym one.0) in
    ends_one limits chunks others (before ++ c.bytes) all other_all answer other
    (All-tail (IsChunk limits.head) c chunks valid)
    (All-tail (IsChunk limits.head) d others other_valid)
    (subst (λ t. length t ≤ limits.body) own fit)
    (subst (λ t. length t ≤ limits.body) others_are other_fit) one.1
    (subst (λ t. Found limits t all answer) own x)
    (subst (λ t. Found limits t other_all other) others_are y)

-- The same bytes are one body in chunks, if no read failed and no memory was refused.
pub chunks_one : (limits : HeadLimits) (taken left other_taken other_left : List ℕ)
    (failed other_failed : Type 0) (answer other : Answer)
    → IsChunkedBody limits taken (Some left) failed answer
    → IsChunkedBody limits other_taken (Some other_left) other_failed other
    → ¬ failed → ¬ other_failed → answer ≢ Err faults.OutOfMemory → other ≢ Err faults.OutOfMemory
    → taken ++ left ≡ other_taken ++ other_left → other ≡ answer
chunks_one limits taken left other_taken other_left failed other_failed answer other x y sound
    other_sound ample other_ample e =
    let own =
    ap (λ t. t ++ left) x.whole ∙ append_assoc (flat_map print_chunk x.chunks) x.text left in
    let others =
    ap (λ t. t ++ other_left) y.whole
    ∙ append_assoc (flat_map print_chunk y.chunks) y.text other_left in
    ends_one limits x.chunks y.chunks [] (x.text ++ left)
    (y.text ++ other_left) answer other x.each y.each x.fit y.fit (sym own ∙ e ∙ others)
    (found_of limits (data_of x.chunks) x.text left failed answer x.ends sound ample)
    (found_of limits
    (data_of y.chunks) y.text other_left other_failed other y.ends other_sound other_ample)
