-- Chunks that come one after another, and how they end.
use Rattle.std.proofs.Common.{◌≡◌, ℕ, ◌+◌, ◌<◌, ◌≤◌, List, [], ◌∷◌, ◌++◌, length, All, refl, sym}
use Rattle.std.proofs.Common.{ap, subst, ◌∙◌, arith, append-nil, length-append, Option, Result, Ok}
use Rattle.std.proofs.Common.{Err}
use Rattle.std.specs.List.{flat_map}
use Rattle.std.proofs.lemmas.Grind.{flat_map-append}
use Rattle.std.proofs.lemmas.List.Elements.{All-push, All-nil}
use Rattle.std.specs.Io.KnownBytes.{Consumes}
use Rattle.std.proofs.KnownBytes.{Consumes-trans, Consumes-nil}
use Rattle.httparse.specs.Ascii.{crlf_bytes}
use Rattle.httparse.specs.Grammar.{print_chunk_line}
use Rattle.http_wire.specs.declared.fault.HttpFault.{HttpFault}
use Rattle.http_wire.specs.declared.fault.HttpFault.TheVariants as faults
use Rattle.http_wire.specs.declared.limits.HeadLimits.{HeadLimits}
use Rattle.http_wire.specs.Devices.{HasFailed}
use Rattle.http_wire.specs.Chunks.{Chunk, print_chunk, IsChunk, data_of, Trailers, print_trailers}
use Rattle.http_wire.specs.Chunks.{IsTrailers}
use Rattle.http_wire.specs.Chunks.{LacksLine, LacksData, LacksTrailers, EndsChunks, whole, large}
use Rattle.http_wire.specs.Chunks.{no_line, no_data, no_trailers, IsChunkedBody}
use Rattle.http_wire.specs.Parses.{FindsLine, TakesData}

-- whole chunks came, which have those bytes of data
pub record Came (limits : HeadLimits) (old new : Option (List ℕ)) (bytes : List ℕ) : Type 0 where
  pub chunks : List Chunk
  pub each : All (IsChunk limits.head) chunks
  pub are : bytes ≡ data_of chunks
  pub taken : Consumes old new (flat_map print_chunk chunks)

-- At first no chunk came.
pub none_came : (limits : HeadLimits) (old : Option (List ℕ)) (bytes : List ℕ) → bytes ≡ []
    → Came limits old old bytes
none_came limits old bytes empty = record {
  chunks = [];
  each = All-nil (IsChunk limits.head);
  are = empty;
  taken = Consumes-nil old;
}

-- One more chunk comes after the others.
pub one_more_came : (limits : HeadLimits) (old mid later new : Option (List ℕ))
    (before after text taken : List ℕ) (size : ℕ)
    → Came limits old mid before → Consumes mid later text → FindsLine limits.head text size
    → 0 < size
    → Consumes later new taken → TakesData size taken before after → Came limits old new after
one_more_came limits old mid later new before after text taken size came line_taken found some
    data_taken takes =
    let chunk : Chunk = record { line = found.line; bytes = takes.added } in
    let print : print_chunk chunk ≡ text ++ taken =
    ap (λ t. t ++ (takes.added ++ crlf_bytes)) (sym found.whole)
    ∙ ap (λ t. text ++ t) (sym takes.whole) in
    let printed : flat_map print_chunk (came.chunks ++ chunk ∷ [])
    ≡ flat_map print_chunk came.chunks ++ (text ++ taken) =
    flat_map-append print_chunk came.chunks (chunk ∷ [])
    ∙ ap (λ t. flat_map print_chunk came.chunks ++ t) (append-nil (print_chunk chunk) ∙ print) in
    let valid : IsChunk limits.head chunk = record {
      line = found.within;
      some = subst (λ n. 0 < n) found.says some;
      size = takes.size_of ∙ found.says;
    } in
    record {
      chunks = came.chunks ++ chunk ∷ [];
      each = All-push (IsChunk limits.head) came.chunks chunk came.each valid;
      are =
          takes.put ∙ ap (λ t. t ++ takes.added) came.are
          ∙ sym (flat_map-append (λ (c : Chunk). c.bytes) came.chunks (chunk ∷ [])
          ∙ ap (λ t. data_of came.chunks ++ t) (append-nil takes.added));
      taken =
          subst (Consumes old new) (sym printed)
          (Consumes-trans old mid new _ _ came.taken
          (Consumes-trans mid later new _ _ line_taken data_taken));
    }

-- One more chunk adds as many bytes as its line says.
pub data_grown : {size : ℕ} {taken before after : List ℕ} → TakesData size taken before after
    → length after ≡ length before + size
data_grown {size} {taken} {before} {after} takes =
    let long = length-append before takes.added in
    let whole = ap length takes.put in
    omega (arith, long, whole, takes.size_of)

-- a body that a text after them ends
abbrev pub Ended : HeadLimits → Option (List ℕ) → Option (List ℕ) → Type 0
    → Result (List ℕ) HttpFault → Type 0
Ended limits old new failed answer =
    (taken : List ℕ) × Consumes old new taken × IsChunkedBody limits taken new failed answer

ended_by : (limits : HeadLimits) (old mid new : Option (List ℕ)) (bytes text : List ℕ)
    (failed : Type 0) (answer : Result (List ℕ) HttpFault)
    → Came limits old mid bytes → length bytes ≤ limits.body → Consumes mid new text
    → EndsChunks limits bytes text new failed answer → Ended limits old new failed answer
ended_by limits old mid new bytes text failed answer came fit more ends = (
  flat_map print_chunk came.chunks ++ text,
  Consumes-trans old mid new _ text came.taken more,
  record {
    chunks = came.chunks;
    text = text;
    each = came.each;
    fit = subst (λ t. length t ≤ limits.body) came.are fit;
    whole = refl;
    ends = subst (λ t. EndsChunks limits t text new failed answer) came.are ends;
  },
)

-- Where no chunk's line came, the body ends for that fault.
pub ended_without_line : (limits : HeadLimits) (old mid new : Option (List ℕ)) (bytes text : List ℕ)
    (first before after : ℕ) (fault : HttpFault)
    → Came limits old mid bytes → length bytes ≤ limits.body → before ≡ first
    → Consumes mid new text → LacksLine limits.head text new (HasFailed before after) fault
    → Ended limits old new (HasFailed first after) (Err fault)
ended_without_line limits old mid new bytes text first before after fault came fit same more lacks =
    ended_by limits old mid new bytes text _ _ came fit more
    (no_line fault
    (subst (λ f. LacksLine limits.head text new (HasFailed f after) fault) same lacks) refl)

-- Where a chunk's line passes the limit of the body, the body is too large.
pub ended_too_large : (limits : HeadLimits) (old mid new : Option (List ℕ)) (bytes text : List ℕ)
    (size : ℕ) (failed : Type 0)
    → Came limits old mid bytes → length bytes ≤ limits.body → Consumes mid new text
    → FindsLine limits.head text size
    → limits.body < length bytes + size → Ended limits old new failed (Err faults.TooLarge)
ended_too_large limits old mid new bytes text size failed came fit more found over =
    ended_by limits old mid new bytes text failed _ came fit more
    (large found.line found.within
    (subst (λ n. limits.body < length bytes + n) found.says over) found.whole refl)

-- Where a chunk's line came, but not its data, the body ends for that fault.
pub ended_without_data : (limits : HeadLimits) (old mid later new : Option (List ℕ))
    (bytes text rest : List ℕ) (size first before after : ℕ) (fault : HttpFault)
    → Came limits old mid bytes → before ≡ first → Consumes mid later text
    → FindsLine limits.head text size → 0 < size
    → length bytes + size ≤ limits.body → Consumes later new rest
    → LacksData size rest new (HasFailed before after) fault
    → Ended limits old new (HasFailed first after) (Err fault)
ended_without_data limits old mid later new bytes text rest size first before after fault came same
    then found some fit more lacks =
    let kept = subst (λ f. LacksData size rest new (HasFailed f after) fault) same lacks in
    ended_by limits old mid new bytes (text ++ rest) _ _ came (omega (arith, fit))
    (Consumes-trans mid later new text rest then more)
    (no_data found.line rest fault found.within
    (subst (λ n. 0 < n) found.says some)
    (subst (λ n. length bytes + n ≤ limits.body) found.says fit)
    (ap (λ t. t ++ rest) found.whole)
    (subst (λ n. LacksData n rest new (HasFailed first after) fault) found.says kept)
    refl)

-- Where the last chunk's line came, but no trailers, the body ends for that fault.
pub ended_without_trailers : (limits : HeadLimits) (old mid later new : Option (List ℕ))
    (bytes text rest : List ℕ) (size first before after : ℕ) (fault : HttpFault)
    → Came limits old mid bytes → length bytes ≤ limits.body → before ≡ first
    → Consumes mid later text → FindsLine limits.head text size → size ≡ 0
    → Consumes later new rest → LacksTrailers limits rest new (HasFailed before after) fault
    → Ended limits old new (HasFailed first after) (Err fault)
ended_without_trailers limits old mid later new bytes text rest size first before after fault came
    fit same
    then found last more lacks =
    ended_by limits old mid new bytes (text ++ rest) _ _ came fit
    (Consumes-trans mid later new text rest then more)
    (no_trailers found.line rest fault found.within (sym found.says ∙ last)
    (ap (λ t. t ++ rest) found.whole)
    (subst (λ f. LacksTrailers limits rest new (HasFailed f after) fault) same lacks) refl)

-- Where the last chunk's line and the trailers came, the body is whole.
pub ended_whole : (limits : HeadLimits) (old mid later new : Option (List ℕ))
    (bytes text rest : List ℕ) (size : ℕ) (failed : Type 0)
    → Came limits old mid bytes → length bytes ≤ limits.body → Consumes mid later text
    → FindsLine limits.head text size → size ≡ 0
    → Consumes later new rest
    → (trailers : Trailers) × IsTrailers limits trailers × (rest ≡ print_trailers trailers)
    → Ended limits old new failed (Ok bytes)
ended_whole limits old mid later new bytes text rest size failed came fit
    then found last more trailers =
    ended_by limits old mid new bytes (text ++ rest) failed _ came fit
    (Consumes-trans mid later new text rest then more)
    (whole found.line trailers.0 found.within (sym found.says ∙ last) trailers.1
    (ap (λ t. t ++ rest) found.whole ∙ ap (λ t. print_chunk_line found.line ++ t) trailers.2) refl)
