-- Chunks that are written out.
use Rattle.std.proofs.Common.{◌≡◌, ℕ, ◌<◌, ◌≤◌, nat_lt, Bool, true, false, ◌&&◌, List, [], ◌∷◌}
use Rattle.std.proofs.Common.{◌++◌, length, refl, sym, ap, ◌∙◌, arith, Some, None, Option, Result}
use Rattle.std.proofs.Common.{Ok, codes}
use Rattle.std.specs.Prelude.{nat_le}
use Rattle.std.specs.List.{list_all, list_any, flat_map}
use Rattle.std.specs.Char.{is_ascii_hexdigit}
use Rattle.std.proofs.lemmas.List.Sums.{AllPass-from_list_all}
use Rattle.std.proofs.lemmas.List.Elements.{All-cons, All-head, All-nil}
use Rattle.std.proofs.lemmas.Bool.{leb-true, ltb-true, false≢true}
use Rattle.httparse.specs.Grammar.{LineEnd, crlf, lf, print_end, Field, print_section, AllPass}
use Rattle.httparse.specs.Grammar.{ChunkLine, IsChunkLine, print_chunk_line, chunk_size}
use Rattle.httparse.specs.Grammar.{print_extension, is_ows, is_extension_byte, IsExtension}
use Rattle.httparse.specs.Grammar.{HasNoChunkLine, NeverHasChunkLine}
use Rattle.httparse.proofs.OnLiterals.{httparse_on_literals}
use Rattle.http_wire.specs.declared.fault.HttpFault.{HttpFault}
use Rattle.http_wire.specs.declared.limits.HeadLimits.{HeadLimits}
use Rattle.http_wire.specs.Chunks.{Chunk, print_chunk, IsChunk, data_of, IsLine, Trailers}
use Rattle.http_wire.specs.Chunks.{print_trailers, IsTrailers, HasNoTrailers, EndsChunks, whole}
use Rattle.http_wire.specs.Chunks.{IsChunkedBody}
use Rattle.http_wire.proofs.ChunkLemmas.{line_ends, trailers_end}
use Rattle.worked_sdk.specs.Replied.{usual}
use Rattle.worked_sdk.proofs.Heads.{both, all_of, is_field, field_is, is_line_feed, line_feed_in}

abbrev is_extension : Option (List ℕ) → Bool
is_extension None = true
is_extension (Some text) = list_all is_extension_byte text

extension_is : (extension : Option (List ℕ)) → is_extension extension ≡ true → IsExtension extension
extension_is None e = tt
extension_is (Some text) e = AllPass-from_list_all is_extension_byte text e

abbrev pub is_line : ChunkLine → Bool
is_line l =
    (nat_lt 0 (length l.digits) && nat_le (length l.digits) 16)
    && (list_all is_ascii_hexdigit l.digits && (list_all is_ows l.pad && is_extension l.extension))

-- A line that passes the test is a line of a chunk.
pub line_valid : (l : ChunkLine) → is_line l ≡ true → IsChunkLine l
line_valid l e =
    let parts = both (nat_lt 0 (length l.digits) && nat_le (length l.digits) 16) _ e in
    let sizes = both (nat_lt 0 (length l.digits)) (nat_le (length l.digits) 16) parts.0 in
    let rest = both (list_all is_ascii_hexdigit l.digits) _ parts.1 in
    let last = both (list_all is_ows l.pad) _ rest.1 in
    record {
      digits = (
        ltb-true 0 (length l.digits) sizes.0,
        leb-true (length l.digits) 16 sizes.1,
        AllPass-from_list_all is_ascii_hexdigit l.digits rest.0,
      );
      pad = AllPass-from_list_all is_ows l.pad last.0;
      extension = extension_is l.extension last.1;
    }

-- A line that passes the test and is short enough is a line within the limit.
pub line_is : (most : ℕ) (l : ChunkLine) → is_line l ≡ true
    → nat_le (length (print_chunk_line l)) most ≡ true → IsLine most l
line_is most l e bytes =
    record { valid = line_valid l e; bytes = leb-true (length (print_chunk_line l)) most bytes }

-- a line of digits alone
abbrev pub plain : List ℕ → ChunkLine
plain digits = record { digits = digits; pad = []; extension = None }

-- Trailers whose fields pass the test and that are short enough are trailers within the limits.
pub trailers_are : (limits : HeadLimits) (t : Trailers) → list_all is_field t.fields ≡ true
    → nat_le (length t.fields) limits.fields ≡ true
    → nat_le (length (print_trailers t)) limits.head ≡ true → IsTrailers limits t
trailers_are limits t valid few bytes = record {
  valid = all_of _ is_field field_is t.fields valid;
  few = leb-true (length t.fields) limits.fields few;
  bytes = leb-true (length (print_trailers t)) limits.head bytes;
}

-- ---- whole bodies

-- A text that ends the chunks, with no chunk before it, is a whole chunked body.
pub no_chunks : (limits : HeadLimits) (text : List ℕ) {left : Option (List ℕ)} {failed : Type 0}
    {answer : Result (List ℕ) HttpFault}
    → EndsChunks limits [] text left failed answer → IsChunkedBody limits text left failed answer
no_chunks limits text ends = record {
  chunks = [];
  text = text;
  each = All-nil (IsChunk limits.head);
  fit = omega arith;
  whole = refl;
  ends = ends;
}

-- One chunk that is written out and then a text that ends the chunks are a whole chunked body.
pub one_chunk : (limits : HeadLimits) (c : Chunk) (text : List ℕ) {taken : List ℕ}
    {left : Option (List ℕ)} {failed : Type 0} {answer : Result (List ℕ) HttpFault}
    → IsChunk limits.head c → nat_le (length (data_of (c ∷ []))) limits.body ≡ true
    → taken ≡ flat_map print_chunk (c ∷ []) ++ text
    → EndsChunks limits (data_of (c ∷ [])) text left failed answer
    → IsChunkedBody limits taken left failed answer
one_chunk limits c text is fit taken ends = record {
  chunks = c ∷ [];
  text = text;
  each = All-cons (IsChunk limits.head) c [] is (All-nil (IsChunk limits.head));
  fit = leb-true (length (data_of (c ∷ []))) limits.body fit;
  whole = taken;
  ends = ends;
}

-- A chunk whose line passes the test and counts its bytes is a chunk within the limit.
pub chunk_is : (most : ℕ) (c : Chunk) → is_line c.line ≡ true
    → nat_le (length (print_chunk_line c.line)) most ≡ true
    → nat_lt 0 (chunk_size c.line) ≡ true → length c.bytes ≡ chunk_size c.line → IsChunk most c
chunk_is most c line bytes some size = record {
  line = line_is most c.line line bytes;
  some = ltb-true 0 (chunk_size c.line) some;
  size = size;
}

abbrev pub abc : Chunk
abc = record { line = plain (codes "3"); bytes = codes "abc" }

abbrev pub wiki : Chunk
wiki = record { line = plain (codes "4"); bytes = codes "wiki" }

abbrev no_fields : Trailers
no_fields = record { fields = []; last = crlf }

-- The line of the last chunk and an empty line end the chunks.
pub plain_end : {bytes : List ℕ} {left : Option (List ℕ)} {failed : Type 0}
    → EndsChunks usual bytes (codes "0\r\n\r\n") left failed (Ok bytes)
unfolding httparse_on_literals
plain_end =
    whole (plain (codes "0")) no_fields (line_is usual.head (plain (codes "0")) refl refl) refl
    (trailers_are usual no_fields refl refl refl) refl refl

-- A body of one chunk is read, whatever comes after it.
pub abc_body : (left : List ℕ)
    → IsChunkedBody usual (codes "3\r\nabc\r\n0\r\n\r\n") (Some left) ⊥ (Ok (codes "abc"))
unfolding httparse_on_literals
abc_body left =
    one_chunk usual abc (codes "0\r\n\r\n")
    (chunk_is usual.head abc refl refl refl refl) refl refl plain_end

-- ---- no line, no trailers

-- A text without a line feed has no line of a chunk.
pub has_no_line : (text : List ℕ) → list_any is_line_feed text ≡ false → HasNoChunkLine text
has_no_line text none l rest reads =
    let ends = line_ends l in
    false≢true (sym none ∙ ap (list_any is_line_feed) (reads.1 ∙ ap (λ t. t ++ rest) ends.1)
    ∙ line_feed_in ends.0 rest)

-- A text without a line feed has no trailers.
pub has_no_trailers : (limits : HeadLimits) (text : List ℕ) → list_any is_line_feed text ≡ false
    → HasNoTrailers limits text
has_no_trailers limits text none t rest reads =
    let ends = trailers_end t in
    false≢true (sym none ∙ ap (list_any is_line_feed) (reads.1 ∙ ap (λ t. t ++ rest) ends.1)
    ∙ line_feed_in ends.0 rest)

-- No line of a chunk begins with a g.
pub no_g : NeverHasChunkLine (codes "g")
unfolding print_chunk_line
no_g more l rest reads = begins_not l.digits reads.0.digits.0 reads.0.digits.2 reads.1
  where
    begins_not : (digits : List ℕ) → 0 < length digits → AllPass is_ascii_hexdigit digits
        → 103 ∷ more ≡ (digits ++ l.pad ++ print_extension l.extension ++ print_end crlf) ++ rest
        → ⊥
    begins_not [] some all e = omega (arith, some)
    begins_not (d ∷ digits) some all e =
        let heads : ◌≡◌ {A = ℕ} 103 d = cc in
        false≢true
        (ap is_ascii_hexdigit heads ∙ All-head (λ b. is_ascii_hexdigit b ≡ true) d digits all)

-- No trailers begin with an A where no field is allowed.
pub no_a : (limits : HeadLimits) (more : List ℕ) → limits.fields ≡ 0
    → HasNoTrailers limits (65 ∷ more)
no_a limits more zero t rest reads = begins_not t.fields t.last reads.0.few reads.1
  where
    begins_not : (fields : List Field) (last : LineEnd) → length fields ≤ limits.fields
        → 65 ∷ more ≡ print_section fields last ++ rest → ⊥
    begins_not [] crlf few e = let heads : ◌≡◌ {A = ℕ} 65 13 = cc in omega (arith, heads)
    begins_not [] lf few e = let heads : ◌≡◌ {A = ℕ} 65 10 = cc in omega (arith, heads)
    begins_not (f ∷ fields) last few e = omega (arith, few, zero)
