-- The lines and the trailers of a body in chunks.
use Rattle.std.proofs.Common.{◌≡◌, ℕ, ◌+◌, ◌<◌, ◌≤◌, List, [], ◌∷◌, ◌++◌, length, refl, sym, ap}
use Rattle.std.proofs.Common.{subst, ◌∙◌, arith, append_assoc, length-append, append-nil, inl, inr}
use Rattle.std.proofs.Common.{true, Option, Some, Ok, Err}
use Rattle.std.specs.Prelude.{option_to_list}
use Rattle.std.specs.Io.KnownBytes.{Consumes}
use Rattle.std.proofs.KnownBytes.{Consumes-trans}
use Rattle.std.specs.List.{flat_map}
use Rattle.std.proofs.lemmas.Bool.{cond-false, ne_eqb}
use Rattle.std.proofs.lemmas.List.{append_cancel_right}
use Rattle.httparse.specs.Ascii.{line_feed, carriage_return}
use Rattle.httparse.specs.Grammar.{ChunkLine, IsChunkLine, print_chunk_line, print_extension}
use Rattle.httparse.specs.Grammar.{ReadsChunkLine, HasNoChunkLine}
use Rattle.httparse.specs.Grammar.{LineEnd, crlf, lf, print_end, Field, print_field, HasNoSection}
use Rattle.httparse.specs.Grammar.{NeverHasSection}
use Rattle.httparse.specs.Spans.{SectionExceeds, SectionOverflows}
use Rattle.httparse.proofs.GrammarLemmas.{cons-append}
use Rattle.http_wire.specs.declared.fault.HttpFault.{HttpFault}
use Rattle.http_wire.specs.declared.fault.HttpFault.TheVariants as faults
use Rattle.http_wire.specs.declared.limits.HeadLimits.{HeadLimits}
use Rattle.http_wire.specs.Chunks.{Trailers, print_trailers, IsTrailers, HasNoTrailers}
use Rattle.http_wire.specs.Chunks.{LacksTrailers, ended_lines}
use Rattle.http_wire.specs.Parses.{ParsesLine, FindsLine, ParsesTrailers, IsStoppedTrailers, bad}
use Rattle.http_wire.specs.Parses.{over}
use Rattle.http_wire.proofs.HeadLemmas as grown

-- A chunk's line ends in a line feed.
pub line_ends : (line : ChunkLine)
    → (front : List ℕ) × (print_chunk_line line ≡ front ++ line_feed ∷ [])
unfolding print_chunk_line
line_ends line = (
  _,
  regroup line.digits line.pad (print_extension line.extension) (carriage_return ∷ [])
      (line_feed ∷ []),
)
  where
    regroup : (a b c d e : List ℕ) → a ++ b ++ c ++ (d ++ e) ≡ (a ++ b ++ c ++ d) ++ e
    regroup a b c d e = simp append_assoc

-- Trailers end in a line feed.
pub trailers_end : (trailers : Trailers)
    → (front : List ℕ) × (print_trailers trailers ≡ front ++ line_feed ∷ [])
trailers_end trailers =
    let last = grown.end_ends trailers.last in
    let fields = flat_map print_field trailers.fields in (
      fields ++ last.0,
      ap (λ end. fields ++ end) last.1 ∙ sym (append_assoc fields last.0 (line_feed ∷ [])),
    )

-- A byte other than a line feed makes no chunk's line.
pub no_line_yet : (text : List ℕ) (b : ℕ) → HasNoChunkLine text → (b ≡ 10 → ⊥)
    → HasNoChunkLine (text ++ b ∷ [])
no_line_yet = grown.none_yet IsChunkLine print_chunk_line line_ends

-- The empty text has no chunk's line.
pub no_line_of_nothing : HasNoChunkLine []
no_line_of_nothing = grown.none_of_nothing IsChunkLine print_chunk_line line_ends

-- A byte other than a line feed makes no trailers.
pub no_trailers_yet : (limits : HeadLimits) (text : List ℕ) (b : ℕ) → HasNoTrailers limits text
    → (b ≡ 10 → ⊥) → HasNoTrailers limits (text ++ b ∷ [])
no_trailers_yet limits = grown.none_yet (IsTrailers limits) print_trailers trailers_end

-- The empty text has no trailers.
pub no_trailers_of_nothing : (limits : HeadLimits) → HasNoTrailers limits []
no_trailers_of_nothing limits =
    grown.none_of_nothing (IsTrailers limits) print_trailers trailers_end

-- A text without a section of fields at its front has no trailers there.
pub no_section : (limits : HeadLimits) (text : List ℕ) → HasNoSection text
    → HasNoTrailers limits text
no_section limits text none trailers rest reads =
    none trailers.fields trailers.last rest (reads.0.valid, reads.1)

-- A text that can never have a section at its front has no trailers there.
pub never_section : (limits : HeadLimits) (text : List ℕ) → NeverHasSection text
    → HasNoTrailers limits text
never_section limits text never trailers rest reads =
    never [] trailers.fields trailers.last rest (
      reads.0.valid,
      subst (λ t. t ≡ print_trailers trailers ++ rest) (sym (append-nil text)) reads.1,
    )

-- A text whose section has too many fields has no trailers at its front.
pub overflows : (limits : HeadLimits) (text : List ℕ) → SectionOverflows limits.fields text
    → HasNoTrailers limits text
overflows limits text each trailers rest reads =
    let many =
    each [] trailers.fields trailers.last rest (
      reads.0.valid,
      subst (λ t. t ≡ print_trailers trailers ++ rest) (sym (append-nil text)) reads.1,
    ) in
    let few = reads.0.few in
    omega (arith, many, few)

-- The lines that end in two texts, one after the other, are as many as in both.
pub ended_lines-append : (a b : List ℕ) → ended_lines (a ++ b) ≡ ended_lines a + ended_lines b
ended_lines-append [] b = omega arith
ended_lines-append (x ∷ a) b = let rest = ended_lines-append a b in omega (arith, rest)

-- A line feed ends one more line.
pub line_more : (text : List ℕ) → ended_lines (text ++ 10 ∷ []) ≡ ended_lines text + 1
line_more text = ended_lines-append text (10 ∷ [])

-- A byte other than a line feed ends no line.
pub other_more : (text : List ℕ) (b : ℕ) → (b ≡ 10 → ⊥)
    → ended_lines (text ++ b ∷ []) ≡ ended_lines text
other_more text b other =
    let both = ended_lines-append text (b ∷ []) in
    let none = cond-false {A = ℕ} _ 1 0 (ne_eqb b 10 other) in
    omega (arith, both, none)

-- A field has the end of a line.
field_line : (field : Field) → 1 ≤ ended_lines (print_field field)
field_line field =
    let parts = ap ended_lines (regroup field.name field.raw (print_end field.end)) in
    let name = ended_lines-append field.name (58 ∷ (field.raw ++ print_end field.end)) in
    let raw = ended_lines-append field.raw (print_end field.end) in
    let end = end_line field.end in
    omega (arith, parts, name, raw, end)
  where
    regroup : (a b c : List ℕ) → a ++ 58 ∷ b ++ c ≡ a ++ (58 ∷ (b ++ c))
    regroup a b c = simp (append_assoc, cons-append)

    end_line : (end : LineEnd) → ended_lines (print_end end) ≡ 1
    end_line crlf = refl
    end_line lf = refl

-- Fields have at least as many ends of lines as there are fields.
pub fields_lines : (fields : List Field) → length fields ≤ ended_lines (flat_map print_field fields)
fields_lines [] = omega arith
fields_lines (field ∷ fields) =
    let both = ended_lines-append (print_field field) (flat_map print_field fields) in
    let one = field_line field in
    let rest = fields_lines fields in
    omega (arith, both, one, rest)

-- Too many fields are too many lines.
pub exceeds_lines : (room : ℕ) (text : List ℕ) → SectionExceeds room text → room < ended_lines text
exceeds_lines room text x =
    let front : x.0 ≡ flat_map print_field x.3 =
    append_cancel_right x.0 (flat_map print_field x.3) (10 ∷ [])
    (x.4.1 ∙ nothing_later (flat_map print_field x.3)) in
    let whole =
    ap ended_lines (x.2 ∙ ap (λ t. t ++ x.1) front)
    ∙ ended_lines-append (flat_map print_field x.3) x.1 in
    let many = fields_lines x.3 in
    let few = x.5 in
    omega (arith, whole, many, few)
  where
    nothing_later : (a : List ℕ) → (a ++ 10 ∷ []) ++ [] ≡ a ++ 10 ∷ []
    nothing_later a = simp append_assoc

-- A parse that refuses trailers stops the reading of trailers, with the same fault.
pub stopped_by : (text : List ℕ) (room : ℕ) (fault : HttpFault)
    → ParsesTrailers text room (Err fault) → IsStoppedTrailers text room fault
stopped_by text room faults.BadChunk (inl never) = bad never refl
stopped_by text room faults.BadChunk (inr many) = over (exceeds_lines room text many.1) refl
stopped_by text room faults.Ended x = absurd x
stopped_by text room faults.Device x = absurd x
stopped_by text room faults.BadHead x = absurd x
stopped_by text room faults.BadLength x = absurd x
stopped_by text room faults.TooLarge x = absurd x
stopped_by text room faults.OutOfMemory x = absurd x

-- A parse finds the chunk's line at the byte that makes the line whole.
pub line_read : (most : ℕ) (old text : List ℕ) (b size : ℕ) → HasNoChunkLine old
    → text ≡ old ++ b ∷ [] → length old < most
    → ParsesLine text (Ok (Some size)) → FindsLine most text size
line_read most old text b size none is below found =
    let reads = subst (λ t. ReadsChunkLine t found.0 found.1) is found.2 in
    let whole =
    is ∙ grown.whole_now IsChunkLine print_chunk_line old b found.0 found.1 none reads in
    let long = ap length is ∙ length-append old (b ∷ []) in
    let same = ap length whole in
    record {
      line = found.0;
      within = record { valid = reads.0; bytes = omega (arith, long, same, below) };
      whole = whole;
      says = found.3;
    }

-- A parse finds the trailers at the byte that makes them whole.
pub trailers_read : (limits : HeadLimits) (old text : List ℕ) (b : ℕ) → HasNoTrailers limits old
    → text ≡ old ++ b ∷ [] → length old < limits.head
    → ParsesTrailers text limits.fields (Ok true)
    → (trailers : Trailers) × IsTrailers limits trailers × (text ≡ print_trailers trailers)
trailers_read limits old text b none is below found =
    let trailers : Trailers = record { fields = found.0; last = found.1 } in
    let rest = found.2 in
    let long = ap length is ∙ length-append old (b ∷ []) in
    let all = ap length found.3.1 ∙ length-append (print_trailers trailers) rest in
    let valid : IsTrailers limits trailers =
    record { valid = found.3.0; few = found.4; bytes = omega (arith, all, long, below) } in (
      trailers,
      valid,
      is
          ∙ grown.whole_now (IsTrailers limits) print_trailers old b trailers rest none
          (valid, sym is ∙ found.3.1),
    )

-- Where a parse refuses the text, no trailers came, for that fault.
pub trailers_bad : (limits : HeadLimits) (text : List ℕ) (left : Option (List ℕ)) (failed : Type 0)
    (fault : HttpFault)
    → length text ≤ limits.head → ParsesTrailers text limits.fields (Err fault)
    → LacksTrailers limits text left failed fault
trailers_bad limits text left failed faults.BadChunk short (inl never) =
    (short, never_section limits text never, inl never)
trailers_bad limits text left failed faults.BadChunk short (inr many) =
    (short, overflows limits text many.0, inr (inr (exceeds_lines limits.fields text many.1)))
trailers_bad limits text left failed faults.Ended short x = absurd x
trailers_bad limits text left failed faults.Device short x = absurd x
trailers_bad limits text left failed faults.BadHead short x = absurd x
trailers_bad limits text left failed faults.BadLength short x = absurd x
trailers_bad limits text left failed faults.TooLarge short x = absurd x
trailers_bad limits text left failed faults.OutOfMemory short x = absurd x

-- a text that grew by a byte that was read
pub record Grows (most : ℕ) (old new : Option (List ℕ)) (text : List ℕ) (byte : ℕ)
    (grown_text : List ℕ) : Type 0 where
  pub is : grown_text ≡ text ++ byte ∷ []
  pub taken : Consumes old new grown_text
  pub bytes : length grown_text ≤ most

-- A byte that is read after the text makes the text one byte longer.
pub grows : (most : ℕ) (old mid new : Option (List ℕ)) (text kept grown_text : List ℕ) (byte : ℕ)
    (read : Option ℕ)
    → Consumes old mid text → length text < most → kept ≡ text → grown_text ≡ kept ++ byte ∷ []
    → read ≡ Some byte → Consumes mid new (option_to_list read)
    → Grows most old new text byte grown_text
grows most old mid new text kept grown_text byte read consumes below same is given more =
    let whole : grown_text ≡ text ++ byte ∷ [] = is ∙ ap (λ t. t ++ byte ∷ []) same in
    let long = ap length whole ∙ length-append text (byte ∷ []) in
    let step : Consumes mid new (byte ∷ []) =
    subst (λ o. Consumes mid new (option_to_list o)) given more in
    record {
      is = whole;
      taken =
          subst (Consumes old new) (sym whole)
          (Consumes-trans old mid new text (byte ∷ []) consumes step);
      bytes = omega (arith, long, below);
    }
