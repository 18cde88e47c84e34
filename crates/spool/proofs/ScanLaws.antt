-- What one more record that is read adds.
use Rattle.std.proofs.Common.{◌≡◌, ◌⊎◌, inl, inr, refl, sym, ap, ◌∙◌, subst, ℕ, zero, suc, ◌+◌, ◌*◌}
use Rattle.std.proofs.Common.{◌<◌, ◌≤◌, max, List, [], ◌∷◌, ◌++◌, length, take, drop, arith, true}
use Rattle.std.proofs.Common.{false, ap₂, length-append, length-drop}
use Rattle.std.proofs.lemmas.List.{drop-drop, append-nil, length-take-le}
use Rattle.std.proofs.lemmas.List.Elements.{filter_map-append}
use Rattle.std.specs.Prelude.{Bool, Option, Some, None, is_some}
use Rattle.std.specs.Int.{w32, from_le_bytes}
use Rattle.std.proofs.lemmas.Bool.{cases_Bool}
use Rattle.model_deflate.specs.Crc.{crc32}
use Rattle.spool.specs.Records.{length_at, content_at, after_at, is_record_at, is_skipped_at}
use Rattle.spool.specs.Records.{contents, rest, body_of, note_of, bodies, notes, span, slot_of}
use Rattle.spool.specs.Records.{noted_by, damaged_content, one_more}
use Rattle.spool.specs.Spools.{greatest}
use Rattle.spool.specs.Reading.{IsFramed, IsEntry, IsKept, IsRead, read_of, unread_of, span_on}
use Rattle.spool.specs.Reading.{last_end}
use Rattle.spool.specs.declared.records.FileRecords.{FileRecords}
use Rattle.spool.specs.declared.records.Kept.{Kept}
use Rattle.spool.specs.declared.records.Kept.TheVariants as kept
use Rattle.spool.proofs.RecordLaws.{Begins, begins, Skips, skips, skips-there, length-after}
use Rattle.spool.proofs.RecordLaws.{read-more, read-skip, read-none}
use Rattle.spool.proofs.DiskLaws.{greatest-append}

-- Where there are not as many bytes as the length says, there is no record.
pub no-frame : (bytes : List ℕ) → (IsFramed bytes → ⊥) → is_record_at bytes ≡ false
no-frame bytes not = elim (cases_Bool (is_record_at bytes)) [
  | inl is ↦
      let b = begins bytes is in absurd (not (record { some = b.some; there = b.there }))
  | inr is ↦ is
]

-- Nor one that is skipped.
pub no-skip : (bytes : List ℕ) → (IsFramed bytes → ⊥) → is_skipped_at bytes ≡ false
no-skip bytes not = elim (cases_Bool (is_skipped_at bytes)) [
  | inl is ↦
      let s = skips bytes is in absurd (not (record { some = s.some; there = skips-there bytes s }))
  | inr is ↦ is
]

-- Where the check is another, there is no record.
pub no-check : (bytes : List ℕ)
    → (from_le_bytes w32 (take 4 (drop 4 bytes)) ≡ crc32 (content_at bytes) → ⊥)
    → is_record_at bytes ≡ false
no-check bytes not = elim (cases_Bool (is_record_at bytes)) [
  | inl is ↦ absurd (not (begins bytes is).check)
  | inr is ↦ is
]

-- Where the bytes after a record are none, it isn't skipped.
pub no-next : (bytes : List ℕ) → is_record_at (after_at bytes) ≡ false
    → is_skipped_at bytes ≡ false
no-next bytes not = elim (cases_Bool (is_skipped_at bytes)) [
  | inl is ↦ let s = skips bytes is in absurd (cc (s.next, not))
  | inr is ↦ is
]

-- The content and the bytes after it, by parts.
pub parts-at : (bytes after content rest : List ℕ) → after ≡ drop 8 bytes → 8 ≤ length bytes
    → content ≡ take (length_at bytes) after → rest ≡ drop (length_at bytes) after
    → (content ≡ content_at bytes) × (rest ≡ after_at bytes)
unfolding content_at after_at
parts-at bytes after content rest is long front back = (
  front ∙ ap (λ (l : List ℕ). take (length_at bytes) l) is,
  back ∙ (ap (λ (l : List ℕ). drop (length_at bytes) l) is ∙ drop-drop (length_at bytes) 8 bytes),
)

length-content : (bytes : List ℕ) → 8 + length_at bytes ≤ length bytes
    → length (content_at bytes) ≡ length_at bytes
unfolding content_at
length-content bytes there =
    length-take-le (length_at bytes) (drop 8 bytes) (omega (arith, there, length-drop 8 bytes))

-- A record that checks is read.
pub entry-checks : (bytes content after : List ℕ) → is_record_at bytes ≡ true
    → content ≡ content_at bytes → after ≡ after_at bytes → IsEntry bytes content after true
entry-checks bytes content after is c a =
    let b = begins bytes is in
    let more = read-more bytes is in
    let sized = length-content bytes b.there in
    record {
      contents_are =
          more.0
          ∙ ap₂ (λ (x : List ℕ) (l : List ℕ). Some x ∷ contents l) (sym c) (sym a);
      rest_is = omega (arith, ap length (more.1 ∙ ap rest (sym a)));
      sized = omega (arith, ap length c, ap length a, sized, b.there, length-after bytes);
      some = omega (arith, ap length c, sized, b.some);
    }

-- One that is skipped isn't.
pub entry-skipped : (bytes content after : List ℕ) → is_record_at bytes ≡ false
    → is_skipped_at bytes ≡ true → content ≡ content_at bytes → after ≡ after_at bytes
    → IsEntry bytes content after false
entry-skipped bytes content after is skip c a =
    let s = skips bytes skip in
    let there = skips-there bytes s in
    let more = read-skip bytes is skip in
    let sized = length-content bytes there in
    record {
      contents_are =
          more.0
          ∙ ap₂ (λ (x : List ℕ) (l : List ℕ). damaged_content x ++ contents l) (sym c) (sym a);
      rest_is =
          omega (
            arith,
            ap length more.1,
            length-append (take (8 + length_at bytes) bytes) (rest (after_at bytes)),
            length-take-le (8 + length_at bytes) bytes there,
            ap length c,
            sized,
            ap (λ (l : List ℕ). length (rest l)) a,
          );
      sized = omega (arith, ap length c, ap length a, sized, there, length-after bytes);
      some = omega (arith, ap length c, sized, s.some);
    }

-- Where nothing is found yet, all is left.
pub read-begins : (bytes : List ℕ) (found : FileRecords) → found.place ≡ 0 → found.bodies ≡ 0
    → found.done ≡ 0 → found.rest ≡ 0 → IsRead bytes bytes found
read-begins bytes found place ends done left = record {
  bodies_are = rw place (rw ends (nothing (span (bodies (contents bytes)))));
  notes_are = omega (arith, done);
  rest_is = omega (arith, left);
  unread = omega (arith, left);
  few = omega (arith, place);
  within = omega (arith, place, ends);
}
  where
    nothing : (n : ℕ) → last_end 0 0 n ≡ n
    nothing zero = refl
    nothing (suc n) = omega arith

-- With one more record.
pub read-adds : (bytes left content after : List ℕ) (checks : Bool) (old new : FileRecords)
    → IsRead bytes left old → IsEntry left content after checks
    → ((next : List (Option (List ℕ)))
    → span_on new.place new.bodies next
    ≡ span_on old.place old.bodies (bodies (read_of checks content) ++ next))
    → new.place ≤ old.place + 1 → (old.bodies ≤ old.place → new.bodies ≤ new.place)
    → new.done ≡ max old.done (greatest (notes (read_of checks content)))
    → new.rest ≡ old.rest + unread_of checks content
    → unread_of checks content ≤ 8 + length content
    → IsRead bytes after new
read-adds bytes left content after checks old new was entry spans places within done unread most =
    let parts : bodies (contents left)
    ≡ bodies (read_of checks content) ++ bodies (contents after) =
    ap bodies entry.contents_are
    ∙ filter_map-append slot_of (read_of checks content) (contents after) in
    let noted : notes (contents left) ≡ notes (read_of checks content) ++ notes (contents after) =
    ap notes entry.contents_are
    ∙ filter_map-append noted_by (read_of checks content) (contents after) in
    record {
      bodies_are =
          spans (bodies (contents after))
          ∙ (ap (span_on old.place old.bodies) (sym parts) ∙ was.bodies_are);
      notes_are =
          omega (
            arith,
            done,
            was.notes_are,
            ap greatest noted,
            greatest-append (notes (read_of checks content)) (notes (contents after)),
          );
      rest_is = omega (arith, unread, was.rest_is, entry.rest_is);
      unread = omega (arith, unread, most, was.unread, entry.sized);
      few = omega (arith, places, was.few, entry.sized, entry.some);
      within = within was.within;
    }

-- How many bytes of a record are not read: no more than it has.
pub unread-most : (checks : Bool) (content : List ℕ) → unread_of checks content ≤ 8 + length content
unread-most true content = omega arith
unread-most false content = omega arith

-- Where no more is read, all was found.
pub read-ends : (bytes left : List ℕ) (found : FileRecords) → IsRead bytes left found
    → (contents left ≡ []) × (rest left ≡ left)
    → (found.bodies ≡ span (bodies (contents bytes)))
    × ((found.done ≡ greatest (notes (contents bytes)))
    × (found.rest + length left ≡ length (rest bytes)))
read-ends bytes left found was none = (
  sym (ap (λ (l : List (Option (List ℕ))). span_on found.place found.bodies (bodies l)) none.0)
      ∙ was.bodies_are,
  (
    omega (arith, was.notes_are, ap (λ (l : List (Option (List ℕ))). greatest (notes l)) none.0),
    omega (arith, was.rest_is, ap length none.1),
  ),
)

-- A body takes the place after those before it, and is the last one.
pub span-body : (place ends : ℕ) (body : List ℕ) (next : List (Option (List ℕ)))
    → span_on (place + 1) (place + 1) next ≡ span_on place ends (Some body ∷ next)
span-body place ends body next = go (span next)
  where
    go : (n : ℕ) → last_end (place + 1) (place + 1) n ≡ last_end place ends (suc n)
    go zero = omega arith
    go (suc n) = omega arith

-- So does a damaged one, but that it isn't the last one.
pub span-lost : (place ends : ℕ) (next : List (Option (List ℕ)))
    → span_on (place + 1) ends next ≡ span_on place ends (None ∷ next)
span-lost place ends next = go (span next)
  where
    go : (n : ℕ) → last_end (place + 1) ends n ≡ last_end place ends (one_more n)
    go zero = refl
    go (suc n) = omega arith

-- A record that checks and keeps a body has one body.
pub read-body : (checks : Bool) (content : List ℕ) → checks ≡ true
    → is_some (body_of content) ≡ true
    → (body : List ℕ) × (bodies (read_of checks content) ≡ Some body ∷ [])
read-body false content is some = absurd (cc)
read-body true content is some = go (body_of content) refl some
  where
    go : (o : Option (List ℕ)) → body_of content ≡ o → is_some o ≡ true
        → (body : List ℕ) × (bodies (Some content ∷ []) ≡ Some body ∷ [])
    go None e there = absurd (cc)
    go (Some b) e there = (b, rw e refl)
