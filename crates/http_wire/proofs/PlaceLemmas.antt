-- Places in a head, and that a head ends where a parse is due.
use Rattle.std.proofs.Common.{◌≡◌, ◌≢◌, ◌⊎◌, ℕ, Bool, true, false, not, ◌||◌, List, [], ◌∷◌, ◌++◌}
use Rattle.std.proofs.Common.{length, refl, sym, ap, subst, ◌∙◌, arith, append_assoc, append-nil}
use Rattle.std.proofs.Common.{length-append, inl, inr, IsTrue}
use mathlib.Core.Bool.{beq}
use Rattle.std.proofs.lemmas.List.{append_cancel_left, append_cancel_right}
use Rattle.std.proofs.lemmas.Bool.Decides.{eqb_tells}
use Rattle.httparse.specs.Ascii.{line_feed, carriage_return}
use Rattle.httparse.specs.Grammar.{LineEnd, crlf, lf, print_end, print_blank, Field, print_field}
use Rattle.std.specs.List.{flat_map}
use Rattle.std.proofs.lemmas.List.Concat.{flat_map-append}
use Rattle.httparse.proofs.GrammarLemmas.{cons-append}
use Rattle.http_wire.specs.declared.place.HeadPlace.{HeadPlace}
use Rattle.http_wire.specs.declared.place.LinePart.{LinePart}
use Rattle.http_wire.specs.declared.place.LinePart.TheVariants as parts
use Rattle.http_wire.specs.Places.{AreLines, AreBlank, IsUnended, IsEmptyLine, IsDue, HasBegun}
use Rattle.http_wire.specs.Places.{IsPart, is_text, IsPlace}
use Rattle.http_wire.specs.Heads.{HasNone}
use Rattle.http_wire.proofs.HeadLemmas as grown

-- ---- lines

-- Of two cuts of one list, one is at the other or after it.
cut : (a b c d : List ℕ) → a ++ b ≡ c ++ d
    → ((more : List ℕ) × (c ≡ a ++ more) × (b ≡ more ++ d))
    ⊎ ((more : List ℕ) × (a ≡ c ++ more) × (d ≡ more ++ b))
cut [] b c d e = inl (c, refl, e)
cut (x ∷ a) b [] d e = inr (x ∷ a, refl, sym e)
cut (x ∷ a) b (y ∷ c) d e =
    let heads : x ≡ y = cc in
    let tails : a ++ b ≡ c ++ d = cc in
    elim (cut a b c d tails) [
      | inl both ↦ inl (both.0, let is = both.1 in cc, both.2)
      | inr both ↦ inr (both.0, let is = both.1 in cc, both.2)
    ]

-- A list of length 0 is empty.
empty : (xs : List ℕ) → length xs ≡ 0 → xs ≡ []
empty [] z = refl
empty (x ∷ xs) z = absurd (omega (arith, z))

-- An end of whole lines that begins a line without an end is empty.
nothing_more : (lines front more line rest : List ℕ) → AreLines lines → lines ≡ front ++ more
    → line ≡ more ++ rest → IsUnended line → more ≡ []
nothing_more lines front more line rest (inl none) e f unended =
    let sizes = ap length (sym e ∙ none) in
    empty more (omega (arith, sizes, length-append front more))
nothing_more lines front more line rest (inr ends) e f unended =
    elim (grown.push_split ends.0 10 front more (sym ends.1 ∙ e)) [
      | inl both ↦ both.0
      | inr both ↦
          let same : front ++ (both.0 ++ 10 ∷ []) ≡ front ++ more =
          sym (append_assoc front both.0 (10 ∷ [])) ∙ ap (λ t. t ++ 10 ∷ []) (sym both.1)
          ∙ sym ends.1 ∙ e in
          let is : both.0 ++ 10 ∷ [] ≡ more =
          append_cancel_left front (both.0 ++ 10 ∷ []) more same in
          absurd
          (unended both.0 rest
          (f ∙ ap (λ t. t ++ rest) (sym is) ∙ append_assoc both.0 (10 ∷ []) rest))
    ]

-- A text has one cut into whole lines and a line without an end.
pub cut_one : (lines line others other : List ℕ) → AreLines lines → AreLines others → IsUnended line
    → IsUnended other
    → lines ++ line ≡ others ++ other → (lines ≡ others) × (line ≡ other)
cut_one lines line others other ended other_ended unended other_unended e =
    elim (cut lines line others other e) [
      | inl both ↦
          let none =
          nothing_more others lines both.0 line other other_ended both.1 both.2 unended in (
            sym (both.1 ∙ ap (λ t. lines ++ t) none ∙ append-nil lines),
            both.2 ∙ ap (λ t. t ++ other) none,
          )
      | inr both ↦
          let none =
          nothing_more lines others both.0 other line ended both.1 both.2 other_unended in (
            both.1 ∙ ap (λ t. others ++ t) none ∙ append-nil others,
            sym (both.2 ∙ ap (λ t. t ++ line) none),
          )
    ]

-- ---- lines' ends

-- A list of ends of lines has a last one, or it is empty.
last_end : (ends : List LineEnd)
    → (ends ≡ []) ⊎ ((init : List LineEnd) × (last : LineEnd) × (ends ≡ init ++ last ∷ []))
last_end [] = inl refl
last_end (end ∷ ends) = elim (last_end ends) [
  | inl none ↦ inr ([], end, ap (λ t. end ∷ t) none)
  | inr some ↦ inr (end ∷ some.0, some.1, ap (λ t. end ∷ t) some.2)
]

-- what is in front of the line feed of a line's end
abbrev end_line : LineEnd → List ℕ
end_line crlf = carriage_return ∷ []
end_line lf = []

is_end : (end : LineEnd) → print_end end ≡ end_line end ++ line_feed ∷ []
is_end crlf = refl
is_end lf = refl

empty_of_end : (end : LineEnd) → IsEmptyLine (end_line end)
empty_of_end crlf = inr refl
empty_of_end lf = inl refl

end_of_empty : (line : List ℕ) → IsEmptyLine line → (end : LineEnd) × (line ≡ end_line end)
end_of_empty line (inl none) = (lf, none)
end_of_empty line (inr cr) = (crlf, cr)

-- An empty line has no line feed yet.
nothing_unended : IsUnended []
nothing_unended front rest e =
    let sizes = ap length e ∙ length-append front (10 ∷ rest) in
    omega (arith, sizes)

cr_unended : IsUnended (carriage_return ∷ [])
cr_unended [] rest e = absurd cc
cr_unended (x ∷ front) rest e = nothing_unended front rest cc

end_unended : (end : LineEnd) → IsUnended (end_line end)
end_unended crlf = cr_unended
end_unended lf = nothing_unended

-- ---- empty lines

one_end_more : (ends : List LineEnd) (end : LineEnd)
    → print_blank (ends ++ end ∷ []) ≡ print_blank ends ++ (end_line end ++ line_feed ∷ [])
one_end_more ends end =
    flat_map-append print_end ends (end ∷ [])
    ∙ ap (λ t. print_blank ends ++ t) (append-nil (print_end end) ∙ is_end end)

-- Empty lines are whole lines.
blank_lines : (ends : List LineEnd) → AreLines (print_blank ends)
blank_lines ends = elim (last_end ends) [
  | inl none ↦ inl (ap print_blank none)
  | inr some ↦
      let init = print_blank some.0 in
      let end = end_line some.1 in
      inr (
        init ++ end,
        ap print_blank some.2 ∙ one_end_more some.0 some.1 ∙ sym (append_assoc init end (10 ∷ [])),
      )
]

-- One more empty line makes more empty lines.
blank_more : (lines line : List ℕ) → AreBlank lines → IsEmptyLine line
    → AreBlank (lines ++ (line ++ line_feed ∷ []))
blank_more lines line blank none =
    let end = end_of_empty line none in (
      blank.0 ++ end.0 ∷ [],
      ap (λ t. t ++ (line ++ 10 ∷ [])) blank.1
          ∙ ap (λ t. print_blank blank.0 ++ (t ++ 10 ∷ [])) end.1
          ∙ sym (one_end_more blank.0 end.0),
    )

-- A text that ends in a line feed has one cut into whole lines and a last line that has ended.
same_ends : (lines line others other : List ℕ) → AreLines lines → AreLines others → IsUnended line
    → IsUnended other
    → lines ++ (line ++ line_feed ∷ []) ≡ others ++ (other ++ line_feed ∷ [])
    → (lines ≡ others) × (line ≡ other)
same_ends lines line others other ended other_ended unended other_unended e =
    let whole = append_assoc lines line (10 ∷ []) ∙ e ∙ sym (append_assoc others other (10 ∷ [])) in
    cut_one lines line others other ended other_ended unended other_unended
    (append_cancel_right (lines ++ line) (others ++ other) (10 ∷ []) whole)

-- Of empty lines, the last is empty and those before it are empty lines.
blank_less : (lines line : List ℕ) → AreLines lines → IsUnended line
    → AreBlank (lines ++ (line ++ line_feed ∷ []))
    → AreBlank lines × IsEmptyLine line
blank_less lines line ended unended blank = elim (last_end blank.0) [
  | inl none ↦
      let sizes = ap length (blank.1 ∙ ap print_blank none) in
      let all = length-append lines (line ++ 10 ∷ []) in
      let some = length-append line (10 ∷ []) in
      absurd (omega (arith, sizes, all, some))
  | inr some ↦
      let end = some.1 in
      let one =
      same_ends lines line (print_blank some.0) (end_line end) ended (blank_lines some.0) unended
      (end_unended end)
      (blank.1 ∙ ap print_blank some.2 ∙ one_end_more some.0 end) in
      ((some.0, one.0), subst IsEmptyLine (sym one.1) (empty_of_end end))
]

-- The bytes of empty lines are line feeds and CRs.
blank_bytes : (ends : List LineEnd) (front : List ℕ) (byte : ℕ) (rest : List ℕ)
    → print_blank ends ≡ front ++ byte ∷ rest
    → (byte ≡ 10) ⊎ (byte ≡ 13)
blank_bytes [] front byte rest e =
    let sizes = ap length e ∙ length-append front (byte ∷ rest) in
    absurd (omega (arith, sizes))
blank_bytes (lf ∷ ends) [] byte rest e = inl cc
blank_bytes (lf ∷ ends) (x ∷ front) byte rest e = blank_bytes ends front byte rest cc
blank_bytes (crlf ∷ ends) [] byte rest e = inr cc
blank_bytes (crlf ∷ ends) (x ∷ []) byte rest e = inl cc
blank_bytes (crlf ∷ ends) (x ∷ y ∷ front) byte rest e = blank_bytes ends front byte rest cc

-- ---- places

-- Before the first byte, no line has begun.
pub place_new : IsPlace [] (record { begun = false; line = parts.Nothing })
place_new = record {
  lines = [];
  line = [];
  whole = refl;
  ended = inl refl;
  unended = nothing_unended;
  begun = ([], refl);
  part = refl;
}

-- Whether a line that isn't empty has ended is right after one more end of a line.
begun_more : (begun : Bool) (part : LinePart) (lines line : List ℕ) → AreLines lines
    → IsUnended line → HasBegun begun lines → IsPart part line
    → HasBegun (begun || is_text part) (lines ++ (line ++ line_feed ∷ []))
begun_more true part lines line ended unended has is =
    λ blank. has (blank_less lines line ended unended blank).0
begun_more false parts.Nothing lines line ended unended has is = blank_more lines line has (inl is)
begun_more false parts.Return lines line ended unended has is = blank_more lines line has (inr is)
begun_more false parts.Text lines line ended unended has is =
    λ blank. is (blank_less lines line ended unended blank).1

-- The place is right after a line feed.
pub place_ended : (text : List ℕ) (old : HeadPlace) (begun : Bool) → IsPlace text old
    → begun ≡ (old.begun || is_text old.line)
    → IsPlace (text ++ line_feed ∷ []) (record { begun = begun; line = parts.Nothing })
place_ended text old begun at same =
    let whole = ap (λ t. t ++ 10 ∷ []) at.whole ∙ append_assoc at.lines at.line (10 ∷ []) in
    let lines = at.lines ++ (at.line ++ 10 ∷ []) in
    record {
      lines = lines;
      line = [];
      whole = whole ∙ sym (append-nil lines);
      ended = inr (at.lines ++ at.line, sym (append_assoc at.lines at.line (10 ∷ [])));
      unended = nothing_unended;
      begun =
          subst (λ b. HasBegun b lines) (sym same)
          (begun_more old.begun old.line at.lines at.line at.ended at.unended at.begun at.part);
      part = refl;
    }

-- After a line feed a parse is due where it ends the first line that isn't empty, or an empty line
-- after that.
due_parts : (begun : Bool) (part : LinePart) (lines line : List ℕ) → HasBegun begun lines
    → IsPart part line → is_text part ≡ not begun
    → (AreBlank lines × ¬ (IsEmptyLine line)) ⊎ (¬ (AreBlank lines) × IsEmptyLine line)
due_parts false parts.Text lines line has is e = inl (has, is)
due_parts true parts.Nothing lines line has is e = inr (has, inl is)
due_parts true parts.Return lines line has is e = inr (has, inr is)
due_parts true parts.Text lines line has is e = absurd cc
due_parts false parts.Nothing lines line has is e = absurd cc
due_parts false parts.Return lines line has is e = absurd cc

parts_due : (begun : Bool) (part : LinePart) (lines line : List ℕ) → HasBegun begun lines
    → IsPart part line
    → (AreBlank lines × ¬ (IsEmptyLine line)) ⊎ (¬ (AreBlank lines) × IsEmptyLine line)
    → is_text part ≡ not begun
parts_due false parts.Text lines line has is due = refl
parts_due true parts.Nothing lines line has is due = refl
parts_due true parts.Return lines line has is due = refl
parts_due true parts.Text lines line has is (inl due) = absurd (has due.0)
parts_due true parts.Text lines line has is (inr due) = absurd (is due.1)
parts_due false parts.Nothing lines line has is (inl due) = absurd (due.1 (inl is))
parts_due false parts.Nothing lines line has is (inr due) = absurd (due.0 has)
parts_due false parts.Return lines line has is (inl due) = absurd (due.1 (inr is))
parts_due false parts.Return lines line has is (inr due) = absurd (due.0 has)

-- Where the place says that a parse is due at a line feed, it is due after that line feed.
pub due_ended : (text : List ℕ) (old : HeadPlace) → IsPlace text old
    → is_text old.line ≡ not old.begun → IsDue (text ++ line_feed ∷ [])
due_ended text old at e = record {
  lines = at.lines;
  line = at.line;
  whole = ap (λ t. t ++ 10 ∷ []) at.whole ∙ append_assoc at.lines at.line (10 ∷ []);
  ended = at.ended;
  unended = at.unended;
  due = due_parts old.begun old.line at.lines at.line at.begun at.part e;
}

-- Where a parse is due after a line feed, the place said so before it.
pub ended_due : (text : List ℕ) (old : HeadPlace) → IsPlace text old
    → IsDue (text ++ line_feed ∷ []) → is_text old.line ≡ not old.begun
ended_due text old at due =
    let whole =
    sym (append_assoc at.lines at.line (10 ∷ [])) ∙ ap (λ t. t ++ 10 ∷ []) (sym at.whole)
    ∙ due.whole in
    let one =
    same_ends at.lines at.line due.lines due.line at.ended due.ended at.unended due.unended whole in
    parts_due old.begun old.line due.lines due.line (subst (HasBegun old.begun) one.0 at.begun)
    (subst (IsPart old.line) one.1 at.part) due.due

-- A truth value that is the negation of another differs from it.
pub differ : (a b : Bool) → a ≡ not b → IsTrue (not (beq a b))
differ true false e = refl
differ false true e = refl
differ true true e = absurd cc
differ false false e = absurd cc

-- A truth value that differs from another is its negation.
pub is_other : (a b : Bool) → IsTrue (not (beq a b)) → a ≡ not b
is_other true false e = refl
is_other false true e = refl
is_other true true e = absurd cc
is_other false false e = absurd cc

-- After a byte other than a line feed no parse is due.
pub not_due : (text : List ℕ) (byte : ℕ) → (byte ≡ 10 → ⊥) → ¬ (IsDue (text ++ byte ∷ []))
not_due text byte other due =
    other (grown.push_last text (due.lines ++ due.line) byte 10
    (due.whole ∙ sym (append_assoc due.lines due.line (10 ∷ []))))

-- One more byte, other than a line feed, leaves a line without an end.
more_unended : (line : List ℕ) (byte : ℕ) → IsUnended line → (byte ≡ 10 → ⊥)
    → IsUnended (line ++ byte ∷ [])
more_unended line byte unended other front rest e =
    elim (grown.push_split line byte front (10 ∷ rest) e) [
      | inl both ↦ let none = ap length both.0 in omega (arith, none)
      | inr both ↦
          appended both.0 both.1
          (append_cancel_left front (both.0 ++ byte ∷ []) (10 ∷ rest)
          (sym (append_assoc front both.0 (byte ∷ [])) ∙ ap (λ t. t ++ byte ∷ []) (sym both.1) ∙ e))
    ]
  where
    appended : (more : List ℕ) → line ≡ front ++ more → more ++ byte ∷ [] ≡ 10 ∷ rest → ⊥
    appended [] f g = other cc
    appended (x ∷ more) f g =
        let first : x ≡ 10 = cc in unended front more (f ∙ ap (λ y. front ++ y ∷ more) first)

more_text : (part : LinePart) (line : List ℕ) (byte : ℕ) → IsPart part line
    → (part ≡ parts.Nothing → byte ≡ 13 → ⊥) → ¬ (IsEmptyLine (line ++ byte ∷ []))
more_text part line byte is other (inl e) =
    let sizes = sym (ap length e) ∙ length-append line (byte ∷ []) in
    omega (arith, sizes)
more_text parts.Nothing line byte is other (inr e) = other refl (grown.push_last line [] byte 13 e)
more_text parts.Return line byte is other (inr e) =
    let sizes = sym (ap length e) ∙ length-append line (byte ∷ []) in
    let one = ap length is in
    omega (arith, sizes, one)
more_text parts.Text line byte is other (inr e) =
    let sizes = sym (ap length e) ∙ length-append line (byte ∷ []) in
    is (inl (empty line (omega (arith, sizes))))

place_on : (text : List ℕ) (byte : ℕ) (old : HeadPlace) (part : LinePart) (at : IsPlace text old)
    → (byte ≡ 10 → ⊥)
    → IsPart part (at.line ++ byte ∷ [])
    → IsPlace (text ++ byte ∷ []) (record { begun = old.begun; line = part })
place_on text byte old part at other is = record {
  lines = at.lines;
  line = at.line ++ byte ∷ [];
  whole = ap (λ t. t ++ byte ∷ []) at.whole ∙ append_assoc at.lines at.line (byte ∷ []);
  ended = at.ended;
  unended = more_unended at.line byte at.unended other;
  begun = at.begun;
  part = is;
}

-- The place is right after the first byte of a line.
pub place_begun : (text : List ℕ) (byte : ℕ) (old : HeadPlace) (part : LinePart) → IsPlace text old
    → (byte ≡ 10 → ⊥) → old.line ≡ parts.Nothing
    → (byte ≡ 13 → part ≡ parts.Return) → (byte ≢ 13 → part ≡ parts.Text)
    → IsPlace (text ++ byte ∷ []) (record { begun = old.begun; line = part })
place_begun text byte old part at feed nothing cr other =
    let none : at.line ≡ [] = subst (λ p. IsPart p at.line) nothing at.part in
    place_on text byte old part at feed (elim (eqb_tells byte 13) [
      | inl both ↦
          subst (λ p. IsPart p (at.line ++ byte ∷ [])) (sym (cr both.1))
          (ap (λ t. t ++ byte ∷ []) none ∙ ap (λ b. b ∷ []) both.1)
      | inr both ↦
          subst (λ p. IsPart p (at.line ++ byte ∷ [])) (sym (other both.1))
          (more_text old.line at.line byte at.part (λ _. both.1))
    ])

-- The place is right after a further byte of a line.
pub place_further : (text : List ℕ) (byte : ℕ) (old : HeadPlace) → IsPlace text old
    → (byte ≡ 10 → ⊥) → (old.line ≡ parts.Return) ⊎ (old.line ≡ parts.Text)
    → IsPlace (text ++ byte ∷ []) (record { begun = old.begun; line = parts.Text })
place_further text byte old at feed further =
    place_on text byte old parts.Text at feed
    (more_text old.line at.line byte at.part (λ nothing. elim further [
      | inl is ↦ differ_parts (sym nothing ∙ is)
      | inr is ↦ differ_texts (sym nothing ∙ is)
    ]))
  where
    differ_parts : parts.Nothing ≡ parts.Return → byte ≡ 13 → ⊥
    differ_parts e = absurd cc

    differ_texts : parts.Nothing ≡ parts.Text → byte ≡ 13 → ⊥
    differ_texts e = absurd cc

-- ---- heads

-- After a line that has a byte other than CR and LF, fields, and an empty line, a parse is due.
pub section_due : (front rest : List ℕ) (byte : ℕ) (line_end : LineEnd) (fields : List Field)
    (last : LineEnd)
    → (byte ≡ 10 → ⊥) → (byte ≡ 13 → ⊥)
    → IsDue ((front ++ byte ∷ rest ++ print_end line_end)
    ++ (flat_map print_field fields ++ print_end last))
section_due front rest byte line_end fields last feed cr =
    let start = front ++ byte ∷ rest ++ print_end line_end in
    let lines = start ++ flat_map print_field fields in
    record {
      lines = lines;
      line = end_line last;
      whole =
          sym (append_assoc start (flat_map print_field fields) (print_end last))
          ∙ ap (λ t. lines ++ t) (is_end last);
      ended = fields_end start fields (inr start_ends);
      unended = end_unended last;
      due = inr (filled, empty_of_end last);
    }
  where
    start_ends : (ends : List ℕ) × (front ++ byte ∷ rest ++ print_end line_end ≡ ends ++ 10 ∷ [])
    start_ends =
        let end = grown.end_ends line_end in (
          front ++ byte ∷ rest ++ end.0,
          ap (λ t. front ++ byte ∷ rest ++ t) end.1 ∙ simp append_assoc,
        )

    regroup : (a b c d : List ℕ)
        → a ++ (b ++ 58 ∷ c ++ (d ++ 10 ∷ [])) ≡ (a ++ b ++ 58 ∷ c ++ d) ++ 10 ∷ []
    regroup a b c d = simp (append_assoc, cons-append)

    fields_end : (start : List ℕ) (fields : List Field) → AreLines start
        → AreLines (start ++ flat_map print_field fields)
    fields_end start [] ended = subst AreLines (sym (append-nil start)) ended
    fields_end start (field ∷ fields) ended =
        let end = grown.end_ends field.end in
        let one : AreLines (start ++ print_field field) =
        inr (
          start ++ field.name ++ 58 ∷ field.raw ++ end.0,
          ap (λ t. start ++ (field.name ++ 58 ∷ field.raw ++ t)) end.1
              ∙ regroup start field.name field.raw end.0,
        ) in
        subst AreLines (append_assoc start (print_field field) (flat_map print_field fields))
        (fields_end (start ++ print_field field) fields one)

    filled :
        ¬ (AreBlank ((front ++ byte ∷ rest ++ print_end line_end) ++ flat_map print_field fields))
    filled blank =
        elim (blank_bytes blank.0 front byte
        (rest ++ print_end line_end ++ flat_map print_field fields)
        (sym blank.1 ∙ simp append_assoc)) [
          | inl is ↦ feed is
          | inr is ↦ cr is
        ]

-- a parse is due after each such head
abbrev pub EndsDue : {H : Type 0} → (H → Type 0) → (H → List ℕ) → Type 0
EndsDue {H} Valid print = (head : H) → Valid head → IsDue (print head)

-- The empty text has no head after which a parse is due.
pub none_of_nothing : {H : Type 0} (Valid : H → Type 0) (print : H → List ℕ) → EndsDue Valid print
    → HasNone Valid print []
none_of_nothing Valid print ends head rest reads =
    let due = ends head reads.0 in
    let all = ap length reads.1 ∙ length-append (print head) rest in
    let lines = ap length due.whole ∙ length-append due.lines (due.line ++ 10 ∷ []) in
    let line = length-append due.line (10 ∷ []) in
    omega (arith, all, lines, line)

-- A text after which a parse is due ends in a line feed.
pub due_ends : (text : List ℕ) → IsDue text → (front : List ℕ) × (text ≡ front ++ 10 ∷ [])
due_ends text due = (due.lines ++ due.line, due.whole ∙ simp append_assoc)

-- A byte after which no parse is due makes no head.
pub none_before_due : {H : Type 0} (Valid : H → Type 0) (print : H → List ℕ) → EndsDue Valid print
    → (text : List ℕ) (byte : ℕ) → HasNone Valid print text → ¬ (IsDue (text ++ byte ∷ []))
    → HasNone Valid print (text ++ byte ∷ [])
none_before_due Valid print ends text byte none not_yet head rest reads =
    elim (grown.push_split text byte (print head) rest reads.1) [
      | inl both ↦ not_yet (subst IsDue both.1 (ends head reads.0))
      | inr both ↦ none head both.0 (reads.0, both.1)
    ]
