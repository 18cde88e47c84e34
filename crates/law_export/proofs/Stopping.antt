-- Where a row stops.
use Rattle.std.proofs.Common.{◌≡◌, ◌≢◌, refl, sym, ap, subst, ◌∙◌, ℕ, zero, suc, List, [], ◌∷◌}
use Rattle.std.proofs.Common.{◌++◌, length, drop, Result, Ok, Err, ◌↔◌, append-nil, append_assoc}
use Rattle.std.proofs.Common.{arith, ◌-◌}
use Rattle.std.proofs.lemmas.List.{length-append, drop_at}
use Rattle.model_message.specs.Reading.{Fault, Reading}
use Rattle.model_message.specs.Wire.{field, Field, row_from, row_after, row}
use Rattle.model_message.specs.Spelling.{IsEnded, IsField}
use Rattle.model_message.proofs.Fields.{takes-field}
use Rattle.model_message.proofs.RowLaws.{row-append, appended}
use Rattle.law_export.specs.Faults.{StopsAfter}
use Rattle.law_export.proofs.Standing.{faults-stand}

abbrev stopped : List Field → Fault → Reading (List Field)
stopped fields f = record { value = fields; faults = f ∷ [] }

-- A row with no field at its front stops there, with the fault of that place.
row-refused : (rest : List ℕ) (f : Fault) → rest ≢ [] → field rest ≡ Err f → row rest ≡ stopped [] f
unfolding row row_after
row-refused [] f some e = absurd (some refl)
row-refused (b ∷ bs) f some e =
    ap (λ r. row_from r (λ rest. row_after (length bs - length rest) bs)) e

row-stops : (bs : List ℕ) (fields : List Field) (f : Fault) → StopsAfter bs fields f
    → row bs ≡ stopped fields f
row-stops bs fields f s =
    ap row s.whole ∙ row-append s.front s.rest fields s.spelled
    ∙ ap (appended fields) (row-refused s.rest f s.more ((faults-stand s.rest f).1 s.stands))
    ∙ ap (λ l. stopped l f) (append-nil fields)

not-nothing : (tag rest : List ℕ) → [] ≡ tag ++ rest → IsEnded tag → ⊥
not-nothing [] rest e h = h
not-nothing (b ∷ tag) rest e h = absurd (omega (arith, ap length e))

rest-of : (b : ℕ) (bs front rest : List ℕ) → b ∷ bs ≡ front ++ rest → (g : Field) → IsField front g
    → drop (length bs - length rest) bs ≡ rest
rest-of b bs [] rest e g s = absurd (not-nothing s.tag s.rest s.whole s.is_tag.ended)
rest-of b bs (c ∷ front) rest e g s =
    let same : bs ≡ front ++ rest = ap (drop 1) e in
    ap (λ l. drop (length l - length rest) l) same
    ∙ ap (λ n. drop n (front ++ rest)) (past front rest) ∙ drop_at front rest (length front) refl
  where
    past : (front rest : List ℕ) → length (front ++ rest) - length rest ≡ length front
    past front rest = simp length-append (omega arith)

no-faults : (f : Fault) → [] ≡ f ∷ [] → ⊥
no-faults f e = omega (arith, ap length e)

-- A row that stops does so too with one more field in front.
more-front : (bs front rest : List ℕ) (g : Field) (fields : List Field) (f : Fault)
    → IsField front g → bs ≡ front ++ rest → StopsAfter rest fields f → StopsAfter bs (g ∷ fields) f
more-front bs front rest g fields f h e s = record {
  front = front ++ s.front;
  rest = s.rest;
  spelled = (front, s.front, h, s.spelled, refl);
  more = s.more;
  stands = s.stands;
  whole = e ∙ ap (λ l. front ++ l) s.whole ∙ sym (append_assoc front s.front s.rest);
}

abbrev Stopped : List ℕ → Reading (List Field) → Fault → Type 0
Stopped bs r f = r.faults ≡ f ∷ [] → StopsAfter bs r.value f

found-at : (b : ℕ) (bs : List ℕ) (f : Fault)
    → ((skip : ℕ) → Stopped (drop skip bs) (row_after skip bs) f) →
    (r : Result (Field × List ℕ) Fault) → field (b ∷ bs) ≡ r
    → Stopped (b ∷ bs) (row_from r (λ rest. row_after (length bs - length rest) bs)) f
found-at b bs f ih (Err g) e h = record {
  front = [];
  rest = b ∷ bs;
  spelled = refl;
  more = λ none. omega (arith, ap length none);
  stands = (faults-stand (b ∷ bs) f).0 (e ∙ ap (λ fs. Err (first-of g fs)) h);
  whole = refl;
}
  where
    first-of : Fault → List Fault → Fault
    first-of d [] = d
    first-of d (f ∷ fs) = f
found-at b bs f ih (Ok x) e h =
    let s = takes-field.found (b ∷ bs) x.1 x.0 e in
    let later : List Field = (row_after (length bs - length x.1) bs).value in
    more-front (b ∷ bs) s.0 x.1 x.0 later f s.1 s.2
    (subst (λ l. StopsAfter l later f) (rest-of b bs s.0 x.1 s.2 x.0 s.1)
    (ih (length bs - length x.1) h))

row-found : (bs : List ℕ) (skip : ℕ) (f : Fault) → Stopped (drop skip bs) (row_after skip bs) f
unfolding row_after
row-found [] zero f h = absurd (no-faults f h)
row-found [] (suc skip) f h = absurd (no-faults f h)
row-found (b ∷ bs) (suc skip) f h = row-found bs skip f h
row-found (b ∷ bs) zero f h = found-at b bs f (λ skip. row-found bs skip f) (field (b ∷ bs)) refl h

-- A row with a fault has just the fields before the first place that has no field.
pub row-stops-at : (bs : List ℕ) (fields : List Field) (f : Fault)
    → (row bs ≡ stopped fields f) ↔ StopsAfter bs fields f
unfolding row
row-stops-at bs fields f = (
  λ e. subst (λ l. StopsAfter bs l f) (ap (λ r. r.value) e)
      (row-found bs 0 f (ap (λ r. r.faults) e)),
  row-stops bs fields f,
)
