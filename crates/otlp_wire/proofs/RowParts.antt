-- What the fields of a row hold is in the row's bytes.
use Rattle.std.proofs.Common.{◌≡◌, refl, sym, ap, ◌∙◌, ℕ, zero, suc, ◌-◌, List, [], ◌∷◌, ◌++◌}
use Rattle.std.proofs.Common.{length, Result, Ok, Err, append-nil, append_assoc}
use Rattle.model_message.specs.Reading.{Fault}
use Rattle.model_message.specs.Wire.{Payload, varint, i64, len, i32, Field, field, row_from}
use Rattle.model_message.specs.Wire.{row_after, row}
use Rattle.model_message.specs.Messages.{bytes_in}
use Rattle.model_message.specs.Spelling.{IsPayload}
use Rattle.model_message.proofs.Fields.{takes-field}
use Rattle.otlp_wire.specs.Fields.{IsPart, ArePartsOf}

none-part : (bs : List ℕ) → IsPart [] bs
none-part bs =
    record { before = bs; appended = []; exact = sym (append-nil bs) ∙ sym (append-nil (bs ++ [])) }

after-part : (part a b : List ℕ) → IsPart part b → IsPart part (a ++ b)
after-part part a b h = record {
  before = a ++ h.before;
  appended = h.appended;
  exact =
      ap (λ l. a ++ l) h.exact ∙ sym (append_assoc a (h.before ++ part) h.appended)
      ∙ ap (λ l. l ++ h.appended) (sym (append_assoc a h.before part));
}

before-part : (part a b : List ℕ) → IsPart part a → IsPart part (a ++ b)
before-part part a b h = record {
  before = h.before;
  appended = h.appended ++ b;
  exact = ap (λ l. l ++ b) h.exact ∙ append_assoc (h.before ++ part) h.appended b;
}

in-payload : (p : Payload) (bs : List ℕ) → IsPayload bs p → IsPart (bytes_in p) bs
in-payload (varint n) bs h = none-part bs
in-payload (i64 n) bs h = none-part bs
in-payload (len content) bs h = record {
  before = h.size;
  appended = [];
  exact = h.whole ∙ sym (append-nil (h.size ++ content));
}
in-payload (i32 n) bs h = none-part bs

one-more : (b : ℕ) (bs : List ℕ) (fields : List Field) → ArePartsOf bs fields
    → ArePartsOf (b ∷ bs) fields
one-more b bs [] h = tt
one-more b bs (f ∷ fields) h =
    (after-part (bytes_in f.payload) (b ∷ []) bs h.0, one-more b bs fields h.1)

at-field : (b : ℕ) (bs : List ℕ) → ((skip : ℕ) → ArePartsOf bs (row_after skip bs).value)
    → (r : Result (Field × List ℕ) Fault) → field (b ∷ bs) ≡ r →
    ArePartsOf (b ∷ bs) (row_from r (λ rest. row_after (length bs - length rest) bs)).value
at-field b bs ih (Err f) e = tt
at-field b bs ih (Ok x) e =
    let s = takes-field.found (b ∷ bs) x.1 x.0 e in
    let held : IsPart (bytes_in x.0.payload) s.0 =
    rw s.1.whole
    (after-part (bytes_in x.0.payload) s.1.tag s.1.rest
    (in-payload x.0.payload s.1.rest s.1.payload)) in (
      rw s.2 (before-part (bytes_in x.0.payload) s.0 x.1 held),
      one-more b bs _ (ih (length bs - length x.1)),
    )

parts-after : (bs : List ℕ) (skip : ℕ) → ArePartsOf bs (row_after skip bs).value
unfolding row_after
parts-after [] zero = tt
parts-after [] (suc skip) = tt
parts-after (b ∷ bs) (suc skip) = one-more b bs _ (parts-after bs skip)
parts-after (b ∷ bs) zero = at-field b bs (parts-after bs) (field (b ∷ bs)) refl

-- What each field of a row holds is a part of the row's bytes.
pub parts-of_row : (bs : List ℕ) → ArePartsOf bs (row bs).value
unfolding row
parts-of_row bs = parts-after bs 0
