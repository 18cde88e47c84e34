-- The row of some bytes, by the field at their front.
use Rattle.std.proofs.Common.{◌≡◌, refl, sym, ap, ◌∙◌, ℕ, ◌+◌, ◌-◌, ◌<◌, List, [], ◌∷◌, length, Ok}
use Rattle.std.proofs.Common.{Err, ◌==◌, false, arith}
use Rattle.std.proofs.lemmas.Bool.{true≢false}
use Rattle.model_message.specs.Reading.{Reading, Fault, done}
use Rattle.model_message.specs.Wire.{Field, put, field, row_from, row_after, row}
use Rattle.model_message.proofs.Fields.{takes-field}
use Rattle.model_message.proofs.RowLaws.{row-field}

-- Bytes of length 0 have a row without a field and without a fault.
pub row-none : (bytes : List ℕ) → length bytes ≡ 0 → row bytes ≡ done []
unfolding row row_after
row-none [] e = refl
row-none (b ∷ bytes) e = absurd (omega (arith, e))

-- Where a field is at the front of the bytes, their row is that field and then the row of the rest.
pub row-first : (bytes rest : List ℕ) (f : Field) → Ok (f, rest) ≡ field bytes
    → row bytes ≡ put f (row rest)
row-first bytes rest f e =
    let s = takes-field.found bytes rest f (sym e) in ap row s.2 ∙ row-field s.0 rest f s.1

-- Where a fault is at the front of the bytes, their row is that fault alone.
pub row-fault : (bytes : List ℕ) (fault : Fault) → 0 < length bytes → Err fault ≡ field bytes
    → row bytes ≡ record { value = []; faults = fault ∷ [] }
unfolding row row_after
row-fault [] fault l e = absurd (omega (arith, l))
row-fault (b ∷ bs) fault l e =
    ap (λ r. row_from r (λ rest. row_after (length bs - length rest) bs)) (sym e)

-- Where a field is given, fewer fields and faults are left.
pub fewer-fields : (old new : Reading (List Field)) (f : Field) → old ≡ put f new
    → length new.value + length new.faults < length old.value + length old.faults
fewer-fields old new f e = rw e (omega arith)

-- Where a fault is given, fewer fields and faults are left.
pub fewer-faults : (old new : Reading (List Field)) (f : Fault)
    → old ≡ record { value = []; faults = f ∷ [] } → new ≡ done []
    → length new.value + length new.faults < length old.value + length old.faults
fewer-faults old new f e d = rw (e, d) (omega arith)

-- Bytes whose length is not 0 have a byte.
pub some-byte : (bytes : List ℕ) → length bytes == 0 ≡ false → 0 < length bytes
some-byte [] e = absurd (true≢false e)
some-byte (b ∷ bytes) e = omega arith
