-- The joined rows of payloads, one after the other.
use Rattle.std.proofs.Common.{◌≡◌, refl, sym, ap, ◌∙◌, List, [], ◌∷◌, ◌++◌, append-nil}
use Rattle.std.proofs.Common.{append_assoc}
use Rattle.model_message.specs.Reading.{done}
use Rattle.model_message.specs.Wire.{Payload, row}
use Rattle.model_message.specs.Messages.{bytes_in, joined_rows}

-- No payload gives a row without a field and without a fault.
pub joined-none : joined_rows [] ≡ done []
unfolding joined_rows
joined-none = refl

first-faults : (p : Payload) (ps : List Payload)
    → (joined_rows (p ∷ ps)).faults ≡ (row (bytes_in p)).faults ++ (joined_rows ps).faults
unfolding joined_rows
first-faults p ps = append-nil _

first-value : (p : Payload) (ps : List Payload)
    → (joined_rows (p ∷ ps)).value ≡ (row (bytes_in p)).value ++ (joined_rows ps).value
unfolding joined_rows
first-value p ps = refl

-- The faults of joined payloads are those of the first list and then those of the second.
pub joined-faults : (a b : List Payload)
    → (joined_rows (a ++ b)).faults ≡ (joined_rows a).faults ++ (joined_rows b).faults
joined-faults [] b = ap (λ r. r.faults ++ (joined_rows b).faults) (sym joined-none)
joined-faults (p ∷ a) b =
    first-faults p (a ++ b) ∙ ap (λ l. (row (bytes_in p)).faults ++ l) (joined-faults a b)
    ∙ sym (append_assoc (row (bytes_in p)).faults (joined_rows a).faults (joined_rows b).faults)
    ∙ ap (λ l. l ++ (joined_rows b).faults) (sym (first-faults p a))

-- The fields of joined payloads are those of the first list and then those of the second.
pub joined-value : (a b : List Payload)
    → (joined_rows (a ++ b)).value ≡ (joined_rows a).value ++ (joined_rows b).value
joined-value [] b = ap (λ r. r.value ++ (joined_rows b).value) (sym joined-none)
joined-value (p ∷ a) b =
    first-value p (a ++ b) ∙ ap (λ l. (row (bytes_in p)).value ++ l) (joined-value a b)
    ∙ sym (append_assoc (row (bytes_in p)).value (joined_rows a).value (joined_rows b).value)
    ∙ ap (λ l. l ++ (joined_rows b).value) (sym (first-value p a))

-- The faults of one payload, joined alone, are those of its row.
pub one-faults : (p : Payload) → (joined_rows (p ∷ [])).faults ≡ (row (bytes_in p)).faults
one-faults p =
    first-faults p [] ∙ ap (λ r. (row (bytes_in p)).faults ++ r.faults) joined-none
    ∙ append-nil (row (bytes_in p)).faults

-- The fields of one payload, joined alone, are those of its row.
pub one-value : (p : Payload) → (joined_rows (p ∷ [])).value ≡ (row (bytes_in p)).value
one-value p =
    first-value p [] ∙ ap (λ r. (row (bytes_in p)).value ++ r.value) joined-none
    ∙ append-nil (row (bytes_in p)).value
