-- What the functions of this crate give, beside what the definitions say.
use Rattle.std.specs.Prelude.{◌≡◌, ℕ, List, ◌++◌, Result, Ok, Err, Vec}
use Rattle.json.specs.Token.{Token}
use Rattle.model_message.specs.Wire.{Field, Payload}
use Rattle.model_message.specs.Canon.{field_bytes, row_bytes}
use Rattle.otlp_json.specs.declared.fault.JsonFault.{JsonFault}
use Rattle.otlp_json.specs.declared.fault.JsonError.{JsonError}
use Rattle.otlp_json.specs.declared.fault.JsonError.TheVariants as errors
use Rattle.otlp_json.specs.declared.fault.Stop.{Stop}
use Rattle.otlp_json.specs.declared.fault.Stop.TheVariants as stops

-- the field of this number that holds the payload, after these bytes
abbrev pub fielded : List ℕ → ℕ → Result Payload JsonFault → Result (List ℕ) JsonFault
fielded old n (Ok p) = Ok (old ++ field_bytes (record { number = n; payload = p }))
fielded old n (Err fault) = Err fault

-- the bytes of fields after these, and the tokens that are left
abbrev pub appended : List ℕ → Result (List Field × List Token) JsonFault
    → Result (List ℕ × List Token) JsonFault
appended old (Ok x) = Ok (old ++ row_bytes x.0, x.1)
appended old (Err fault) = Err fault

-- what a stop says: a fault is that of the meaning
abbrev pub Fails : {B : Type 0} → Stop → Result B JsonFault → Type 0
Fails stops.OutOfMemory meaning = Unit {0}
Fails (stops.Fault fault) meaning = meaning ≡ Err fault

-- A function leaves this, or stops.
abbrev pub Leaves : {U B : Type 0} → Result U Stop → B → Result B JsonFault → Type 0
Leaves (Ok _) x meaning = meaning ≡ Ok x
Leaves (Err stop) x meaning = Fails stop meaning

-- A function answers this, or stops.
abbrev pub Gives : {A B : Type 0} → (A → B) → Result A Stop → Result B JsonFault → Type 0
Gives view (Ok x) meaning = meaning ≡ Ok (view x)
Gives view (Err stop) meaning = Fails stop meaning

-- The bytes that a text means, or its fault, unless memory is refused. The place of a fault is
-- free.
abbrev pub Reads : {A : Type 0} → Result (Vec ℕ A) JsonError → Result (List ℕ) JsonFault → Type 0
Reads (Ok bytes) meaning = meaning ≡ Ok bytes.items
Reads (Err errors.OutOfMemory) meaning = Unit {0}
Reads (Err (errors.Fault fault offset)) meaning = meaning ≡ Err fault
