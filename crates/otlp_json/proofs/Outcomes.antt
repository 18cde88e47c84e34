-- What functions leave and give, passed on.
use Rattle.std.proofs.Common.{◌≡◌, ◌≢◌, ℕ, List, ◌++◌, Result, Ok, Err, false, refl}
use Rattle.std.proofs.Common.{sym}
use Rattle.std.proofs.Common.{ap, subst}
use Rattle.std.specs.Result.{IsErrAnd, OnOk}
use Rattle.json.specs.Token as spec
use Rattle.json.specs.Reads.{token_of}
use Rattle.json.specs.declared.token.Token.{Token}
use Rattle.json.specs.declared.token.Token.TheVariants.{BeginObject, EndObject, BeginArray}
use Rattle.json.specs.declared.token.Token.TheVariants.{EndArray}
use Rattle.json.specs.declared.token.Token.TheVariants.{Key, String, Number, Bool as Truth, Null}
use Rattle.json.specs.declared.token.Token.TheVariants.{Bad}
use Rattle.model_message.specs.Wire.{Payload, Field}
use Rattle.model_message.specs.Canon.{field_bytes}
use Rattle.otlp_json.specs.Bodies.{leaf_field, is_null}
use Rattle.otlp_json.specs.Writing.{Leaves, Fails, appended, fielded}
use Rattle.otlp_json.specs.declared.fault.JsonFault.{JsonFault}
use Rattle.otlp_json.specs.declared.fault.Stop.{Stop}
use Rattle.otlp_json.specs.declared.fault.Stop.TheVariants as stops
use Rattle.otlp_json.proofs.Rows.{one_field}

-- A fault of a part is one of the whole.
pub fails_too : {A B : Type 0} (stop : Stop) (part : Result A JsonFault)
    (whole : Result B JsonFault)
    → ((fault : JsonFault) → part ≡ Err fault → whole ≡ Err fault) → Fails stop part
    → Fails stop whole
fails_too stops.OutOfMemory part whole f h = tt
fails_too (stops.Fault fault) part whole f h = f fault h

-- A stop that is passed on.
pub passed : {U B : Type 0} (result : Result U Stop) (stop : Stop) (x : B)
    (meaning : Result B JsonFault) → IsErrAnd result (λ e. e ≡ stop) → Fails stop meaning
    → Leaves result x meaning
passed (Ok u) stop x meaning e h = absurd e
passed (Err s) stop x meaning e h =
    let P : Stop → Type 0 = λ k. Fails k meaning in subst P (sym e) h

ok_is : {A : Type 0} (a b : A) → let m : Result A JsonFault = Ok a in m ≡ Ok b → a ≡ b
ok_is a b e = cc

no_fault : {A : Type 0} (x : A) (fault : JsonFault) → let m : Result A JsonFault = Ok x in
    m ≡ Err fault → ⊥
no_fault x fault e = cc

-- With something beside it.
pub beside : {U A B : Type 0} (result : Result U Stop) (x y : A) (rest : B)
    → Leaves result x (Ok y) → Leaves {B = A × B} result (x, rest) (Ok (y, rest))
beside (Ok u) x y rest h = ap (λ k. Ok (k, rest)) (ok_is _ _ h)
beside (Err stops.OutOfMemory) x y rest h = tt
beside (Err (stops.Fault fault)) x y rest h = absurd (no_fault y fault h)

-- What a fault says, of something else.
faulty : {U A B : Type 0} (result : Result U Stop) (x : A) (y : B) (fault : JsonFault)
    → Leaves result x (Err fault) → Leaves result y (Err fault)
faulty (Ok u) x y fault h = cc
faulty (Err stops.OutOfMemory) x y fault h = tt
faulty (Err (stops.Fault f)) x y fault h = cc

-- A field that was written is the one that was read.
pub leaf_left : {U : Type 0} (result : Result U Stop) (old new : List ℕ) (n : ℕ)
    (p : Result Payload JsonFault) (ts : List spec.Token)
    → Leaves result new (fielded old n p)
    → Leaves result (new, ts) (appended old (leaf_field n p ts))
leaf_left result old new n (Ok p) ts h =
    let f : Field = record { number = n; payload = p } in
    rw (one_field old f ts) (beside result new (old ++ field_bytes f) ts h)
leaf_left result old new n (Err fault) ts h = faulty result new (new, ts) fault h

-- What always holds, in the case of an `Ok`.
pub always : {U E P : Type 0} (r : Result U E) → P → OnOk r P
always (Ok u) h = h
always (Err e) h = tt

-- A token other than null.
pub not_null : (t : Token) → t ≢ Null → is_null (token_of t) ≡ false
not_null BeginObject h = refl
not_null EndObject h = refl
not_null BeginArray h = refl
not_null EndArray h = refl
not_null (Key s) h = refl
not_null (String s) h = refl
not_null (Number s) h = refl
not_null (Truth b) h = refl
not_null Null h = absurd (h refl)
not_null Bad h = refl
