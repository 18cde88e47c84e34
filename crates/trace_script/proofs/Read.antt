-- Facts of answers.
use Rattle.std.proofs.Common.{◌≡◌, ℕ, List, Option, Result, Ok, Err, IfOk, IfErr, OnOk}
use Rattle.std.specs.Result.{IsErrAnd}
use Rattle.otlp_proto.specs.declared.encoder.EncodeFault.{EncodeFault}
use Rattle.otlp_proto.specs.declared.encoder.EncodeFault.TheVariants.{OutOfMemory, TooLarge}
use Rattle.trace_script.specs.Printed.{Explains}
use Rattle.trace_script.specs.Program.{failure_of}

-- What holds of a result's value carries over to whatever follows from it.
pub if-ok : {T E : Type 0} {P Q : T → Type 0} (r : Result T E) → ((x : T) → P x → Q x) → IfOk r P
    → IfOk r Q
if-ok (Ok x) f h = f x h
if-ok (Err e) f h = tt

-- What holds of a success carries over to whatever follows from it.
pub on-ok : {T E : Type 0} {P Q : Type 0} (r : Result T E) → (P → Q) → OnOk r P → OnOk r Q
on-ok (Ok x) f h = f h
on-ok (Err e) f h = tt

-- What holds of one fault holds of a result that fails with this fault.
pub same-fault : {T E : Type 0} (r : Result T E) (P : E → Type 0) (fault : E)
    → IsErrAnd r (λ e. e ≡ fault) → P fault → IfErr r P
same-fault (Ok x) P fault is p = tt
same-fault (Err e) P fault is p = rw is p

-- The fault of a body that can't be made names no line.
pub untold : (input : Option (List ℕ)) (fault : EncodeFault) → Explains input (failure_of fault)
untold input OutOfMemory = tt
untold input TooLarge = tt
