-- Why words ask for no run.
use Rattle.std.proofs.Common.{◌⊎◌, List, inl, inr}
use Rattle.std.specs.Prelude.{Err, IfErr, Ok, Result, String}
use Rattle.program_args.specs.Faults.{IsMistake}
use Rattle.program_args.specs.Words as given
use Rattle.program_args.specs.declared.fault.ArgFault.{ArgFault}
use Rattle.program_args.specs.declared.fault.ArgFault.TheVariants as faults
use Rattle.trace_view.specs.Command.{IsCause, NameNoAddress, NameNoOrigin, command}

-- A fault of the command line alone is a fault of the program.
pub cause-of : {A T : Type 0} (words : List (String A)) (r : Result T ArgFault)
    → IfErr r (given.IsCause command words) → IfErr r (IsCause words)
cause-of words (Ok value) cause = tt
cause-of words (Err (faults.Help text)) cause = cause
cause-of words (Err (faults.Version text)) cause = cause
cause-of words (Err (faults.Mistake text)) cause = inl cause
cause-of words (Err faults.OutOfMemory) cause = tt

-- A mistake where a text is no address, or no origin, is a fault of the program.
pub cause-of-text : {A : Type 0} (words : List (String A)) (fault : ArgFault) → IsMistake fault
    → NameNoAddress words ⊎ NameNoOrigin words → IsCause words fault
cause-of-text words (faults.Help text) mistake none = absurd mistake
cause-of-text words (faults.Version text) mistake none = absurd mistake
cause-of-text words (faults.Mistake text) mistake none = inr none
cause-of-text words faults.OutOfMemory mistake none = tt
