-- What an error of clap is to a program, and the status that the program ends with.
use Rattle.std.specs.Prelude.{ℕ, ⊤}
use Rattle.clap.specs.Words.{kind_of}
use Rattle.clap.specs.declared.error.Error.{Error}
use Rattle.clap.specs.declared.error.ErrorKind.{ErrorKind}
use Rattle.clap.specs.declared.error.ErrorKind.TheVariants as kinds
use Rattle.program_args.specs.declared.fault.ArgFault.{ArgFault}
use Rattle.program_args.specs.declared.fault.ArgFault.TheVariants as faults

-- the fault that an error of this kind is
abbrev pub fault_at : ErrorKind → Error → ArgFault
fault_at kinds.DisplayHelp error = faults.Help error
fault_at kinds.DisplayVersion error = faults.Version error
fault_at kinds.OutOfMemory error = faults.OutOfMemory
fault_at _ error = faults.Mistake error

abbrev pub fault_of_error : Error → ArgFault
fault_of_error error = fault_at (kind_of error) error

-- the status that the program ends with, unless what it reports can't be written (profile)
abbrev pub status_of : ArgFault → ℕ
status_of (faults.Help text) = 0
status_of (faults.Version text) = 0
status_of (faults.Mistake text) = 2
status_of faults.OutOfMemory = 3

-- it is no request for help or the version
abbrev pub IsMistake : ArgFault → Type 0
IsMistake (faults.Help text) = ⊥
IsMistake (faults.Version text) = ⊥
IsMistake (faults.Mistake text) = ⊤
IsMistake faults.OutOfMemory = ⊤
