-- What a fault that was reported says of the faults that some bytes have.
use Rattle.std.specs.Prelude.{List}
use Rattle.std.specs.List.{Contains}
use Rattle.model_message.specs.Reading.{Fault, bad_utf8, too_deep}
use Rattle.otlp_wire.specs.Fields.{fault_of}
use Rattle.otlp_wire.specs.declared.fault.ReadFault.{ReadFault}
use Rattle.otlp_wire.specs.declared.fault.ReadFault.TheVariants.{Wire, BadUtf8, TooDeep}
use Rattle.otlp_wire.specs.declared.fault.ReadFault.TheVariants.{OutOfMemory}

-- It is one of these faults, or want of memory.
abbrev pub NamesOne : List Fault → ReadFault → Type 0
NamesOne faults (Wire fault) = Contains faults (fault_of fault)
NamesOne faults BadUtf8 = Contains faults bad_utf8
NamesOne faults TooDeep = Contains faults too_deep
NamesOne faults OutOfMemory = Unit {0}
