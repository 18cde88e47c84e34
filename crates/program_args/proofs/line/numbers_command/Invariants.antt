use Rattle.std.proofs.Common.{◌≡◌, take}
use Rattle.clap.specs.Simple.{app_of}
use Rattle.program_args.specs.Line.{app_of_numbers}
use Rattle.program_args.proofs.line.numbers_command.Given as goal

-- the command of the options so far
abbrev pub invariant-loop-option : goal.invariant-loop-option
invariant-loop-option l =
    app_of l.command ≡ app_of_numbers l.line.program.now (take l.option-index l.line.numbers.now)
