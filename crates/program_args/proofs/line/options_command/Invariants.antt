use Rattle.std.proofs.Common.{◌≡◌, take}
use Rattle.clap.specs.Simple.{app_of}
use Rattle.program_args.specs.Line.{app_of_options}
use Rattle.program_args.proofs.line.options_command.Given as goal

-- the command of the options so far
abbrev pub invariant-loop-option : goal.invariant-loop-option
invariant-loop-option l =
    app_of l.command
    ≡ app_of_options l.line.program.now l.line.numbers.now (take l.option-index l.line.texts.now)
