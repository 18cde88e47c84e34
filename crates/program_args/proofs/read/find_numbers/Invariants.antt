use Rattle.std.proofs.Common.{◌≡◌, map, take}
use Rattle.clap.specs.Matches.{found_of}
use Rattle.clap.specs.Walk.{rows_of}
use Rattle.program_args.specs.Words.{number_by}
use Rattle.program_args.proofs.read.find_numbers.Given as goal

-- the numbers of the options so far
abbrev pub invariant-loop-option : goal.invariant-loop-option
invariant-loop-option l =
    l.numbers.items ≡ map (number_by (rows_of (found_of l.matches))) (take l.option-index l.options)
