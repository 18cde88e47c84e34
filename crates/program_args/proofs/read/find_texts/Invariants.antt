use Rattle.std.proofs.Common.{◌≡◌, map, take}
use Rattle.clap.specs.Matches.{found_of}
use Rattle.clap.specs.Walk.{rows_of}
use Rattle.program_args.specs.Words.{each_texts, texts_by}
use Rattle.program_args.proofs.read.find_texts.Given as goal

-- the texts of the options so far
abbrev pub invariant-loop-option : goal.invariant-loop-option
invariant-loop-option l =
    each_texts l.texts.items
    ≡ map (texts_by (rows_of (found_of l.matches))) (take l.option-index l.options)
