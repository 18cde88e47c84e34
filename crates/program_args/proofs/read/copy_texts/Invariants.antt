use Rattle.std.proofs.Common.{◌≡◌, map, take}
use Rattle.program_args.specs.Words.{texts_of}
use Rattle.program_args.proofs.read.copy_texts.Given as goal

-- the copies so far
abbrev pub invariant-loop-text : goal.invariant-loop-text
invariant-loop-text l = texts_of l.copies.items ≡ map (λ text. text.now) (take l.text-index l.texts)
