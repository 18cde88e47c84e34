use Rattle.std.proofs.Common.{◌≡◌, take}
use Rattle.spool.specs.Memory.{files_view}
use Rattle.spool.proofs.memory.copy.Given as goal

abbrev pub invariant-loop-file : goal.invariant-loop-file
invariant-loop-file l = files_view l.copied.items ≡ files_view (take l.file-index l.files)
