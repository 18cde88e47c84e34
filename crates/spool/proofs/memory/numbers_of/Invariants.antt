use Rattle.std.proofs.Common.{◌≡◌, ◌<◌, ◌^◌, take}
use Rattle.std.specs.Prelude.{All}
use Rattle.spool.specs.Disks.{file_numbers}
use Rattle.spool.specs.Memory.{files_view}
use Rattle.spool.proofs.memory.numbers_of.Given as goal

abbrev pub invariant-loop-file : goal.invariant-loop-file
invariant-loop-file l = record {
  numbers_are : l.numbers.items ≡ file_numbers (files_view (take l.file-index l.files));
  small : All (λ number. number < 2 ^ 63) l.numbers.items;
}
