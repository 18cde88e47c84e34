-- What a run of the program may be asked for.
use Rattle.std.specs.Prelude.{ℕ}
use Rattle.program_args.specs.Words.{IsWithin}

-- How many threads end how many spans each, onto a queue and in batches of these sizes. (profile)
abbrev pub IsInRange : ℕ → ℕ → ℕ → ℕ → Type 0
IsInRange threads spans queue batch = IsWithin 1 63 threads × IsWithin 1 1_000_000 spans
    × IsWithin 1 65_536 queue × IsWithin 1 queue batch
