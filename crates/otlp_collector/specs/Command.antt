-- The command line of the program, as clap reads it.
use Rattle.std.specs.Prelude.{◌^◌, ◌-◌, ◌∷◌, [], codes}
use Rattle.clap.specs.Words.{App}
use Rattle.program_args.specs.Line.{app_with, number_rule}

-- the options `--port`, `--count` and `--max-body`
abbrev pub command : App
command = app_with (codes "otlp-collector") (number_rule (codes "port") 0 65_535
    ∷ number_rule (codes "count") 0 (2 ^ 64 - 1)
    ∷ number_rule (codes "max-body") 0 (2 ^ 64 - 1) ∷ [])
