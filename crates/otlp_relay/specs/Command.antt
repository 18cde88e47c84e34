-- The command line of the program, as clap reads it.
use Rattle.std.specs.Prelude.{◌≡◌, List, ◌∷◌, [], codes, true}
use Rattle.std.specs.Prelude.{false, Option, Some, None}
use Rattle.std.specs.Net.Grammar.{IsIpText}
use Rattle.std.specs.declared.net.IpAddr.{IpAddr}
use Rattle.std.specs.declared.net.IpAddr.TheVariants.{V4}
use Rattle.clap.specs.Words.{App, Text}
use Rattle.program_args.specs.Line.{app_with, number_rule, text_rule}

-- its options
abbrev pub command : App
command = app_with (codes "otlp-relay") (number_rule (codes "port") 0 65_535
    ∷ number_rule (codes "spool-mb") 1 1_048_576
    ∷ number_rule (codes "memory-mb") 1 1_048_576
    ∷ number_rule (codes "batch-bytes") 1 1_073_741_824
    ∷ number_rule (codes "linger") 1 60_000
    ∷ number_rule (codes "stop-within") 0 3_600
    ∷ number_rule (codes "attempts") 0 1_000_000
    ∷ number_rule (codes "max-body") 0 1_073_741_824
    ∷ number_rule (codes "pending-mb") 1 1_048_576
    ∷ number_rule (codes "timeout") 1 600_000
    ∷ number_rule (codes "refused-after") 0 1_000_000
    ∷ text_rule (codes "to") false ∷ text_rule (codes "address") false
    ∷ text_rule (codes "spool") false ∷ text_rule (codes "header") true
    ∷ text_rule (codes "names") false ∷ text_rule (codes "host") true ∷ [])

-- the address to listen at: the one that the text spells, or 127.0.0.1 where there is none
abbrev pub IsListenAddress : List Text → IpAddr → Type 0
IsListenAddress [] address = address ≡ V4 (record { octets = 127 ∷ 0 ∷ 0 ∷ 1 ∷ [] })
IsListenAddress (text ∷ texts) address = IsIpText text address

-- the text spells no address
abbrev pub IsNoAddress : List Text → Type 0
IsNoAddress [] = ⊥
IsNoAddress (text ∷ texts) = (address : IpAddr) → ¬ IsIpText text address

-- the text of an option that may be there once, if it is there
abbrev pub first_text : List Text → Option Text
first_text [] = None
first_text (text ∷ texts) = Some text
