-- The command line of the program, as clap reads it.
use Rattle.std.specs.Prelude.{◌≡◌, ◌⊎◌, ⊤, Bool, List, ◌∷◌, [], String, codes, true, false}
use Rattle.std.specs.List.{list_all}
use Rattle.std.specs.Net.Grammar.{IsIpText}
use Rattle.std.specs.declared.net.IpAddr.{IpAddr}
use Rattle.std.specs.declared.net.IpAddr.TheVariants.{V4}
use Rattle.clap.specs.Words.{App, Text}
use Rattle.http_listener.specs.Origins.{is_origin}
use Rattle.program_args.specs.Line.{app_with, number_rule, text_rule}
use Rattle.program_args.specs.Words.{AreFaulty, AskForHelp, AskForVersion, IsTaken, texts_given}
use Rattle.program_args.specs.declared.fault.ArgFault.{ArgFault}
use Rattle.program_args.specs.declared.fault.ArgFault.TheVariants as faults

-- its options
abbrev pub command : App
command = app_with (codes "trace-view") (number_rule (codes "port") 0 65_535
    ∷ number_rule (codes "max-body") 0 1_073_741_824
    ∷ number_rule (codes "keep-spans") 1 1_000_000_000
    ∷ number_rule (codes "keep-mb") 1 1_048_576
    ∷ number_rule (codes "pending-mb") 1 1_048_576
    ∷ number_rule (codes "idle-seconds") 1 86_400
    ∷ number_rule (codes "request-seconds") 1 86_400
    ∷ text_rule (codes "address") false ∷ text_rule (codes "host") true
    ∷ text_rule (codes "allow-origin") true ∷ [])

-- the address to listen at: the one that the text spells, or 127.0.0.1 where there is none
abbrev pub IsListenAddress : List Text → IpAddr → Type 0
IsListenAddress [] address = address ≡ V4 (record { octets = 127 ∷ 0 ∷ 0 ∷ 1 ∷ [] })
IsListenAddress (text ∷ texts) address = IsIpText text address

-- the text spells no address
abbrev pub IsNoAddress : List Text → Type 0
IsNoAddress [] = ⊥
IsNoAddress (text ∷ texts) = (address : IpAddr) → ¬ IsIpText text address

-- clap takes the words, and what they give for the address is none
abbrev pub NameNoAddress : {A : Type 0} → List (String A) → Type 0
NameNoAddress words =
    IsTaken command words × IsNoAddress (texts_given command (codes "address") words)

-- each of the texts is an origin whose pages may post
abbrev pub are_origins : List Text → Bool
are_origins texts = list_all is_origin texts

-- clap takes the words, and one of the origins that they give is none
abbrev pub NameNoOrigin : {A : Type 0} → List (String A) → Type 0
NameNoOrigin words = IsTaken command words
    × (are_origins (texts_given command (codes "allow-origin") words) ≡ false)

-- they are faulty, or the address is none, or an origin is none
abbrev pub AreMistaken : {A : Type 0} → List (String A) → Type 0
AreMistaken words = AreFaulty command words ⊎ (NameNoAddress words ⊎ NameNoOrigin words)

-- why the words ask for no run; memory may be refused at any words
abbrev pub IsCause : {A : Type 0} → List (String A) → ArgFault → Type 0
IsCause words (faults.Help text) = AskForHelp command words
IsCause words (faults.Version text) = AskForVersion command words
IsCause words (faults.Mistake text) = AreMistaken words
IsCause words faults.OutOfMemory = ⊤
