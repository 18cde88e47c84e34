-- The command line of the program, as clap reads it.
use Rattle.std.specs.Prelude.{◌≡◌, List, [], Option, Some, String, codes}
use Rattle.clap.specs.Words.{App, Text, matches_of, one_of, with_rule}
use Rattle.program_args.specs.Line.{app_with, flag_rule}
use Rattle.program_args.specs.Words as args
use Rattle.program_args.specs.Words.{texts_of}

-- the flag `--body`
abbrev pub command : App
command = with_rule (app_with (codes "trace-script") []) (flag_rule (codes "body"))

-- clap takes the words
abbrev pub IsTaken : {A : Type 0} → List (String A) → Type 0
IsTaken words = args.IsTaken command words

-- what the flag is set to by the words
abbrev pub flag_in : {A : Type 0} → List (String A) → Option Text
flag_in words = one_of (codes "body") (matches_of command (texts_of words))

-- The words ask for the body.
pub record AskForBody {A : Type 0} (words : List (String A)) : Type 0 where
  pub taken : IsTaken words
  pub set : flag_in words ≡ Some (codes "true")

-- The words ask for a run.
pub record AskForRun {A : Type 0} (words : List (String A)) : Type 0 where
  pub taken : IsTaken words
  pub unset : flag_in words ≡ Some (codes "false")

-- they ask for the text that says what the program does, or for its version
abbrev pub AskForText : {A : Type 0} → List (String A) → Type 0
AskForText words = args.AskForText command words
