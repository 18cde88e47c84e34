-- The command line of the program, as clap reads it.
use Rattle.std.specs.Prelude.{◌≡◌, ◌⊎◌, ◌<◌, ◌≤◌, ℕ, ◌^◌, ◌-◌, ⊤, List, [], ◌∷◌, String, codes}
use Rattle.clap.specs.Words.{App}
use Rattle.program_args.specs.Line.{app_with, flag_rule, number_rule}
use Rattle.program_args.specs.Words.{AreFaulty, AskForHelp, AskForVersion, IsSetBy, IsTaken}
use Rattle.program_args.specs.Words.{number_in}
use Rattle.program_args.specs.declared.fault.ArgFault.{ArgFault}
use Rattle.program_args.specs.declared.fault.ArgFault.TheVariants as faults
use Rattle.trace_demo.specs.declared.args.DemoArgs.{DemoArgs}

-- the options `--seed`, `--threads`, `--spans`, `--queue`, `--batch`, `--soak`, `--slack` and
-- `--verbose`
abbrev pub command : App
command = app_with (codes "trace-demo") (number_rule (codes "seed") 0 (2 ^ 64 - 1)
    ∷ number_rule (codes "threads") 1 63 ∷ number_rule (codes "spans") 1 1_000_000
    ∷ number_rule (codes "queue") 1 65_536 ∷ number_rule (codes "batch") 1 65_536
    ∷ number_rule (codes "soak") 0 1_000_000_000
    ∷ number_rule (codes "slack") 0 (2 ^ 64 - 1) ∷ flag_rule (codes "verbose") ∷ [])

-- how many spans the words let wait, and how many they let into a batch (the defaults: profile)
abbrev pub queue_in : {A : Type 0} → List (String A) → ℕ
queue_in words = number_in command (codes "queue") 64 words

abbrev pub batch_in : {A : Type 0} → List (String A) → ℕ
batch_in words = number_in command (codes "batch") 16 words

-- These are the numbers that the words give, or the defaults. (the defaults: profile)
pub record IsAskedBy {A : Type 0} (words : List (String A)) (args : DemoArgs) : Type 0 where
  pub seed : args.seed ≡ number_in command (codes "seed") 1 words
  pub threads : args.threads ≡ number_in command (codes "threads") 4 words
  pub spans : args.spans ≡ number_in command (codes "spans") 1000 words
  pub queue : args.queue ≡ queue_in words
  pub batch : args.batch ≡ batch_in words
  pub soak : args.soak ≡ number_in command (codes "soak") 0 words
  pub slack : args.slack ≡ number_in command (codes "slack") 2048 words
  pub verbose : IsSetBy command (codes "verbose") words args.is_verbose

-- clap takes the words, and the batch that they ask for fits into the queue
abbrev pub AskForRun : {A : Type 0} → List (String A) → Type 0
AskForRun words = IsTaken command words × (batch_in words ≤ queue_in words)

-- clap takes the words, and the batch that they ask for is larger than the queue
abbrev pub HaveLargeBatch : {A : Type 0} → List (String A) → Type 0
HaveLargeBatch words = IsTaken command words × (queue_in words < batch_in words)

-- they are faulty, or the batch is larger than the queue
abbrev pub AreMistaken : {A : Type 0} → List (String A) → Type 0
AreMistaken words = AreFaulty command words ⊎ HaveLargeBatch words

-- why the words ask for no run; memory may be refused at any words
abbrev pub IsCause : {A : Type 0} → List (String A) → ArgFault → Type 0
IsCause words (faults.Help text) = AskForHelp command words
IsCause words (faults.Version text) = AskForVersion command words
IsCause words (faults.Mistake text) = AreMistaken words
IsCause words faults.OutOfMemory = ⊤
