-- How what is under the lock agrees with the accounts. (profile)
use Rattle.std.specs.Prelude.{◌≡◌, ℕ, ◌+◌, ◌≤◌, List, [], length, map, IsPermutation, Option, Some}
use Rattle.std.specs.Prelude.{None}
use Rattle.std.specs.List.{AllByRecursion}
use Rattle.model_span.specs.Dropped.{Entry}
use Rattle.model_desk.specs.Desks.{fate_counts}
use Rattle.span_exporter.specs.Handed.{Handed, Gains}
use Rattle.model_processor.specs.Passes.{PassAccount, drops, all_accepted, all_dropped, all_popped}
use Rattle.model_processor.specs.Passes.{all_popped_lost}
use Rattle.model_processor.specs.PassClauses.{CountsLate, GivesTickets, NamesDrops}
use Rattle.simple_processor.specs.Bodies.{Fits, LacksItsBody, LossesAreTold, attempt_in}
use Rattle.simple_processor.specs.Bodies.{attempt_of_span, fates_of}
use Rattle.simple_processor.specs.ExportStates.{State, AreTotals, drops_in, ticket_count}
use Rattle.batch_desk.specs.declared.totals.Totals.{Totals}
pub use Rattle.model_processor.specs.Holders.{IsOf}
use Rattle.simple_processor.specs.AnyAccounts.{Origin, AnyAccount, pass_accounts}

-- What the exporter showed before and shows now, and what is counted, is what the passes know.
pub record Agrees (had told : Option (List Handed)) (s : State) (accounts : List PassAccount)
    : Type 0 where
  pub bodies : List Handed
  pub gains : Gains bodies had told
  pub fits : AllByRecursion (Fits s.max_body) bodies
  pub sent : IsPermutation (map attempt_of_span (all_accepted accounts)) (map attempt_in bodies)
  pub fates : s.fates ≡ fate_counts (fates_of bodies)
  pub handed : s.handed ≡ length (all_accepted accounts)
  pub tickets : GivesTickets (ticket_count s) accounts
  pub names : NamesDrops s.ledger (drops_in s) (all_dropped accounts) (all_popped accounts)
  pub losses : LossesAreTold bodies (all_accepted accounts) s.lost s.lost_count
      (all_popped_lost accounts)
  pub lacking : AllByRecursion
      (λ (a : PassAccount). AllByRecursion (LacksItsBody s.max_body) (drops a)) accounts
  pub late : CountsLate s.late (ticket_count s) s.closed accounts

-- What the lock keeps of the accounts of a processor that began so.
pub record Kept (origin : Origin) (told : Option (List Handed)) (s : State)
    (holders : List AnyAccount) : Type 0 where
  pub few : length holders ≤ origin.passes + 1
  pub origins : AllByRecursion (IsOf origin) holders
  pub max_body : s.max_body ≡ origin.max_body
  pub agrees : Agrees origin.had told s (pass_accounts holders)

-- the same, and that no account is left where nothing lies there any more
abbrev pub IsShared : {D : Type 0} → (D → Option (List Handed)) → (D → State) → Origin → Option D
    → List AnyAccount → Type 0
IsShared told state origin None holders = holders ≡ []
IsShared told state origin (Some export) holders = Kept origin (told export) (state export) holders

-- ---- what is reported in the end

-- What an exporter that shows its attempts was handed since the processor began: one attempt for
-- each span that the passes know as handed.
pub record IsAccountOf (origin : Origin) (told : Option (List Handed)) (t : Totals)
    (ledger lost : List Entry) (accounts : List PassAccount) : Type 0 where
  pub state : State
  pub totals : AreTotals t state
  pub ledger_is : ledger ≡ state.ledger
  pub lost_is : lost ≡ state.lost
  pub max_body : state.max_body ≡ origin.max_body
  pub agrees : Agrees origin.had told state accounts

-- how many tickets were given, by the totals
abbrev pub given_tickets : Totals → ℕ
given_tickets t = t.handed + (t.dropped.encode_memory + t.dropped.too_large)
