-- What the accounts of a processor say, whatever a processor of its kind begins with. (profile)
use Rattle.std.specs.Prelude.{◌≡◌, List, filter_map, Option, Some, None}
use Rattle.model_processor.specs.Passes.{PassAccount, new_account}
use Rattle.model_processor.specs.Worker.{WorkerAccount, new_worker}

-- the processor's own account, with what it began with; that of a pass; or that of its worker
pub data Holder (O : Type 0) : Type 0 where
  processor : O → Holder O
  pass : PassAccount → Holder O
  worker : O → WorkerAccount → Holder O

-- what it says that the processor began with; an account of a pass says nothing of it
abbrev pub origin_or : {O : Type 0} → O → Holder O → O
origin_or none (processor origin) = origin
origin_or none (pass account) = none
origin_or none (worker origin account) = origin

-- What the account of a pass says that the pass knows. Any other says what a new pass does.
abbrev pub account_in : {O : Type 0} → Holder O → PassAccount
account_in (pass account) = account
account_in _ = new_account

-- what the account of a worker says that it knows
abbrev pub worker_in : {O : Type 0} → Holder O → WorkerAccount
worker_in (worker origin account) = account
worker_in _ = new_worker

abbrev pub pass_account : {O : Type 0} → Holder O → Option PassAccount
pass_account (pass account) = Some account
pass_account _ = None

abbrev pub worker_account : {O : Type 0} → Holder O → Option WorkerAccount
worker_account (worker origin account) = Some account
worker_account _ = None

-- the accounts of the passes, and those of the workers
abbrev pub pass_accounts : {O : Type 0} → List (Holder O) → List PassAccount
pass_accounts holders = filter_map pass_account holders

abbrev pub worker_accounts : {O : Type 0} → List (Holder O) → List WorkerAccount
worker_accounts holders = filter_map worker_account holders

-- what a pass's account learns, or the worker's, changes that account alone
abbrev pub on_pass : {O : Type 0} → (PassAccount → PassAccount) → Holder O → Holder O
on_pass f (pass account) = pass (f account)
on_pass f holder = holder

abbrev pub on_worker : {O : Type 0} → (WorkerAccount → WorkerAccount) → Holder O → Holder O
on_worker f (worker origin account) = worker origin (f account)
on_worker f holder = holder

-- the account says that the processor began with this, if it says what that was
abbrev pub IsOf : {O : Type 0} → O → Holder O → Type 0
IsOf origin (processor said) = said ≡ origin
IsOf origin (pass account) = Unit {0}
IsOf origin (worker said account) = said ≡ origin
