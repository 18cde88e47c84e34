-- Why a service isn't started. (profile)
use Rattle.std.specs.Prelude.{◌≡◌, ℕ, ◌||◌, ◌==◌, nat_lt, Option, Some, None, Result, Ok, Err}
use Rattle.std.specs.Prelude.{if◌then◌else◌}
use Rattle.span_ring.specs.declared.ring.TheConstants.{MAX_QUEUE}
use Rattle.batch_processor.specs.declared.config.BatchConfig.{BatchConfig}
use Rattle.batch_service.specs.declared.fault.StartFault.{StartFault}
use Rattle.batch_service.specs.declared.fault.StartFault.TheVariants as starts
use Rattle.batch_service.specs.declared.service.TheConstants.{MAX_THREADS}

-- What of its settings keeps a service with this number of passes from being started, whatever the
-- system gives: the first of these that holds. (profile)
abbrev pub refusal_of : BatchConfig → ℕ → Option StartFault
refusal_of config passes =
    if passes == 0 || nat_lt MAX_THREADS passes then Some starts.BadPasses
    else if config.desk.queue == 0 || config.desk.batch == 0 then Some starts.ZeroSize
    else if nat_lt config.desk.queue config.desk.batch then Some starts.BatchAboveQueue
    else if nat_lt MAX_QUEUE config.desk.queue then Some starts.TooLarge else None

-- the system refused memory, random bytes or a thread
abbrev pub IsOfSystem : StartFault → Type 0
IsOfSystem starts.OutOfMemory = Unit {0}
IsOfSystem starts.NoRandomBytes = Unit {0}
IsOfSystem starts.NoThread = Unit {0}
IsOfSystem _ = ⊥

-- Where the settings are refused the answer is why; else it is a service, or a fault of the
-- system's.
abbrev pub Answers : {T : Type 0} → Option StartFault → Result T StartFault → Type 0
Answers (Some fault) answer = answer ≡ Err fault
Answers None (Ok started) = Unit {0}
Answers None (Err fault) = IsOfSystem fault
