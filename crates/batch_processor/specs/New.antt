-- What a new batch processor is, and which settings of its queue are refused. (Trace SDK, Batching
-- processor; profile)
use Rattle.std.specs.Prelude.{◌≡◌, ◌<◌, ◌≤◌, ◌⊎◌, ℕ, List, None}
use Rattle.std.specs.List.{AllByRecursion}
use Rattle.batch_desk.specs.declared.config.DeskConfig.{DeskConfig}
use Rattle.model_processor.specs.Passes.{PassAccount, new_account}
use Rattle.model_processor.specs.Worker.{new_worker}
use Rattle.model_processor.specs.WorkerClauses.{Origin}
use Rattle.span_ring.specs.declared.ring.TheConstants.{MAX_QUEUE}
use Rattle.batch_processor.specs.Attempts.{Work}
use Rattle.batch_processor.specs.Views.{setup_view}
use Rattle.batch_processor.specs.declared.config.BatchConfig.{BatchConfig}

-- what a processor of these settings with this number of passes begins with
abbrev pub origin_with : BatchConfig → ℕ → Origin
origin_with config passes = setup_view (record { passes = passes; config = config })

-- no pass has done anything
abbrev pub AreNew : List PassAccount → Type 0
AreNew passes = AllByRecursion (λ (a : PassAccount). a ≡ new_account) passes

-- a worker's pass that has done nothing
abbrev pub new_work : Origin → Work
new_work origin = record { origin = origin; account = new_worker; encoded = None }

-- the queue, or a batch, has no room for a span
abbrev pub IsZeroSize : DeskConfig → Type 0
IsZeroSize config = (config.queue ≡ 0) ⊎ (config.batch ≡ 0)

-- there is a queue, and a batch is larger
abbrev pub IsBatchAboveQueue : DeskConfig → Type 0
IsBatchAboveQueue config = (0 < config.queue) × (config.queue < config.batch)

-- a batch fits into the queue, which is larger than it may be
abbrev pub IsTooLarge : DeskConfig → Type 0
IsTooLarge config =
    (0 < config.batch) × (config.batch ≤ config.queue) × (MAX_QUEUE < config.queue)
