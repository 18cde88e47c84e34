-- The end of a service: the processor's account, beside what is known since no other code had the
-- worker. (Trace SDK, Batching processor, ForceFlush, Shutdown; names: profile)
use Rattle.std.specs.Prelude.{◌≡◌, ℕ, ◌+◌, ◌≤◌, ◌++◌, ◌∷◌, [], List, length, Option}
use Rattle.std.specs.Prelude.{None, false}
use Rattle.model_desk.specs.Desks.{Desk}
use Rattle.model_processor.specs.Passes.{PassAccount, new_account}
use Rattle.model_processor.specs.Worker.{WorkerAccount, new_worker}
use Rattle.model_processor.specs.WorkerClauses.{IsAccounted, Origin, WorksUntilItLeaves, abandon}
use Rattle.span_exporter.specs.Handed.{Handed, Gains}
use Rattle.drop_ledger.specs.Named.{Named}
use Rattle.batch_processor.specs.Working.{Work, attempts_of}
use Rattle.batch_processor.specs.Views.{setup_view}
use Rattle.batch_processor.specs.declared.config.BatchConfig.{BatchConfig}
use Rattle.batch_processor.specs.declared.fault.NewFault.{NewFault}
use Rattle.batch_processor.specs.declared.fault.NewFault.TheVariants as news
use Rattle.batch_processor.specs.declared.worker.WorkEnd.{WorkEnd}
use Rattle.batch_processor.specs.declared.worker.WorkEnd.TheVariants as ends
use Rattle.batch_service.specs.declared.fault.StartFault.{StartFault}
use Rattle.batch_service.specs.declared.fault.StartFault.TheVariants as starts
use Rattle.batch_service.specs.Working.{GainsNames, IsDrained, NoneSettles}
use Rattle.batch_service.specs.Rest.{GivesUp}

-- why a service is not started, by why its processor isn't made
abbrev pub start_fault : NewFault → StartFault
start_fault news.BadPasses = starts.BadPasses
start_fault news.ZeroSize = starts.ZeroSize
start_fault news.BatchAboveQueue = starts.BatchAboveQueue
start_fault news.TooLarge = starts.TooLarge
start_fault news.OutOfMemory = starts.OutOfMemory

-- A service, as its contracts see it: what its processor began with, what its own pass knows, and
-- what its exporter and its sink were given when it began.
pub record ServiceView : Type 0 where
  pub origin : Origin
  pub control : PassAccount
  pub handed : Option (List Handed)
  pub named : Option Named

-- a worker's pass that has done nothing
abbrev pub new_work : Origin → Work
new_work origin = record { origin = origin; account = new_worker; encoded = None }

-- a service that has started, whose own pass has done nothing
abbrev pub new_service : Origin → Option (List Handed) → Option Named → ServiceView
new_service origin handed named = record {
  origin = origin;
  control = new_account;
  handed = handed;
  named = named;
}

-- what the processor of a service with this number of passes for others begins with
abbrev pub origin_of : BatchConfig → ℕ → Origin
origin_of config threads = setup_view (record { passes = threads + 2; config = config })

-- A pass of the service's own ended no span and popped no name.
pub record EndsNone (account : PassAccount) : Type 0 where
  pub ends : account.ends ≡ []
  pub popped : account.popped ≡ []
  pub popped_lost : account.popped_lost ≡ []
  pub late : account.late ≡ 0

-- a pass that only popped these names
abbrev pub popping : Named → PassAccount
popping names = record new_account { popped = names.dropped; popped_lost = names.lost }

-- The end of a service whose exporter has now been handed `handed`, whose sink has been given
-- `named`, and whose work ended so: the processor is accounted for by the passes that came back, by
-- the service's own, and by the worker, which never left. Its attempts, in order, are what the
-- exporter was handed, and the names that were popped are what the sink was given. The service's
-- pass shut the processor down, so no span is admitted any more. Where a batch is out, since the
-- work had no time or no turn left, no reply that came settles it.
pub record IsServed (service : ServiceView) (passes : List PassAccount) (desk : Desk)
    (handed : Option (List Handed)) (named : Option Named) (end : WorkEnd) : Type 0 where
  pub worker : WorkerAccount
  pub control : PassAccount
  pub names : Named
  pub accounts : IsAccounted service.origin desk (passes ++ control ∷ popping names ∷ [])
      (abandon worker)
  pub works : WorksUntilItLeaves service.origin worker
  pub own : EndsNone control
  pub shut : 1 ≤ control.shutdowns
  pub stays : worker.left ≡ false
  pub sent : Gains (attempts_of worker) service.handed handed
  pub given : GainsNames names service.named named
  pub drained : end ≡ ends.Drained → IsDrained worker
  pub none_settles : NoneSettles (record {
    origin = service.origin;
    account = worker;
    encoded = None;
  })

-- The same, of a service that had this number of threads, whatever their passes know.
pub record EndsServed (threads : ℕ) (service : ServiceView) (desk : Desk)
    (handed : Option (List Handed)) (named : Option Named) (end : WorkEnd) : Type 0 where
  pub passes : List PassAccount
  pub count : length passes ≡ threads
  pub served : IsServed service passes desk handed named end

-- The end of a service that is stopped within a time: its worker ended as by a stop; then what was
-- left in its queue was given up, and all names that the ledgers still had were given to the sink.
pub record IsStopped (service : ServiceView) (passes : List PassAccount) (desk : Desk)
    (handed : Option (List Handed)) (named : Option Named) (end : WorkEnd) : Type 0 where
  pub closed : Desk
  pub named_before : Option Named
  pub served : IsServed service passes closed handed named_before end
  pub rest : GivesUp closed desk named_before named

-- The same, of a service that had this number of threads, whatever their passes know.
pub record EndsStopped (threads : ℕ) (service : ServiceView) (desk : Desk)
    (handed : Option (List Handed)) (named : Option Named) (end : WorkEnd) : Type 0 where
  pub passes : List PassAccount
  pub count : length passes ≡ threads
  pub stopped : IsStopped service passes desk handed named end
