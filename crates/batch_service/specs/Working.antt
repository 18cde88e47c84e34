-- What the thread of a service's worker does: it sends batches, and gives the names of spans that
-- aren't delivered to a sink. (Trace SDK, Batching processor; names: profile)
use Rattle.std.specs.Prelude.{◌≡◌, [], ◌++◌, List, Option, None, IfSome, option_map, true}
use Rattle.model_span.specs.Dropped.{Entry}
use Rattle.model_processor.specs.Passes.{PassAccount, after_drain}
use Rattle.model_processor.specs.Worker.{OutBatch, WorkerAccount}
use Rattle.model_processor.specs.WorkerClauses.{EachLeadsOn}
use Rattle.drop_ledger.specs.Named.{Named}
use Rattle.span_exporter.specs.Handed.{Handed}
use Rattle.batch_processor.specs.Working.{Work, GoesOn}

-- A sink that shows its names was given, after what it had, exactly these names. Another shows
-- none.
abbrev pub GainsNames : Named → Option Named → Option Named → Type 0
GainsNames more old new = new ≡ option_map (λ (had : Named). record {
  dropped = had.dropped ++ more.dropped;
  lost = had.lost ++ more.lost;
}) old

-- names of dropped spans and of lost ones, and of each kind alone
abbrev pub both_names : List Entry → List Entry → Named
both_names dropped lost = record { dropped = dropped; lost = lost }

abbrev pub dropped_names : List Entry → Named
dropped_names entries = record { dropped = entries; lost = [] }

abbrev pub lost_names : List Entry → Named
lost_names entries = record { dropped = []; lost = entries }

-- The names that a pass popped were given to the sink, in order, and the pass did nothing else.
pub record GivesNames (told told' : Option Named) (old new : PassAccount) : Type 0 where
  pub more : Named
  pub gains : GainsNames more told told'
  pub popped : new ≡ after_drain more.dropped more.lost old

-- What a worker's thread has: what its exporter and its sink were given, its worker's pass and the
-- pass that pops names.
pub record ThreadState : Type 0 where
  pub handed : Option (List Handed)
  pub named : Option Named
  pub work : Work
  pub names : PassAccount

-- Work went on, and names were given.
pub record WorksOn (old new : ThreadState) : Type 0 where
  pub goes_on : GoesOn old.handed new.handed old.work new.work
  pub names : GivesNames old.named new.named old.names new.names

abbrev pub state_of : Option (List Handed) → Option Named → Work → PassAccount → ThreadState
state_of handed named work names =
    record { handed = handed; named = named; work = work; names = names }

-- The worker's last answer was that all is drained, and no batch is out.
pub record IsDrained (account : WorkerAccount) : Type 0 where
  pub drained : account.drained ≡ true
  pub none_out : account.out ≡ None

-- Of the batch that is out, if one is, no outcome settles it: each leads to another attempt.
abbrev pub NoneSettles : Work → Type 0
NoneSettles work =
    IfSome work.account.out
    (λ (b : OutBatch). EachLeadsOn work.origin.retry 1 b.outcomes)
