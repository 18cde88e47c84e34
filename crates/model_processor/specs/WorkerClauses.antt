-- What holds of a batch processor in the end: what the accounts of all its passes and the worker's
-- final one say beside the queue that is left. (Trace SDK, Batching processor, ForceFlush,
-- Shutdown; tickets, floors and the two ledgers: profile)
use Rattle.std.specs.Prelude.{◌≡◌, ◌≢◌, ℕ, ◌≤◌, ◌&&◌, nat_le, nat_lt, true, false, List, [], ◌++◌}
use Rattle.std.specs.Prelude.{length, map, count_by, IsPermutation, None}
use Rattle.std.specs.List.{range_with_len, AllByRecursion}
use Rattle.model_span.specs.Spans.{SpanData}
use Rattle.model_span.specs.Dropped.{Reason, Entry, is_lost}
use Rattle.model_desk.specs.Desks.{Desk, fate_counts}
use Rattle.model_processor.specs.Passes.{PassAccount, Drop, Rises, drops, all_accepted, all_dropped}
use Rattle.model_processor.specs.Passes.{all_popped, all_popped_lost}
use Rattle.model_processor.specs.PassClauses.{CountsLate, GivesTickets, NamesDrops, NamesLosses}
use Rattle.model_processor.specs.Worker.{WorkerAccount, taken_spans, handed_spans, dropped_spans}
use Rattle.model_processor.specs.Worker.{worker_entries, worker_losses, fates, numbers}
pub use Rattle.model_processor.specs.Batches.{Origin, canonical_body, IsBodyOf, LeadsTo}
pub use Rattle.model_processor.specs.Batches.{EachLeadsOn, IsSent, IsSettled, IsEndByWork, IsByWork}
pub use Rattle.model_processor.specs.Batches.{IsSentSoFar, IsOutByWork, end_of, abandoned_end}
pub use Rattle.model_processor.specs.Batches.{abandon_out, abandon, EndByWork, WorksUntilItLeaves}

abbrev pub tickets_of : List SpanData → List ℕ
tickets_of spans = map (λ (s : SpanData). s.ticket) spans

-- ---- 1: spans

-- The spans that were queued through the passes are those of the batches that were handed, those of
-- the batches that were dropped, and those that are left, each as often.
abbrev pub QueuedAreAccounted : List SpanData → List PassAccount → WorkerAccount → Type 0
QueuedAreAccounted left passes worker =
    IsPermutation (all_accepted passes) (handed_spans worker ++ (dropped_spans worker ++ left))

-- ---- 2: tickets

-- how many of these spans have a ticket from the one number up to the other
abbrev pub count_between : ℕ → ℕ → List SpanData → ℕ
count_between from upto spans =
    count_by (λ (s : SpanData). nat_le from s.ticket && nat_lt s.ticket upto) spans

-- A span was dropped since the queue was full: at least as many queued spans as the queue holds
-- have their tickets from the floor kept with it up to its own.
abbrev pub FoundItFull : ℕ → List SpanData → Drop → Type 0
FoundItFull queue spans d = queue ≤ count_between d.floor d.span.ticket spans

abbrev pub DropsFoundItFull : ℕ → List PassAccount → Type 0
DropsFoundItFull queue passes =
    AllByRecursion (λ (a : PassAccount).
    AllByRecursion (FoundItFull queue (all_accepted passes)) (drops a)) passes

-- Tickets are given once and rise on each pass, and none is dropped that finds room.
pub record TicketsAreGiven (queue next : ℕ) (passes : List PassAccount) : Type 0 where
  pub given : GivesTickets next passes
  pub full : DropsFoundItFull queue passes

-- ---- 3: names of dropped spans

-- the entries of all dropped spans, by the passes and by the worker
abbrev pub all_entries : List PassAccount → WorkerAccount → List Entry
all_entries passes worker = all_dropped passes ++ worker_entries worker

-- The dropped spans are named and counted. The worker drops none as if it had found the queue full,
-- and no reason is that of a lost span.
pub record DropsAreNamed (desk : Desk) (passes : List PassAccount) (worker : WorkerAccount)
    : Type 0 where
  pub all : NamesDrops desk.ledger desk.dropped (all_entries passes worker) (all_popped passes)
  pub not_full : AllByRecursion (λ (e : Entry). e.reason ≢ Reason.queue_full)
      (worker_entries worker)
  pub not_lost : AllByRecursion (λ (e : Entry). is_lost e.reason ≡ false)
      (all_entries passes worker)

-- ---- 4: names of lost spans

-- The spans of the worker's batches that were handed, and whose fate loses them, are named, each
-- with its fate's reason, and counted. No reason is that of a dropped span.
pub record LossesAreNamed (desk : Desk) (passes : List PassAccount) (worker : WorkerAccount)
    : Type 0 where
  pub all : NamesLosses desk.lost desk.lost_count (worker_losses worker) (all_popped_lost passes)
  pub are_lost : AllByRecursion (λ (e : Entry). is_lost e.reason ≡ true) (worker_losses worker)

-- ---- 6: batches

-- All batches ended by work, but for one that was abandoned. They are numbered from 1 on, in order.
-- Through all of them, and on to the spans that are left, the tickets rise. The totals count the
-- spans that were taken, those that were handed, and how the batches that were handed were settled.
pub record BatchesAreSent (origin : Origin) (desk : Desk) (worker : WorkerAccount)
    : Type 0 where
  pub by_work : EndByWork origin worker
  pub numbered : numbers worker ≡ range_with_len 1 desk.batches
  pub rising : Rises (tickets_of (taken_spans worker ++ desk.waiting))
  pub taken : desk.taken ≡ length (taken_spans worker)
  pub handed : desk.handed ≡ length (handed_spans worker)
  pub settled : desk.fates ≡ fate_counts (fates worker)

-- ---- 7: flushes

-- no ticket is below this floor
abbrev pub AreFrom : ℕ → List SpanData → Type 0
AreFrom floor spans = AllByRecursion (λ (s : SpanData). floor ≤ s.ticket) spans

-- A pass was answered that the worker has left only where it has.
abbrev pub ToldOnlyWhereLeft : List PassAccount → WorkerAccount → Type 0
ToldOnlyWhereLeft passes worker =
    AllByRecursion (λ (a : PassAccount). a.told_left ≡ true → worker.left ≡ true) passes

-- No span that is left has a ticket below a pass's floor. Where it was answered that all is
-- drained, none is left.
pub record FlushesAreKept (left : List SpanData) (passes : List PassAccount)
    (worker : WorkerAccount) : Type 0 where
  pub floors : AllByRecursion (λ (a : PassAccount). AreFrom a.floor left) passes
  pub drained : worker.drained ≡ true → left ≡ []
  pub told : ToldOnlyWhereLeft passes worker

-- ---- all seven

-- What holds of a processor with this origin, once its desk is taken out and all accounts are back:
-- the seven, by the settings that it began with, and that no batch is out.
pub record IsAccounted (origin : Origin) (desk : Desk) (passes : List PassAccount)
    (worker : WorkerAccount) : Type 0 where
  pub config : desk.config ≡ origin.desk
  pub none_out : desk.out ≡ None
  pub spans : QueuedAreAccounted desk.waiting passes worker
  pub tickets : TicketsAreGiven origin.desk.queue desk.next_ticket passes
  pub names : DropsAreNamed desk passes worker
  pub losses : LossesAreNamed desk passes worker
  pub late : CountsLate desk.late desk.next_ticket desk.closed passes
  pub batches : BatchesAreSent origin desk worker
  pub flushes : FlushesAreKept desk.waiting passes worker
