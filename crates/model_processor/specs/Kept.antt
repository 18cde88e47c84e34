-- How what the lock guards agrees with the accounts. (profile)
use Rattle.std.specs.Prelude.{◌≡◌, ℕ, ◌+◌, ◌<◌, ◌≤◌, Bool, true, List, [], ◌∷◌, ◌++◌, length, drop}
use Rattle.std.specs.Prelude.{Contains, IsPermutation, Option, Some, None, is_some}
use Rattle.std.specs.List.{AllByRecursion, range_with_len}
use Rattle.model_span.specs.Spans.{SpanData}
use Rattle.model_span.specs.Dropped.{Entry, queue_full}
use Rattle.model_desk.specs.Desks as desks
use Rattle.model_desk.specs.Desks.{Desk, fate_counts}
use Rattle.model_processor.specs.Passes.{Asked, PassAccount, Rises, all_accepted, all_popped}
use Rattle.model_processor.specs.Passes.{all_popped_lost, dropped_entries}
use Rattle.model_processor.specs.PassClauses.{CountsLate, GivesTickets, NamesDrops, NamesLosses}
use Rattle.model_processor.specs.Worker.{WorkerAccount, OutBatch, taken_spans, handed_spans}
use Rattle.model_processor.specs.Worker.{handed_out_spans, fates, numbers, worker_losses}
use Rattle.model_processor.specs.WorkerClauses.{Origin, AreFrom, DropsFoundItFull}
use Rattle.model_processor.specs.WorkerClauses.{ToldOnlyWhereLeft, all_entries, tickets_of}
pub use Rattle.model_processor.specs.Holders.{IsOf}
use Rattle.model_processor.specs.AnyAccounts.{AnyAccount, pass_accounts, worker_accounts}

-- what a desk shows of the batch that is out
abbrev pub shown_out : Option OutBatch → Option desks.OutBatch
shown_out None = None
shown_out (Some batch) =
    Some (record {
      number = batch.number;
      size = length batch.spans;
      is_handed = is_some batch.body;
    })

-- the spans that were accepted, in order
abbrev pub accepted : Desk → WorkerAccount → List SpanData
accepted desk account = taken_spans account ++ desk.waiting

-- what holds of the accepted spans, in that order, where this ticket is the next one
pub record Queues (queue next : ℕ) (passes : List PassAccount) (spans : List SpanData)
    : Type 0 where
  pub queued : IsPermutation (all_accepted passes) spans
  pub rising : Rises (tickets_of spans)
  pub below : AllByRecursion (λ (s : SpanData). s.ticket < next) spans
  pub full : DropsFoundItFull queue passes

-- Of a floor: no waiting span has a ticket below it. And of what was asked for: after the first
-- `mark` accepted spans, each span has the ticket asked for or a later one.
pub record KeepsFloor (next : ℕ) (waiting spans : List SpanData) (floor : ℕ) (asked : Asked)
    : Type 0 where
  pub above : AreFrom floor waiting
  pub floor_given : floor ≤ next
  pub asked_given : asked.ticket ≤ next
  pub mark_given : asked.mark ≤ length spans
  pub appended : AreFrom asked.ticket (drop asked.mark spans)

abbrev pub KeepsFloors : ℕ → List SpanData → List SpanData → List PassAccount → Type 0
KeepsFloors next waiting spans passes =
    AllByRecursion (λ (a : PassAccount). KeepsFloor next waiting spans a.floor a.asked) passes

-- what the desk shows of batches is what the worker's account says
pub record Batches (desk : Desk) (account : WorkerAccount) : Type 0 where
  pub out : desk.out ≡ shown_out account.out
  pub taken : desk.taken ≡ length (taken_spans account)
  pub numbered : numbers account ≡ range_with_len 1 desk.batches
  pub handed : desk.handed
      ≡ length (handed_spans account) + length (handed_out_spans account.out)
  pub fates_are : desk.fates ≡ fate_counts (fates account)
  pub drained : account.drained ≡ true → (desk.closed ≡ true) × (desk.waiting ≡ [])

-- a pass drops spans for want of room alone
abbrev pub DropAsFull : List PassAccount → Type 0
DropAsFull passes =
    AllByRecursion (λ (a : PassAccount).
    AllByRecursion (λ (e : Entry). e.reason ≡ queue_full) (dropped_entries a)) passes

-- a desk, the accounts of the passes and that of the worker agree in all parts
pub record Agrees (desk : Desk) (passes : List PassAccount) (account : WorkerAccount) : Type 0 where
  pub queues : Queues desk.config.queue desk.next_ticket passes (accepted desk account)
  pub tickets : GivesTickets desk.next_ticket passes
  pub names : NamesDrops desk.ledger desk.dropped (all_entries passes account) (all_popped passes)
  pub full : DropAsFull passes
  pub losses : NamesLosses desk.lost desk.lost_count (worker_losses account)
      (all_popped_lost passes)
  pub late : CountsLate desk.late desk.next_ticket desk.closed passes
  pub floors : KeepsFloors desk.next_ticket desk.waiting (accepted desk account) passes
  pub batches : Batches desk account
  pub told : ToldOnlyWhereLeft passes account

-- What the lock keeps of the accounts of a processor with this origin. A mark beside the desk says
-- whether the worker has left.
pub record Kept (origin : Origin) (left : Bool) (desk : Desk) (holders : List AnyAccount)
    : Type 0 where
  pub few : length holders ≤ origin.passes + 2
  pub origins : AllByRecursion (IsOf origin) holders
  pub config : desk.config ≡ origin.desk
  pub sizes : 1 ≤ origin.desk.batch
  pub account : WorkerAccount
  pub one_worker : worker_accounts holders ≡ account ∷ []
  pub left_is : account.left ≡ left
  pub agrees : Agrees desk (pass_accounts holders) account

-- the same, while an account is open: once no account is open, what the lock guards may be anything
abbrev pub IsShared : Origin → Bool → Desk → List AnyAccount → Type 0
IsShared origin left desk holders =
    (h : AnyAccount) → Contains holders h → Kept origin left desk holders

-- ---- what is reported in the end

-- What is left, and what the passes and the worker know, agree.
pub record IsAccountOf (origin : Origin) (desk : Desk) (passes : List PassAccount)
    (account : WorkerAccount) : Type 0 where
  pub config : desk.config ≡ origin.desk
  pub agrees : Agrees desk passes account
