-- What the lock of a batch processor guards, what holds of it ask for, whom they wake, and what
-- they do to an account. (Trace SDK, ForceFlush, Shutdown; profile)
use Rattle.std.specs.Prelude.{◌≡◌, ℕ, ◌≤◌, ◌==◌, ◌&&◌, ◌||◌, not, Bool, true, false, List, []}
use Rattle.std.specs.Prelude.{Contains, length, map, Option, Some, None, IfSome, IfNone, is_some}
use Rattle.std.specs.Prelude.{Result, OnOk, OnErr}
use Rattle.model_span.specs.Spans.{SpanData}
use Rattle.model_span.specs.Dropped as dropped
use Rattle.model_span.specs.Dropped.{entry_of}
use Rattle.model_desk.specs.Desks.{Desk, accepted_count, is_due, is_flushed}
use Rattle.model_desk.specs.Queue.{lost_names}
use Rattle.otlp_span.specs.Dropped.{entry_view}
use Rattle.otlp_span.specs.declared.slip.Entry.{Entry}
use Rattle.drop_ledger.specs.Counts.{drop_counts_view}
use Rattle.batch_desk.specs.Batch.{BatchView, NamedView, SettledView}
use Rattle.batch_desk.specs.Views.{fate_counts_view}
use Rattle.batch_desk.specs.declared.totals.Totals.{Totals}
use Rattle.model_processor.specs.Passes.{PassAccount}
use Rattle.model_processor.specs.WorkerClauses.{Origin}
use Rattle.model_processor.specs.AnyAccounts.{AnyAccount, account_in, after_flush, after_shutdown}
use Rattle.model_processor.specs.AnyAccounts.{after_take, on_pass, on_worker, origin_in, pass}
use Rattle.model_processor.specs.AnyAccounts.{worker_in}
use Rattle.model_processor.specs.Kept.{Kept}
use Rattle.batch_processor.specs.declared.fault.WorkerLeft.{WorkerLeft}
use Rattle.batch_processor.specs.declared.lock.hold.Wake.{Wake}
use Rattle.batch_processor.specs.declared.pass.Flushed.{Flushed}

-- ---- what the lock guards

-- The queue, whether the worker has left, and the spans that were sent and aren't freed yet.
pub record Guarded : Type 0 where
  pub desk : Desk
  pub left : Bool
  pub spent : List SpanData

-- A pass knew this in a hold of the lock, which guarded this then: what is kept of the accounts of
-- all was so, and the pass's account was one of them.
pub record InHold (guarded : Guarded) (account : PassAccount) : Type 0 where
  pub origin : Origin
  pub holders : List AnyAccount
  pub kept : Kept origin guarded.left guarded.desk holders
  pub there : Contains holders (pass account)

-- These are the counts of a queue.
pub record Counts (desk : Desk) (totals : Totals) : Type 0 where
  pub accepted : totals.accepted ≡ accepted_count desk
  pub taken : totals.taken ≡ desk.taken
  pub handed : totals.handed ≡ desk.handed
  pub lost : totals.lost ≡ desk.lost_count
  pub left : totals.left ≡ length desk.waiting
  pub late : totals.late ≡ desk.late
  pub dropped : drop_counts_view totals.dropped ≡ desk.dropped
  pub fates : fate_counts_view totals.fates ≡ desk.fates
  pub closed : totals.closed ≡ desk.closed

-- These were the counts in a hold of the lock, in which a pass knew this.
pub record IsCounted (guarded : Guarded) (totals : Totals) (account : PassAccount) : Type 0 where
  pub hold : InHold guarded account
  pub counts : Counts guarded.desk totals

-- These were the counts in some hold of the lock, in which a pass knew this.
pub record WasCounted (totals : Totals) (account : PassAccount) : Type 0 where
  pub guarded : Guarded
  pub counted : IsCounted guarded totals account

-- ---- what is woken

-- What the worker waits for, but for the moment: a batch is due whatever the moment is, or no span
-- waits any more and none is admitted.
abbrev pub has_work : Desk → Bool
has_work desk = is_due desk 0 || (desk.closed && length desk.waiting == 0)

-- What is woken for what a hold changed: the worker where what it waits for is so now and wasn't
-- before, as where a flush or a shutdown asks; and flushes where a batch ended, or the worker left.
-- The end of a span wakes nobody.
abbrev pub wake_of : Guarded → Guarded → Wake
wake_of old new = record {
  worker = has_work new.desk && not (has_work old.desk);
  flushes = (is_some old.desk.out && not (is_some new.desk.out)) || (new.left && not old.left);
}

-- ---- what a pass asks for, and its answer

-- what a pass knows once it asked, by a flush or by a shutdown, and what the queue is then
abbrev pub after_ask : Bool → ℕ → ℕ → PassAccount → PassAccount
after_ask false next mark account = after_flush next mark account
after_ask true next mark account = after_shutdown next mark account

abbrev pub after_asked : Bool → Desk → Desk
after_asked false desk = record desk { asked = accepted_count desk }
after_asked true desk = record desk { asked = accepted_count desk; closed = true }

-- A pass asked for all that was accepted so far: the mark is the number of these, and the account
-- says which ticket was the next one.
pub record Asks (closes : Bool) (guarded : Guarded) (mark : ℕ) (old new : AnyAccount)
    : Type 0 where
  pub hold : InHold guarded (account_in old)
  pub mark_is : mark ≡ accepted_count guarded.desk
  pub account : new ≡ on_pass (after_ask closes guarded.desk.next_ticket mark) old

-- A pass asked so in some hold of the lock.
pub record WasAsked (closes : Bool) (mark : ℕ) (old new : AnyAccount) : Type 0 where
  pub guarded : Guarded
  pub asks : Asks closes guarded mark old new

-- The answer to a flush in a hold: that all up to its mark was settled or dropped, or else that the
-- worker has left.
pub record IsTold (guarded : Guarded) (mark : ℕ) (answer : Result Flushed WorkerLeft)
    (account : PassAccount) : Type 0 where
  pub hold : InHold guarded account
  pub flushed : OnOk answer (is_flushed guarded.desk mark ≡ true)
  pub left : OnErr answer ((is_flushed guarded.desk mark ≡ false) × (guarded.left ≡ true))

pub record WasTold (mark : ℕ) (answer : Result Flushed WorkerLeft) (account : PassAccount)
    : Type 0 where
  pub guarded : Guarded
  pub told : IsTold guarded mark answer account

-- A pass popped an entry, or there was none.
pub record PopsBy (after : dropped.Entry → PassAccount → PassAccount) (old : AnyAccount)
    (popped : Option Entry) (new : AnyAccount) : Type 0 where
  pub some : IfSome popped (λ entry. new ≡ on_pass (after (entry_view entry)) old)
  pub none : IfNone popped (new ≡ old)

-- ---- batches

-- The batch is the one that the worker's account has out, not handed yet.
pub record IsBatchOf (holder : AnyAccount) (batch : BatchView) : Type 0 where
  pub out : (worker_in holder).out
      ≡ Some (record { number = batch.number; spans = batch.spans; body = None; outcomes = [] })
  pub room : batch.room ≡ (origin_in holder).desk.batch

-- The same, of which all but the names of its spans was freed.
pub record IsNamedBatchOf (holder : AnyAccount) (batch : NamedView) : Type 0 where
  pub spans : List SpanData
  pub out : (worker_in holder).out
      ≡ Some (record { number = batch.number; spans = spans; body = None; outcomes = [] })
  pub entries : batch.entries ≡ map (entry_of batch.reason) spans
  pub room : batch.room ≡ (origin_in holder).desk.batch

-- The batch is the one that the worker's account has out, which was handed.
pub record IsSentBatchOf (holder : AnyAccount) (batch : BatchView) : Type 0 where
  pub body : List ℕ
  pub out : (worker_in holder).out
      ≡ Some (record {
        number = batch.number;
        spans = batch.spans;
        body = Some body;
        outcomes = [];
      })
  pub room : batch.room ≡ (origin_in holder).desk.batch

-- The same with its fate, of which all but the names of its lost spans was freed.
pub record IsSettledBatchOf (holder : AnyAccount) (batch : SettledView) : Type 0 where
  pub spans : List SpanData
  pub body : List ℕ
  pub out : (worker_in holder).out
      ≡ Some (record { number = batch.number; spans = spans; body = Some body; outcomes = [] })
  pub entries : batch.entries ≡ lost_names batch.fate spans
  pub room : batch.room ≡ (origin_in holder).desk.batch

-- A batch has at least one span, and at most as many spans as are configured.
abbrev pub IsBatchSize : Origin → List SpanData → Type 0
IsBatchSize origin spans = (1 ≤ length spans) × (length spans ≤ origin.desk.batch)

-- The worker took the next batch, or none was due.
pub record TakesBatch (old : AnyAccount) (taken : Option BatchView) (new : AnyAccount) : Type 0
  where
    pub some : IfSome taken (λ batch. new ≡ on_worker (after_take batch.number batch.spans) old)
    pub batch : IfSome taken (λ batch. IsBatchOf new batch)
    pub size : IfSome taken (λ batch. IsBatchSize (origin_in old) batch.spans)
    pub none : IfNone taken (new ≡ old)
