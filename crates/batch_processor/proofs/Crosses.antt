-- A pass may go to another thread where its runtime may, with all memory on the heap, and so may
-- the worker's pass: each part that they hold names no thread.
use denote.RattleType.{RattleType}
use denote.Struct.Field.{row_field}
use denote.Param.Send.{IsSend, IsSync, sendable, view_send}
use denote.Param.SendFields.{FieldsHave, declared_send, variants_send, as_row_send}
use Rattle.std.proofs.Crossing as heap
use Rattle.std.specs.contracts.alloc.Global as Heap
use Rattle.std.below.std_heap.specs.contracts.GlobalAllocator.TheImpl.{ghosts}
use Rattle.batch_desk.proofs.Crosses.{batch_send, data_send, desk_send}
use Rattle.account_book.specs.declared.book.Naming as naming
use Rattle.account_book.proofs.book.Account.TheSendSync as account
use Rattle.account_book.proofs.book.Book.TheSendSync as book
use Rattle.processor_account.specs.contracts.state.AccountState as AccountState
use Rattle.batch_processor.specs.contracts.account.BatchOrigin as BatchOrigin
use Rattle.batch_processor.specs.contracts.lock.Holder as Holder
use Rattle.batch_processor.specs.contracts.lock.Holder.TheInside as holder
use Rattle.batch_processor.specs.contracts.lock.Lock as Lock
use Rattle.batch_processor.specs.contracts.pass.Pass as Pass
use Rattle.batch_processor.specs.contracts.pass.Pass.TheInside as pass
use Rattle.batch_processor.specs.contracts.lock.shared.Shared as Shared
use Rattle.batch_processor.specs.contracts.lock.shared.Shared.TheInside as shared
use Rattle.batch_processor.specs.contracts.config.Setup as Setup
use Rattle.batch_processor.specs.contracts.lock.pace.Pace as Pace
use Rattle.batch_processor.specs.contracts.steps.InHand as InHand
use Rattle.batch_processor.specs.contracts.steps.InHand.TheInside as in_hand
use Rattle.batch_processor.specs.contracts.steps.BatchSender as BatchSender
use Rattle.batch_processor.specs.contracts.steps.BatchSender.TheInside as sender
use Rattle.batch_processor.specs.contracts.worker.WorkerPass as WorkerPass
use Rattle.batch_processor.specs.contracts.worker.WorkerPass.TheInside as worker_pass
use Rattle.batch_sending.specs.contracts.sending.Sending as Sending
use Rattle.otlp_span.specs.contracts.data.SpanData as SpanData
use Rattle.retry_core.specs.contracts.outcome.Outcome as Outcome

-- the batch in hand of a worker, and the outcomes of its attempts
outcome_send : IsSend Outcome.the_row
outcome_send = search (sendable, variants_send, as_row_send) depth 60 fits 20000

sending_send : IsSend (Sending.the_row Heap.the_row ghosts)
sending_send = search (
  sendable,
  declared_send,
  variants_send,
  as_row_send,
  outcome_send,
  heap.crosses,
) depth 60 fits 20000

in_hand_send : IsSend (InHand.the_row Heap.the_row ghosts)
in_hand_send =
    let fields : FieldsHave IsSend (in_hand.the_type Heap.the_row ghosts).parts =
    search (sendable, as_row_send, variants_send, batch_send, sending_send) depth 60 fits 20000 in
    view_send _ _ _ _ _ (declared_send (in_hand.the_type Heap.the_row ghosts) fields)

pace_send : IsSend Pace.the_row
pace_send = search (sendable, declared_send, as_row_send, heap.crosses) depth 60 fits 20000

setup_send : IsSend Setup.the_row
setup_send = search (sendable, declared_send, as_row_send, heap.crosses) depth 60 fits 20000

module _ (J : RattleType) (g : naming.Ghosts J.Denot) where
  shared_send : IsSend (Shared.the_row J Heap.the_row g ghosts)
  shared_send =
      let fields : FieldsHave IsSend (shared.the_type J Heap.the_row g ghosts).parts =
      search (
        sendable,
        as_row_send,
        declared_send,
        desk_send,
        data_send,
        book.the_send,
        heap.crosses,
      ) depth 60 fits 20000 in
      view_send _ _ _ _ _ (declared_send (shared.the_type J Heap.the_row g ghosts) fields)

  lock_send : IsSend (Lock.the_row J Heap.the_row g ghosts)
  lock_send = search (sendable, shared_send, heap.crosses) depth 60 fits 20000

  lock_sync : IsSync (Lock.the_row J Heap.the_row g ghosts)
  lock_sync = search (sendable, shared_send, heap.crosses) depth 60 fits 20000

  holder_send : (R : RattleType) → IsSend R → IsSend (Holder.the_row J R Heap.the_row g ghosts)
  holder_send R r = view_send _ _ _ _ _ (
      declared_send (holder.the_type J R Heap.the_row g ghosts) (
        heap.Arc-send (Lock.the_row J Heap.the_row g ghosts) lock_send lock_sync,
        (
          account.the_send J (AccountState.the_row BatchOrigin.the_row) g,
          (as_row_send (row_field R) r, tt),
        ),
      )
      )

  -- A pass is `Send` where its runtime's value is.
  pub pass_send : (R : RattleType) → IsSend R → IsSend (Pass.the_row J R Heap.the_row g ghosts)
  pass_send R r = view_send _ _ _ _ _ (
      declared_send (pass.the_type J R Heap.the_row g ghosts) (holder_send R r, tt)
      )

  sender_send : (R : RattleType) → IsSend R
      → IsSend (BatchSender.the_row J R Heap.the_row g ghosts)
  sender_send R r = view_send _ _ _ _ _ (
      declared_send (sender.the_type J R Heap.the_row g ghosts) (
        holder_send R r,
        (
          heap.Vec-send Outcome.the_row outcome_send,
          (
            heap.Vec-send (SpanData.the_row Heap.the_row ghosts) data_send,
            (setup_send, (pace_send, tt)),
          ),
        ),
      )
      )

  -- The worker's pass is `Send` where its runtime's value is.
  pub worker_send : (R : RattleType) → IsSend R
      → IsSend (WorkerPass.the_row J R Heap.the_row g ghosts)
  worker_send R r = view_send _ _ _ _ _ (
      declared_send (worker_pass.the_type J R Heap.the_row g ghosts) (
        sender_send R r,
        (
          search (sendable, as_row_send, variants_send, in_hand_send) depth 60 fits 20000,
          (search (sendable, as_row_send) depth 60 fits 20000, tt),
        ),
      )
      )
