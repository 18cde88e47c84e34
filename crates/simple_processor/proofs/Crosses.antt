-- A pass may go to another thread where its exporter and its runtime may, with all memory on the
-- heap: each part that it holds names no thread.
use denote.RattleType.{RattleType}
use denote.Struct.Field.{row_field}
use denote.Param.Send.{IsSend, IsSync, sendable, view_send}
use denote.Param.SendFields.{FieldsHave, declared_send, variants_send, as_row_send}
use Rattle.std.proofs.Crossing as heap
use Rattle.std.specs.contracts.alloc.Global as Heap
use Rattle.std.below.std_heap.specs.contracts.GlobalAllocator.TheImpl.{ghosts}
use Rattle.std.specs.contracts.sync.Mutex as Mutex
use Rattle.batch_desk.proofs.Crosses.{data_send, ledger_send}
use Rattle.batch_desk.proofs.totals.FateCounts.TheSendSync as fates
use Rattle.span_exporter.proofs.Crosses.{memory, memory_exports, memory_send}
use Rattle.span_exporter.specs.declared.exporter.Exporter as exporter
use Rattle.account_book.specs.declared.book.Naming as naming
use Rattle.account_book.proofs.book.Account.TheSendSync as account
use Rattle.account_book.proofs.book.Book.TheSendSync as book
use Rattle.simple_processor.specs.contracts.export.ExportState as ExportState
use Rattle.simple_processor.specs.contracts.export.ExportState.TheInside as export
use Rattle.simple_processor.specs.contracts.sender.Sender as Sender
use Rattle.processor_account.specs.contracts.state.AccountState as AccountState
use Rattle.simple_processor.specs.contracts.account.SimpleOrigin as SimpleOrigin
use Rattle.simple_processor.specs.contracts.pass.SimplePass as SimplePass
use Rattle.simple_processor.specs.contracts.pass.SimplePass.TheInside as pass
use Rattle.simple_processor.specs.contracts.shared.Shared as Shared
use Rattle.simple_processor.specs.contracts.shared.Shared.TheInside as shared

sender_send : IsSend (Sender.the_row Heap.the_row ghosts)
sender_send = search (sendable, data_send, heap.crosses) depth 60 fits 20000

-- what the lock guards, and the lock
export_send : (E : RattleType) → IsSend E → IsSend (ExportState.the_row E Heap.the_row ghosts)
export_send E e =
    let fields : FieldsHave IsSend (export.the_type E Heap.the_row ghosts).parts =
    search (sendable, as_row_send, e, sender_send, ledger_send, fates.the_send) depth 30 in
    view_send _ _ _ _ _ (declared_send (export.the_type E Heap.the_row ghosts) fields)

module _ (J E : RattleType) (g : naming.Ghosts J.Denot) (h : exporter.Ghosts E.Denot)
    (e : IsSend E) where
  abbrev lock : RattleType
  lock = Mutex.the_row (Shared.the_row J E Heap.the_row g h ghosts)

  shared_send : IsSend (Shared.the_row J E Heap.the_row g h ghosts)
  shared_send =
      let d = export_send E e in
      let fields : FieldsHave IsSend (shared.the_type J E Heap.the_row g h ghosts).parts =
      search (sendable, as_row_send, variants_send, d, book.the_send, heap.crosses) depth 30 in
      view_send _ _ _ _ _ (declared_send (shared.the_type J E Heap.the_row g h ghosts) fields)

  lock_send : IsSend lock
  lock_send = search (sendable, shared_send, heap.crosses) depth 30

  lock_sync : IsSync lock
  lock_sync = search (sendable, shared_send, heap.crosses) depth 30

  -- A pass is `Send` where its exporter's and its runtime's values are.
  pub pass_send : (R : RattleType) → IsSend R
      → IsSend (SimplePass.the_row J E R Heap.the_row g h ghosts)
  pass_send R r = view_send _ _ _ _ _ (
      declared_send (pass.the_type J E R Heap.the_row g h ghosts) (
        heap.Arc-send lock lock_send lock_sync,
        (
          account.the_send J (AccountState.the_row SimpleOrigin.the_row) g,
          (as_row_send (row_field R) r, tt),
        ),
      )
      )

-- A pass whose exporter keeps all in memory is `Send` where its runtime's value is.
pub memory_pass_send : (J R : RattleType) (g : naming.Ghosts J.Denot) → IsSend R
    → IsSend (SimplePass.the_row J memory R Heap.the_row g memory_exports ghosts)
memory_pass_send J R g r = pass_send J memory g memory_exports memory_send R r
