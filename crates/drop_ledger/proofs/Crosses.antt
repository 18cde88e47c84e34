-- With all memory on the heap, a sink of the newest names may go to another thread.
use denote.Param.Send.{IsSend, sendable}
use denote.Param.SendFields.{declared_send, variants_send, as_row_send}
use Rattle.std.proofs.Crossing as heap
use Rattle.std.specs.contracts.alloc.Global as Heap
use Rattle.std.below.std_heap.specs.contracts.GlobalAllocator.TheImpl.{ghosts}
use Rattle.otlp_span.specs.contracts.slip.Entry as Entry
use Rattle.drop_ledger.proofs.history.History.TheSendSync as history
use Rattle.drop_ledger.specs.contracts.names.NewestNames as NewestNames
use Rattle.drop_ledger.specs.contracts.newest.Newest as Newest

entry_send : IsSend Entry.the_row
entry_send =
    search (sendable, declared_send, variants_send, as_row_send, heap.crosses) depth 60 fits 20000

kept_send : IsSend (Newest.the_row Entry.the_row Heap.the_row ghosts)
kept_send = search (sendable, entry_send, history.the_send, heap.crosses) depth 60 fits 20000

-- A sink of the newest names on the heap is `Send`.
pub newest_send : IsSend (NewestNames.the_row Heap.the_row ghosts)
newest_send = search (sendable, kept_send, heap.crosses) depth 60 fits 20000
