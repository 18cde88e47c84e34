-- With all memory on the heap, spans that have ended may go to another thread, and so may a ledger,
-- a batch and a desk: each part that they hold names no thread.
use denote.RattleType.{RattleType}
use denote.Param.Send.{IsSend, IsSync, sendable}
use denote.Param.SendFields.{declared_send, variants_send, as_row_send}
use Rattle.std.proofs.Crossing as heap
use Rattle.std.proofs.MapsCrossing as maps
use Rattle.std.specs.contracts.alloc.Global as Heap
use Rattle.std.below.std_heap.specs.contracts.GlobalAllocator.TheImpl.{ghosts}
use Rattle.otlp_ids.specs.contracts.SpanContext as SpanContext
use Rattle.otlp_span.below.otlp_value.specs.contracts.AttributeList as AttributeList
use Rattle.otlp_span.proofs.slip.Slip.TheLaws.TheKnot as slip
use Rattle.otlp_span.specs.contracts.slip.Slip as Slip
use Rattle.otlp_span.specs.contracts.body.BlankSlip as BlankSlip
use Rattle.otlp_span.specs.contracts.body.SpanBody as SpanBody
use Rattle.otlp_span.specs.contracts.data.SpanData as SpanData
use Rattle.otlp_span.specs.contracts.kept.Kept as Kept
use Rattle.otlp_span.specs.contracts.parts.Event as Event
use Rattle.otlp_span.specs.contracts.parts.Link as Link
use Rattle.otlp_span.specs.contracts.parts.Resource as Resource
use Rattle.otlp_span.specs.contracts.parts.Scope as Scope
use Rattle.otlp_span.specs.contracts.parts.SpanLimits as SpanLimits
use Rattle.otlp_span.specs.contracts.parts.Status as Status
use Rattle.drop_ledger.specs.contracts.ledger.Ledger as Ledger
use Rattle.span_ring.proofs.places.Places.TheSendSync as places
use Rattle.span_ring.proofs.room.RoomOwner.TheSendSync as owner
use Rattle.span_ring.specs.contracts.run.Run as Run
use Rattle.span_ring.specs.contracts.ring.SpanRing as SpanRing
use Rattle.batch_desk.specs.contracts.batch.Batch as Batch
use Rattle.batch_desk.specs.contracts.desk.Desk as Desk

slip_send : IsSend (Slip.the_row Heap.the_row ghosts)
slip_send = search (sendable, slip.crosses, heap.crosses) depth 30

blank_send : IsSend (BlankSlip.the_row Heap.the_row ghosts)
blank_send = search (sendable, slip_send, heap.crosses) depth 60 fits 20000

-- A ledger on the heap is `Send`.
pub ledger_send : IsSend (Ledger.the_row Heap.the_row ghosts)
ledger_send = search (sendable, slip_send, heap.crosses, maps.crosses) depth 60 fits 20000

-- a span that has ended
resource_send : IsSend (Resource.the_row Heap.the_row ghosts)
resource_send = search (sendable, heap.crosses) depth 60 fits 20000

resource_sync : IsSync (Resource.the_row Heap.the_row ghosts)
resource_sync = search (sendable, heap.crosses) depth 60 fits 20000

scope_send : IsSend (Scope.the_row Heap.the_row ghosts)
scope_send = search (sendable, heap.crosses) depth 60 fits 20000

scope_sync : IsSync (Scope.the_row Heap.the_row ghosts)
scope_sync = search (sendable, heap.crosses) depth 60 fits 20000

context_send : IsSend (SpanContext.the_row Heap.the_row ghosts)
context_send = search (sendable, heap.crosses) depth 60 fits 20000

attributes_send : IsSend (AttributeList.the_row Heap.the_row ghosts)
attributes_send = search (sendable, heap.crosses, maps.crosses) depth 60 fits 20000

event_send : IsSend (Event.the_row Heap.the_row ghosts)
event_send = search (sendable, heap.crosses) depth 60 fits 20000

link_send : IsSend (Link.the_row Heap.the_row ghosts)
link_send = search (sendable, heap.crosses) depth 60 fits 20000

events_send : IsSend (Kept.the_row (Event.the_row Heap.the_row ghosts) Heap.the_row ghosts)
events_send = search (sendable, event_send, heap.crosses) depth 60 fits 20000

links_send : IsSend (Kept.the_row (Link.the_row Heap.the_row ghosts) Heap.the_row ghosts)
links_send = search (sendable, link_send, heap.crosses) depth 60 fits 20000

status_send : IsSend (Status.the_row Heap.the_row ghosts)
status_send = search (sendable, heap.crosses) depth 60 fits 20000

limits_send : IsSend SpanLimits.the_row
limits_send = search (sendable, heap.crosses) depth 60 fits 20000

body_send : IsSend (SpanBody.the_row Heap.the_row ghosts)
body_send = search (
  sendable,
  declared_send,
  variants_send,
  as_row_send,
  limits_send,
  blank_send,
  context_send,
  attributes_send,
  events_send,
  links_send,
  status_send,
  resource_send,
  resource_sync,
  scope_send,
  scope_sync,
  heap.crosses,
) depth 60 fits 20000

-- A span that has ended, on the heap, is `Send`.
pub data_send : IsSend (SpanData.the_row Heap.the_row ghosts)
data_send = search (sendable, body_send, heap.crosses) depth 60 fits 20000

-- a ring of spans, and a run of it
abbrev S : RattleType
S = SpanData.the_row Heap.the_row ghosts

run_send : IsSend (Run.the_row S Heap.the_row ghosts)
run_send =
    search (sendable, data_send, places.the_send, owner.the_send, heap.crosses) depth 60 fits 20000

ring_send : IsSend (SpanRing.the_row S Heap.the_row ghosts)
ring_send =
    search (sendable, data_send, places.the_send, owner.the_send, heap.crosses) depth 60 fits 20000

-- A batch on the heap is `Send`.
pub batch_send : IsSend (Batch.the_row Heap.the_row ghosts)
batch_send = search (sendable, run_send, heap.crosses) depth 60 fits 20000

-- A desk on the heap is `Send`.
pub desk_send : IsSend (Desk.the_row Heap.the_row ghosts)
desk_send = search (sendable, ring_send, ledger_send, heap.crosses) depth 60 fits 20000
