-- An exporter over memory of the heap may go to another thread.
use denote.RattleType.{RattleType}
use denote.Param.Send.{IsSend, sendable}
use denote.Param.SendFields.{declared_send, as_row_send}
use Rattle.std.proofs.Crossing as heap
use Rattle.std.specs.contracts.alloc.Global as Heap
use Rattle.std.below.std_heap.specs.contracts.GlobalAllocator.TheImpl.{ghosts}
use Rattle.std.below.core.specs.contracts.clone.Clone+copy.TheImpl as copying
use Rattle.span_exporter.specs.contracts.memory.MemoryExporter as MemoryExporter
use Rattle.span_exporter.specs.contracts.memory.MemoryExporterExporter.TheImpl as exporting
use Rattle.span_exporter.specs.declared.exporter.Exporter as exporter

abbrev pub memory : RattleType
memory = MemoryExporter.the_row Heap.the_row ghosts

-- An exporter over memory of the heap is `Send`.
pub memory_send : IsSend memory
memory_send = search (sendable, declared_send, as_row_send, heap.crosses) depth 60 fits 20000

-- what it means as an exporter
abbrev pub memory_exports : exporter.Ghosts memory.Denot
memory_exports =
    exporting.ghosts Heap.the_row ghosts exporting.no_dict
    (copying.ghosts Heap.the_row) exporting.no_dict
