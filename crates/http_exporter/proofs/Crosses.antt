-- An exporter over TCP, with all memory on the heap, may go to another thread where its runtime
-- may; and so may one that keeps its connection, where the system's stream may, too.
use denote.RattleType.{RattleType}
use denote.Builtin.{Array, u8}
use denote.Struct.Field.{row_field}
use denote.Param.Send.{IsSend, array_send, sendable, view_send}
use denote.Param.SendFields.{FieldsHave, declared_send, variants_send, as_row_send}
use Rattle.std.proofs.Crossing as heap
use Rattle.std.specs.contracts.alloc.Global as Heap
use Rattle.std.below.std_heap.specs.contracts.GlobalAllocator.TheImpl.{ghosts}
use Rattle.otlp_http.specs.contracts.headers.HeaderFields as HeaderFields
use Rattle.otlp_http.specs.contracts.headers.HeaderFields.TheInside as headers
use Rattle.otlp_http.specs.contracts.target.Target as Target
use Rattle.otlp_http.specs.contracts.target.Target.TheInside as target
use Rattle.http_wire.specs.contracts.limits.HeadLimits as HeadLimits
use Rattle.http_wire.specs.contracts.fault.HttpFault as HttpFault
use Rattle.http_exporter.specs.contracts.failure.Failure as Failure
use Rattle.http_exporter.specs.contracts.failure.Message as Message
use Rattle.http_exporter.specs.contracts.failure.Message.TheInside as message
use Rattle.http_wire.specs.declared.device.FaultRead as reading
use Rattle.http_wire.specs.declared.device.FaultWrite as writing
use Rattle.http_exporter.specs.contracts.buffer.Buffered as Buffered
use Rattle.http_exporter.specs.contracts.buffer.Buffered.TheInside as buffered
use Rattle.http_exporter.specs.contracts.deadline.Countdown as Countdown
use Rattle.http_exporter.specs.contracts.deadline.Countdown.TheInside as countdown
use Rattle.http_exporter.specs.contracts.deadline.Deadline as Deadline
use Rattle.http_exporter.specs.contracts.deadline.Deadline.TheInside as deadline
use Rattle.http_exporter.specs.contracts.deadline.RuntimeClock as RuntimeClock
use Rattle.http_exporter.specs.contracts.exporter.LinkExporter as LinkExporter
use Rattle.http_exporter.specs.contracts.exporter.LinkExporter.TheInside as exporter
use Rattle.http_exporter.specs.contracts.kept.KeptExporter as KeptExporter
use Rattle.http_exporter.specs.contracts.kept.KeptExporter.TheInside as kept
use Rattle.http_exporter.specs.contracts.tcp.Socket as Socket
use Rattle.http_exporter.specs.declared.dial.Dial as dialing
use Rattle.http_exporter.specs.contracts.tcp.TcpDial as TcpDial
use Rattle.http_exporter.specs.contracts.tcp.TcpDial.TheInside as dial

headers_send : IsSend (HeaderFields.the_row Heap.the_row ghosts)
headers_send =
    let fields : FieldsHave IsSend (headers.the_type Heap.the_row ghosts).parts =
    search (sendable, as_row_send, heap.crosses) depth 60 fits 20000 in
    view_send _ _ _ _ _ (declared_send (headers.the_type Heap.the_row ghosts) fields)

target_send : IsSend (Target.the_row Heap.the_row ghosts)
target_send =
    let fields : FieldsHave IsSend (target.the_type Heap.the_row ghosts).parts =
    search (sendable, as_row_send, headers_send, heap.crosses) depth 60 fits 20000 in
    view_send _ _ _ _ _ (declared_send (target.the_type Heap.the_row ghosts) fields)

limits_send : IsSend HeadLimits.the_row
limits_send = search (sendable, declared_send, as_row_send) depth 60 fits 20000

fault_send : IsSend HttpFault.the_row
fault_send = search (sendable, variants_send) depth 60 fits 20000

message_send : IsSend Message.the_row
message_send =
    view_send _ _ _ _ _
    (declared_send message.the_type
    (search (sendable, declared_send, as_row_send) depth 60 fits 20000))

failure_send : IsSend Failure.the_row
failure_send =
    search (sendable, variants_send, as_row_send, fault_send, message_send) depth 60 fits 20000

-- An exporter over links on the heap is `Send` where its dial is.
pub link_exporter_send : (D : RattleType) → IsSend D
    → IsSend (LinkExporter.the_row D Heap.the_row ghosts)
link_exporter_send D d =
    view_send _ _ _ _ _
    (declared_send (exporter.the_type D Heap.the_row ghosts)
    (search
    (sendable, as_row_send, variants_send, target_send, limits_send, failure_send, heap.crosses, d)
    depth 60 fits 20000))

tcp_dial_send : (R : RattleType) → IsSend R → IsSend (TcpDial.the_row R)
tcp_dial_send R r =
    view_send _ _ _ _ _
    (declared_send (dial.the_type R) (search (sendable, as_row_send, r) depth 60 fits 20000))

-- An exporter over TCP on the heap is `Send` where its runtime's value is.
pub http_exporter_send : (R : RattleType) → IsSend R
    → IsSend (LinkExporter.the_row (TcpDial.the_row R) Heap.the_row ghosts)
http_exporter_send R r = link_exporter_send (TcpDial.the_row R) (tcp_dial_send R r)

module _ (D L : RattleType) (g : dialing.Ghosts D.Denot L.Denot)
    (r : reading.Ghosts L.Denot) (w : writing.Ghosts L.Denot) where
  -- An exporter that keeps its link is `Send` where its dial and its link are.
  pub kept_exporter_send : IsSend D → IsSend L
      → IsSend (KeptExporter.the_row D Heap.the_row L g r w ghosts)
  kept_exporter_send d l =
      let e = link_exporter_send D d in
      view_send _ _ _ _ _
      (declared_send (kept.the_type D Heap.the_row L g r w ghosts)
      (search (sendable, as_row_send, variants_send, e, l) depth 60 fits 20000))

clock_send : (R : RattleType) → IsSend R → IsSend (RuntimeClock.the_row R)
clock_send R r = search (sendable, declared_send, r) depth 60 fits 20000

countdown_send : (C : RattleType) → IsSend C → IsSend (Countdown.the_row C)
countdown_send C c =
    view_send _ _ _ _ _
    (declared_send (countdown.the_type C) (search (sendable, as_row_send, c) depth 60 fits 20000))

socket_send : (S : RattleType) → IsSend S → IsSend (Socket.the_row S)
socket_send S s = search (sendable, declared_send, s) depth 60 fits 20000

deadline_send : (S C : RattleType) → IsSend S → IsSend C → IsSend (Deadline.the_row S C)
deadline_send S C s c =
    let t = countdown_send C c in
    view_send _ _ _ _ _
    (declared_send (deadline.the_type S C)
    (search (sendable, as_row_send, s, t) depth 60 fits 20000))

buffered_send : (L : RattleType) → IsSend L → IsSend (Buffered.the_row L)
buffered_send L l =
    let bytes = as_row_send (row_field (Array u8 tt 4096)) (array_send u8 4096 (search sendable)) in
    view_send _ _ _ _ _
    (declared_send (buffered.the_type L)
    (as_row_send (row_field L) l, (bytes, search (sendable, as_row_send) depth 60 fits 20000)))

-- a link over TCP, by the runtime and its streams
abbrev pub tcp_link : RattleType → RattleType → RattleType
tcp_link R S = Buffered.the_row (Deadline.the_row (Socket.the_row S) (RuntimeClock.the_row R))

-- A link over TCP is `Send` where the runtime's value and its stream are.
pub tcp_link_send : (R S : RattleType) → IsSend R → IsSend S → IsSend (tcp_link R S)
tcp_link_send R S r s = buffered_send _ (deadline_send _ _ (socket_send S s) (clock_send R r))

module _ (R S : RattleType) (g : dialing.Ghosts (TcpDial.the_row R).Denot (tcp_link R S).Denot)
    (r : reading.Ghosts (tcp_link R S).Denot) (w : writing.Ghosts (tcp_link R S).Denot) where
  -- An exporter that keeps its connection is `Send` where its runtime's value and stream are.
  pub kept_http_exporter_send : IsSend R → IsSend S
      → IsSend (KeptExporter.the_row (TcpDial.the_row R) Heap.the_row (tcp_link R S) g r w ghosts)
  kept_http_exporter_send a s =
      kept_exporter_send _ _ g r w (tcp_dial_send R a) (tcp_link_send R S a s)
