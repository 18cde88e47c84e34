-- What the content of a post means, and what reading it takes. (opentelemetry-proto,
-- trace_service.proto: ExportTraceServiceRequest)
use Rattle.std.specs.Prelude.{◌≡◌, ℕ, ◌-◌, nat_lt, Bool, List, length, if◌then◌else◌}
use Rattle.model_message.specs.Messages.{meaning}
use Rattle.model_message.specs.Tables
use Rattle.otlp_wire.specs.Faults.{NamesOne}
use Rattle.otlp_wire.specs.declared.fault.ReadFault.{ReadFault}
use Rattle.otlp_wire.specs.declared.fault.ReadFault.TheVariants.{BadUtf8, OutOfMemory, TooDeep}
use Rattle.otlp_wire.specs.declared.fault.ReadFault.TheVariants.{Wire}
use Rattle.otlp_receiver.specs.declared.reading.Unread.{Unread}
use Rattle.otlp_receiver.specs.declared.reply.denial.Denial.{Denial}
use Rattle.otlp_receiver.specs.declared.reply.denial.Denial.TheVariants as denials
use Rattle.otlp_receiver.specs.declared.reading.Unread.TheVariants as reasons
use Rattle.otlp_read.specs.Memory.{at_most_64_bits, request_size}

-- how many bytes of memory the reading of a content takes, at most what 64 bits hold
abbrev pub size_of_content : List ℕ → ℕ
size_of_content content = at_most_64_bits (request_size content)

-- the reading of a content takes more bytes of memory than may still be pending
abbrev pub is_above : List ℕ → ℕ → Bool
is_above content room = nat_lt room (size_of_content content)

-- How many bytes of memory the reading of a content may take where the request with this body is
-- the only one, and so many bytes may be pending: what is left of these after what a connection
-- holds, which is the body, twice at most as it grows, and 128 KiB at most beside it. (profile)
abbrev pub room_alone : ℕ → List ℕ → ℕ
room_alone max_pending body = max_pending - 131_072 - length body - length body

-- Why a content isn't read for which there is no room now, where reading it may take so many bytes
-- alone: it never fits (413), or it fits later (503).
abbrev pub size_denial : List ℕ → ℕ → Denial
size_denial content alone =
    if is_above content alone then denials.ReadTooLarge else denials.NoRoom

-- whether memory was refused
abbrev pub unread_by : ReadFault → Unread
unread_by OutOfMemory = reasons.OutOfMemory
unread_by (Wire fault) = reasons.Fault
unread_by BadUtf8 = reasons.Fault
unread_by TooDeep = reasons.Fault

-- the content isn't read, for one of its faults or for lack of memory
abbrev pub IsUnread : List ℕ → Unread → Type 0
IsUnread content unread = (fault : ReadFault)
    × NamesOne (meaning Tables.request content).faults fault × (unread ≡ unread_by fault)
