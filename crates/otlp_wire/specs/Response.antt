-- What is read of a response (Protocol Buffers, Encoding; opentelemetry-proto,
-- trace_service.proto).
use Rattle.std.specs.Prelude.{◌≡◌, ℕ, ℤ, List, [], ◌++◌}
use Rattle.std.specs.List.{Contains}
use Rattle.model_message.specs.Reading.{Reading, Fault, bad_utf8, too_deep}
use Rattle.model_message.specs.Wire.{Field, row}
use Rattle.model_message.specs.Canon.{number_field, unless_empty}
use Rattle.model_message.specs.Tables
use Rattle.model_message.specs.Tables.{text, int64, message, Table, end, ◌⦂◌◂◌, Message, ◌▸◌}
use Rattle.model_message.specs.Messages.{payloads, last_number, last_bytes, joined_rows}
use Rattle.otlp_wire.specs.Fields.{fault_of}
use Rattle.otlp_wire.specs.declared.fault.ReadFault.{ReadFault}
use Rattle.otlp_wire.specs.declared.fault.ReadFault.TheVariants.{Wire, BadUtf8, TooDeep}
use Rattle.otlp_wire.specs.declared.fault.ReadFault.TheVariants.{OutOfMemory}
use Rattle.otlp_wire.specs.declared.response.PartialFields.{PartialFields}

-- It names one of these faults. Memory is wanting only where there is none of them.
abbrev pub NamesFault : List Fault → ReadFault → Type 0
NamesFault faults (Wire fault) = Contains faults (fault_of fault)
NamesFault faults BadUtf8 = Contains faults bad_utf8
NamesFault faults TooDeep = Contains faults too_deep
NamesFault faults OutOfMemory = faults ≡ []

-- the fields of the partial successes among the fields of a response, joined (Protocol Buffers,
-- Encoding: Last One Wins)
abbrev pub partial_row : List Field → Reading (List Field)
partial_row fields = joined_rows (payloads 1 (message Tables.partial_success) fields)

-- the faults of the fields of a response and of its partial successes; those of texts are left out
-- (Protocol Buffers, Encoding: Message Structure)
abbrev pub row_faults : List ℕ → List Fault
row_faults body = (row body).faults ++ (partial_row (row body).value).faults

-- why a server refuses a request, for its developers; the code and the details aren't read
-- (google/rpc/status.proto: Status; OTLP Specification, OTLP/HTTP Response: Failures)
abbrev pub status : Table
status = 2 ⦂ text ◂ end

-- These are the payloads that count among the fields of a partial success. (Protocol Buffers,
-- Encoding: Last One Wins)
pub record Counts (counted : PartialFields) (fields : List Field) : Type 0 where
  pub rejected_spans : counted.rejected_spans ≡ last_number (payloads 1 int64 fields)
  pub error_message : counted.error_message.now ≡ last_bytes (payloads 2 text fields)

-- the text of the message of a response (opentelemetry-proto, trace_service.proto:
-- ExportTracePartialSuccess)
abbrev pub message_text : Message Tables.response → List ℕ
message_text (partial ▸ rest) = partial.1.0

-- the number of rejected spans of a response (opentelemetry-proto, trace_service.proto:
-- ExportTracePartialSuccess)
abbrev pub rejected_in : Message Tables.response → ℤ
rejected_in (partial ▸ rest) = partial.0

-- The reading is whole, and says that this number of spans were rejected.
pub record Rejects (reading : Reading (Message Tables.response)) (rejected : ℤ) : Type 0 where
  pub whole : reading.faults ≡ []
  pub is : rejected ≡ rejected_in reading.value

-- what was taken in part as fields, with the number of rejected spans in two's complement, and the
-- message (opentelemetry-proto, trace_service.proto: ExportTracePartialSuccess)
abbrev pub partial_fields : ℕ → List ℕ → List Field
partial_fields rejected why = number_field 1 rejected ++ (unless_empty 2 why ++ [])
