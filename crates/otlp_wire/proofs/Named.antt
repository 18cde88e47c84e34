-- Faults that a part has are faults of the whole.
use Rattle.std.proofs.Common.{sym, ap, subst, ◌∙◌, ℕ, List, [], ◌∷◌, ◌++◌}
use Rattle.std.specs.List.{Contains}
use Rattle.std.proofs.lemmas.List.Elements.{Contains-append_left, Contains-append_right}
use Rattle.model_message.specs.Reading.{Fault, bad_utf8, too_deep}
use Rattle.model_message.specs.Wire.{Field, Payload, len, row}
use Rattle.model_message.specs.Tables.{Shape, message, Table, ◌⦂◌◂◌}
use Rattle.model_message.specs.Messages.{PayloadReading, read, read_table, payloads, joined_rows}
use Rattle.model_message.specs.AnyValue.{AnyValue}
use Rattle.otlp_wire.specs.Fields.{fault_of}
use Rattle.otlp_wire.specs.declared.fault.ReadFault.{ReadFault}
use Rattle.otlp_wire.specs.declared.fault.ReadFault.TheVariants.{Wire, BadUtf8, TooDeep}
use Rattle.otlp_wire.specs.declared.fault.ReadFault.TheVariants.{OutOfMemory}
use Rattle.otlp_wire.specs.Faults.{NamesOne}
use Rattle.otlp_wire.proofs.JoinedRows.{joined-faults, one-faults}

-- Each of the first faults is one of the second.
abbrev pub Within : List Fault → List Fault → Type 0
Within part whole = (x : Fault) → Contains part x → Contains whole x

-- A reported fault that names one of a part's faults names one of the whole's faults.
pub names-within : (part whole : List Fault) → Within part whole → (fault : ReadFault)
    → NamesOne part fault → NamesOne whole fault
names-within part whole w (Wire fault) h = w (fault_of fault) h
names-within part whole w BadUtf8 h = w bad_utf8 h
names-within part whole w TooDeep h = w too_deep h
names-within part whole w OutOfMemory h = tt

-- The faults of the first list are among those of both lists, one after the other.
pub within-left : (a b : List Fault) → Within a (a ++ b)
within-left a b x h = Contains-append_left a b x h

-- The faults of the second list are among those of both lists, one after the other.
pub within-right : (a b : List Fault) → Within b (a ++ b)
within-right a b x h = Contains-append_right a b x h

-- ---- the rows of payloads

-- A fault in the row of one payload is a fault of the joined rows.
pub within-joined : (before after : List Payload) (content : List ℕ)
    → Within (row content).faults (joined_rows (before ++ len content ∷ after)).faults
within-joined before after content x h =
    subst (λ l. Contains l x) (sym (joined-faults before (len content ∷ after)))
    (within-right (joined_rows before).faults (joined_rows (len content ∷ after)).faults x
    (subst (λ l. Contains l x)
    (sym (joined-faults (len content ∷ []) after
    ∙ ap (λ l. l ++ (joined_rows after).faults) (one-faults (len content))))
    (within-left (row content).faults (joined_rows after).faults x h)))

-- ---- the fields of a table

-- A fault of the first field of a table is a fault of the table.
pub within-first : (values : PayloadReading AnyValue) (n : ℕ) (s : Shape) (t : Table)
    (fields : List Field)
    → Within (read values s (payloads n s fields)).faults
    (read_table values (n ⦂ s ◂ t) fields).faults
unfolding read
within-first values n s t fields x h =
    within-left (read values s (payloads n s fields)).faults _ x h

-- A fault of the fields after the first of a table is a fault of the table.
pub within-others : (values : PayloadReading AnyValue) (n : ℕ) (s : Shape) (t : Table)
    (fields : List Field)
    → Within (read_table values t fields).faults (read_table values (n ⦂ s ◂ t) fields).faults
unfolding read
within-others values n s t fields x h =
    within-right (read values s (payloads n s fields)).faults _ x
    (within-left (read_table values t fields).faults [] x h)

-- ---- a message

-- A fault of the joined rows of a message is a fault of the message.
pub message-row : (values : PayloadReading AnyValue) (t : Table) (ps : List Payload)
    → Within (joined_rows ps).faults (read values (message t) ps).faults
unfolding read
message-row values t ps x h = within-left (joined_rows ps).faults _ x h

-- A fault of the fields of a message by its table is a fault of the message.
pub message-fields : (values : PayloadReading AnyValue) (t : Table) (ps : List Payload)
    → Within (read_table values t (joined_rows ps).value).faults (read values (message t) ps).faults
unfolding read
message-fields values t ps x h = within-right (joined_rows ps).faults _ x h
