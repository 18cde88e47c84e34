-- The fields of a message by their places in its table: what is gathered of them, and their faults.
use Rattle.std.proofs.Common.{◌≡◌, ℕ, zero, suc, List, [], ◌∷◌, ◌++◌, Result, Err, IfErr}
use Rattle.model_message.specs.Reading.{Fault, Reading}
use Rattle.model_message.specs.Wire.{Field, put}
use Rattle.model_message.specs.Tables.{Shape, message, Table, end, ◌⦂◌◂◌}
use Rattle.model_message.specs.Messages.{read_table, value, max_depth}
use Rattle.otlp_wire.specs.declared.fault.ReadFault.{ReadFault}
use Rattle.otlp_wire.specs.Faults.{NamesOne}
use Rattle.otlp_wire.specs.Gathering.{Gathered, IsGathered, KeepsField, field_faults, finished}
use Rattle.otlp_wire.specs.Gathering.{finished_table}
use Rattle.otlp_wire.proofs.FieldsRead.{FieldsRead, read-more}
use Rattle.otlp_wire.proofs.GatherSteps.{After, after-more}
use Rattle.otlp_wire.proofs.Named.{Within, names-within}
use Rattle.otlp_wire.proofs.Finished.{suffix, place-fails, finished-first, finished-others}

-- ---- one field more

-- Where some fields of a row were gathered after others, one field more of the row is too.
pub row-more : {X : Type 0} (Q : X → List Field → Type 0) (old mid new : X)
    (whole left others : Reading (List Field)) (f : Field)
    → FieldsRead (After Q old mid) whole left → left ≡ put f others
    → ((fields : List Field) → Q mid fields → Q new (fields ++ f ∷ []))
    → FieldsRead (After Q old new) whole others
row-more Q old mid new whole left others f h next step =
    read-more (After Q old mid) (After Q old new) whole left others f h next
    (after-more Q old mid new f step)

-- Each field of the table keeps what it has to of one field more.
abbrev pub KeepsEach : (t : Table) → Gathered t → Gathered t → Field → Type 0
KeepsEach end old new f = Unit {0}
KeepsEach (n ⦂ s ◂ t) old new f = KeepsField s n old.0 new.0 f × KeepsEach t old.1 new.1 f

-- Where each field of the table keeps what it has to, one field more is gathered.
pub gathers-more : (t : Table) (old new : Gathered t) (f : Field) → KeepsEach t old new f
    → (fields : List Field) → IsGathered (value max_depth) t old fields
    → IsGathered (value max_depth) t new (fields ++ f ∷ [])
gathers-more end old new f keeps fields h = tt
gathers-more (n ⦂ s ◂ t) old new f keeps fields h =
    (keeps.0 fields h.0, gathers-more t old.1 new.1 f keeps.1 fields h.1)

-- A fault of the field at a place of the table is one of the message.
pub take-fails : (place : ℕ) (t : Table) {rest : Table} {n : ℕ} {s : Shape}
    → suffix place t ≡ (n ⦂ s ◂ rest) → (f : Field) {T : Type 0} {r : Result T ReadFault}
    {fault : ReadFault} →
    ((before after : List Field) → NamesOne (field_faults s n before f after) fault)
    → r ≡ Err fault → IfErr r (λ x. (before after : List Field)
    → NamesOne (read_table (value max_depth) t (before ++ f ∷ after)).faults x)
take-fails place t is f h e = rw e (place-fails place t _ _ _ is f _ h)

-- ---- what was gathered, read to its end

-- the faults of what was gathered of the field at a place of the table
abbrev pub faults_at : (place : ℕ) (t : Table) → Gathered t → List Fault
faults_at place end x = []
faults_at zero (n ⦂ s ◂ t) x = (finished (value max_depth) s x.0).faults
faults_at (suc place) (n ⦂ s ◂ t) x = faults_at place t x.1

within-finished : (place : ℕ) (t : Table) (x : Gathered t)
    → Within (faults_at place t x) (finished_table (value max_depth) t x).faults
within-finished place end x fault h = h
within-finished zero (n ⦂ s ◂ t) x fault h = finished-first (value max_depth) n s t x fault h
within-finished (suc place) (n ⦂ s ◂ t) x fault h =
    finished-others (value max_depth) n s t x fault (within-finished place t x.1 fault h)

-- A fault of what was gathered of the field at a place of the table is one of the message.
pub finish-fails : (place : ℕ) (t : Table) (x : Gathered t) {T : Type 0} {r : Result T ReadFault}
    {fault : ReadFault} → NamesOne (faults_at place t x) fault → r ≡ Err fault
    → IfErr r (λ y. NamesOne (finished (value max_depth) (message t) x).faults y)
finish-fails place t x h e =
    rw e
    (names-within (faults_at place t x) (finished_table (value max_depth) t x).faults
    (within-finished place t x) _ h)
