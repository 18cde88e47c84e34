-- What comes where a head is due, a request's or a reply's (RFC 9112, sections 2 to 5). A kind of
-- head is given by which heads are valid, how one is printed and which fields it has, and by what
-- it says of a text: that no front of it is a head (`none`), that bytes can follow that make it one
-- (`may`), that none can (`never`), and that its head has more fields than a given number
-- (`exceeds`).
use Rattle.std.specs.Prelude.{◌≡◌, ℕ, ◌<◌, ◌≤◌, ◌⊎◌, List, ◌++◌, length, Option, Some, None}
use Rattle.std.specs.Prelude.{Result, Ok, Err}
use Rattle.std.specs.Io.KnownBytes.{IsAtEnd}
use Rattle.httparse.specs.Grammar.{Field}
use Rattle.httparse.specs.declared.spans.HeaderSpan.{HeaderSpan}
use Rattle.http_wire.specs.declared.fault.HttpFault.{HttpFault}
use Rattle.http_wire.specs.declared.fault.HttpFault.TheVariants as faults
use Rattle.http_wire.specs.declared.limits.HeadLimits.{HeadLimits}

-- no front of the text is such a head
abbrev pub HasNone : {Head : Type 0} → (Head → Type 0) → (Head → List ℕ) → List ℕ → Type 0
HasNone {Head} valid printed text =
    (head : Head) (rest : List ℕ) → ¬ (valid head × (text ≡ printed head ++ rest))

-- the text is that head, within the limits of bytes and of fields
pub record IsSuchHead {Head : Type 0} (is_valid : Head → Type 0) (printed : Head → List ℕ)
    (fields_in : Head → List Field) (limits : HeadLimits) (text : List ℕ) (head : Head)
    : Type 0 where
  pub valid : is_valid head
  pub whole : text ≡ printed head
  pub bytes : length text ≤ limits.head
  pub fields : length (fields_in head) ≤ limits.fields

-- where the parts of a head are in a text: what is said of their spans, and of these alone
abbrev pub Covers : Type 0 → Type 0 → Type 1
Covers Head Found = List ℕ → List HeaderSpan → Found → Head → Type 0

abbrev pub Within : Type 0 → Type 1
Within Found = List ℕ → List HeaderSpan → Found → Type 0

-- the spans cover the parts of that head, which is the text
abbrev pub CoversSuchHead : {Head Found : Type 0} → (Head → Type 0) → (Head → List ℕ)
    → (Head → List Field) → Covers Head Found → Within Found
    → HeadLimits → List ℕ → List HeaderSpan → Found → Head → Type 0
CoversSuchHead valid printed fields_in covers within limits text spans found head =
    IsSuchHead valid printed fields_in limits text head
    × covers text spans found head × within text spans found

-- the spans cover a head, which is the text
abbrev pub FindsSuchHead : {Head Found : Type 0} → (Head → Type 0) → (Head → List ℕ)
    → (Head → List Field) → Covers Head Found → Within Found
    → HeadLimits → List ℕ → List HeaderSpan → Found → Type 0
FindsSuchHead {Head} valid printed fields_in covers within limits text spans found =
    (head : Head)
    × CoversSuchHead valid printed fields_in covers within limits text spans found head

-- the text came where a head was due, then these bytes were left, and no head came for this cause
abbrev pub LacksSuchHead : (none may never : List ℕ → Type 0) (exceeds : ℕ → List ℕ → Type 0)
    → HeadLimits → List ℕ → Option (List ℕ) → Type 0 → HttpFault → Type 0
LacksSuchHead none may never exceeds limits text left failed faults.Ended =
    IsAtEnd left × (none text × may text) × (length text < limits.head)
LacksSuchHead none may never exceeds limits text left failed faults.Device =
    failed × (none text × may text) × (length text < limits.head)
LacksSuchHead none may never exceeds limits text left failed faults.BadHead =
    never text × (length text ≤ limits.head)
LacksSuchHead none may never exceeds limits text left failed faults.TooLarge =
    (length text ≤ limits.head)
    × (((none text × may text) × (length text ≡ limits.head)) ⊎ exceeds limits.fields text)
LacksSuchHead none may never exceeds limits text left failed faults.OutOfMemory =
    none text × (length text < limits.head)
LacksSuchHead none may never exceeds limits text left failed faults.BadLength = ⊥
LacksSuchHead none may never exceeds limits text left failed faults.BadChunk = ⊥

-- what a parse of the text says, with room for this number of fields
abbrev pub ParsesSuchHead : {Head Found : Type 0} (none may never : List ℕ → Type 0)
    (exceeds : ℕ → List ℕ → Type 0) → Covers Head Found → Within Found
    → List ℕ → ℕ → List HeaderSpan → Result (Option Found) HttpFault → Type 0
ParsesSuchHead {Head} none may never exceeds covers within text room spans (Ok (Some found)) =
    (head : Head) × covers text spans found head × within text spans found
ParsesSuchHead none may never exceeds covers within text room spans (Ok None) =
    none text × may text
ParsesSuchHead none may never exceeds covers within text room spans (Err faults.BadHead) =
    never text
ParsesSuchHead none may never exceeds covers within text room spans (Err faults.TooLarge) =
    exceeds room text
ParsesSuchHead none may never exceeds covers within text room spans (Err faults.Ended) = ⊥
ParsesSuchHead none may never exceeds covers within text room spans (Err faults.Device) = ⊥
ParsesSuchHead none may never exceeds covers within text room spans (Err faults.BadLength) = ⊥
ParsesSuchHead none may never exceeds covers within text room spans (Err faults.BadChunk) = ⊥
ParsesSuchHead none may never exceeds covers within text room spans (Err faults.OutOfMemory) = ⊥

-- the text can't begin a head, or has too many fields, or else the reading stopped by the fault
pub data IsStoppedHead (none may never : List ℕ → Type 0) (exceeds : ℕ → List ℕ → Type 0)
    (text : List ℕ) (room : ℕ) (fault answer : HttpFault) : Type 0 where
  unfinished : none text × may text → answer ≡ fault
      → IsStoppedHead none may never exceeds text room fault answer
  bad : never text → answer ≡ faults.BadHead
      → IsStoppedHead none may never exceeds text room fault answer
  over : exceeds room text → answer ≡ faults.TooLarge
      → IsStoppedHead none may never exceeds text room fault answer
