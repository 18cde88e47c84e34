-- What is written is read: a body means the spans of the groups that it carries.
use Rattle.std.proofs.Common.{◌≡◌, refl, ap, ◌∙◌, ℕ, List, [], ◌<◌, ◌^◌, length, arith}
use Rattle.model_message.specs.Reading.{Reading, Reads, done}
use Rattle.model_message.specs.Tables
use Rattle.model_message.specs.Tables.{Table, Message}
use Rattle.model_message.specs.Canon.{canon}
use Rattle.model_message.specs.Whole.{IsMessage}
use Rattle.model_message.specs.Messages.{meaning, body_meaning, triples}
use Rattle.model_export.specs.Export.{ResourceGroup, request_message, triples_of, body_length}
use Rattle.model_message.proofs.Lengths.{canon-reads}
use Rattle.model_export.proofs.Grouped.{carried-triples}
use Rattle.otlp_proto.specs.Encode.{Cursor, counted, filled, saturated, PutsAll}

-- ---- a message that is counted, and then written into a buffer of that length

-- A count of a message that begins at 0 is the length of its bytes, saturated.
pub counted-message : (t : Table) (r : Message t) (n : ℕ) → n < 2 ^ 64
    → PutsAll t r (counted 0) (counted n) → n ≡ saturated (length (canon t r))
counted-message t r n l p = omega (arith, l, p.bytes)

-- A buffer of the exact length of a message is filled with its bytes, and no room is left.
pub filled-message : (t : Table) (r : Message t) (n : ℕ) (c : Cursor)
    → n ≡ saturated (length (canon t r)) → n < 2 ^ 63 → PutsAll t r (filled [] n) c
    → c ≡ filled (canon t r) 0
filled-message t r n c e l p =
    p.bytes (omega (arith, e, l)) (omega (arith, l)) ∙ ap (filled (canon t r)) (omega (arith, e, l))

-- ---- what the bytes of a request mean

-- The bytes that a request is written as are read as that request.
pub reads-written : (r : Message Tables.request) (bs : List ℕ) → bs ≡ canon Tables.request r
    → IsMessage Tables.request r → length bs < 2 ^ 64 → Reads (meaning Tables.request bs) r
reads-written r bs is whole l =
    let short : length (canon Tables.request r) < 2 ^ 64 = rw (← is) l in
    let e : meaning Tables.request bs ≡ done r =
    ap (meaning Tables.request) is ∙ canon-reads Tables.request r refl whole short in (
      ap (λ (x : Reading (Message Tables.request)). x.faults) e,
      ap (λ (x : Reading (Message Tables.request)). x.value) e,
    )

-- The bytes of a request of some groups mean the spans of these groups.
pub spans-written : (gs : List ResourceGroup) (bs : List ℕ)
    → bs ≡ canon Tables.request (request_message gs) → IsMessage Tables.request (request_message gs)
    → length bs < 2 ^ 64 → Reads (body_meaning bs) (triples_of gs)
unfolding body_meaning
spans-written gs bs is whole l =
    let read = reads-written (request_message gs) bs is whole l in
    (rw read.0 refl, ap triples read.1 ∙ carried-triples gs)

-- The bytes of a request of some groups are as many as the model says of its body.
pub length-written : (gs : List ResourceGroup) (bs : List ℕ)
    → bs ≡ canon Tables.request (request_message gs) → length bs ≡ body_length gs
unfolding body_length
length-written gs bs is = ap length is

-- A request without a group is written as no bytes.
pub no-groups : (gs : List ResourceGroup) (bs : List ℕ) → gs ≡ [] → bs ≡ []
    → bs ≡ canon Tables.request (request_message gs)
unfolding request_message canon
no-groups gs bs e none = rw (e, none) refl

-- A request without a group can be read.
pub no-groups-whole : (gs : List ResourceGroup) → gs ≡ []
    → IsMessage Tables.request (request_message gs)
unfolding request_message
no-groups-whole gs e = rw e (tt, tt)
