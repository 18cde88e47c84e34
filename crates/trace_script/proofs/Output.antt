-- What is known of an output while a line is written to it.
use Rattle.std.proofs.Common.{◌≡◌, ◌≤◌, ◌+◌, ℕ, List, take, drop, length, take_all, length-drop}
use Rattle.std.proofs.Common.{◌-◌, arith, Option}
use Rattle.std.proofs.lemmas.List.{take_rest}
use Rattle.std.proofs.Math.Seq.{take-add}
use Rattle.std.specs.Io.KnownBytes.{Appends, Keeps}
use Rattle.std.proofs.KnownBytes.{Appends-trans, Appends-kept}
use Rattle.trace_script.specs.Printed.{AppendsStart}

-- An output that gained the first bytes of a text gained a start of it.
pub begun : (old new : Option (List ℕ)) (text : List ℕ) (n : ℕ) → Appends old new (take n text)
    → AppendsStart old new text
begun old new text n h = record { count = n; gained = h }

-- A write takes no more bytes than are left of the text.
pub more-written : (text : List ℕ) (n m : ℕ) → n ≤ length text
    → m ≤ length (take (length text - n) (drop n text)) → n + m ≤ length text
more-written text n m h k =
    let left : m ≤ length (drop n text) = rw (take_rest text n) at k in
    omega (arith, h, left, length-drop n text)

-- After one more write, the output gained the bytes of both writes.
pub written-more : (old now new : Option (List ℕ)) (text : List ℕ) (n m : ℕ)
    → Appends old now (take n text)
    → Appends now new (take m (take (length text - n) (drop n text)))
    → Appends old new (take (n + m) text)
written-more old now new text n m h k =
    let taken : Appends now new (take m (drop n text)) = rw (take_rest text n) at k in
    rw (take-add n m text) (Appends-trans old now new (take n text) (take m (drop n text)) h taken)

-- An output that stays as it is, after a failed write or a flush, gained a start of the text.
pub begun-kept : (old now new : Option (List ℕ)) (text : List ℕ) (n : ℕ)
    → Appends old now (take n text) → Keeps now new → AppendsStart old new text
begun-kept old now new text n h k =
    begun old new text n (Appends-kept old now new (take n text) h k)

-- A text of which all bytes are written and flushed is written.
pub written-all : (old now new : Option (List ℕ)) (text : List ℕ) (n : ℕ) → n ≡ length text
    → Appends old now (take n text) → Keeps now new → Appends old new text
written-all old now new text n e h k =
    let all : take n text ≡ text = take_all n text (omega (arith, e)) in
    let gained : Appends old now text = rw all at h in
    Appends-kept old now new text gained k
