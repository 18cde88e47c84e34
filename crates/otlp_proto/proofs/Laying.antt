-- Bytes that are laid after what a sink has taken: none, some after others, and those of a message
-- whose length is known.
use Rattle.std.proofs.Common.{◌≡◌, sym, ap, ◌∙◌, subst, ℕ, ◌+◌, ◌-◌, ◌*◌, ◌≤◌, ◌<◌, ◌^◌, List, []}
use Rattle.std.proofs.Common.{◌++◌, append_assoc, append-nil, take, length, min, inl, inr, arith}
use Rattle.std.proofs.lemmas.List.{length-append, length-drop}
use Rattle.std.proofs.lemmas.Bool.{cases_lt}
use Rattle.model_message.specs.Wire.{Field, varint}
use Rattle.model_message.specs.Messages.{wire_type}
use Rattle.model_message.specs.Canon.{shortest, payload_bytes, field_bytes, bytes_field}
use Rattle.otlp_wire.specs.Writing.{PutsAt}
use Rattle.otlp_proto.specs.Encode.{Cursor, counted, filled, saturated, Lays}

-- No bytes are laid where the sink stays as it was.
pub lays-none : (c : Cursor) → Lays [] c c
lays-none (counted n) = ap saturated (omega arith)
lays-none (filled front room) =
    λ l small. ap (λ bs. filled bs room) (sym (append-nil front))
    ∙ ap (λ x. filled (front ++ []) x) (omega arith)

sums-saturate : (n a b m k : ℕ) → min m (2 ^ 64 - 1) ≡ min (n + a) (2 ^ 64 - 1)
    → min k (2 ^ 64 - 1) ≡ min (m + b) (2 ^ 64 - 1)
    → min k (2 ^ 64 - 1) ≡ min (n + (a + b)) (2 ^ 64 - 1)
sums-saturate n a b m k p q = omega (arith, p, q)

-- Bytes laid after others are laid together with them.
pub lays-both : (a b : List ℕ) (c d e : Cursor) → Lays a c d → Lays b d e → Lays (a ++ b) c e
lays-both a b (counted n) (counted m) (counted k) p q =
    sums-saturate n (length a) (length b) m k p q
    ∙ ap (λ x. min (n + x) (2 ^ 64 - 1)) (sym (length-append a b))
lays-both a b (counted n) (counted m) (filled front room) p q = absurd q
lays-both a b (counted n) (filled front room) e p q = absurd p
lays-both a b (filled front room) d e p q = λ l small.
    let long = length-append a b in
    let fits : length a ≤ room = omega (arith, l, long) in
    let appended : Lays b (filled (front ++ a) (room - length a)) e =
    subst (λ x. Lays b x e) (p fits small) q in
    appended (omega (arith, l, long)) (omega (arith, small))
    ∙ ap (λ bs. filled bs (room - length a - length b)) (append_assoc front a b)
    ∙ ap (λ x. filled (front ++ (a ++ b)) x) (omega (arith, long))

-- Bytes equal to those laid are laid too.
pub lays-as : {a b : List ℕ} (c d : Cursor) → a ≡ b → Lays a c d → Lays b c d
lays-as c d e h = subst (λ bs. Lays bs c d) e h

-- A tag and the payload after it lay the field.
pub tagged : (f : Field) (c d e : Cursor) → Lays (shortest (f.number * 8 + wire_type f.payload)) c d
    → Lays (payload_bytes f.payload) d e → Lays (field_bytes f) c e
unfolding field_bytes
tagged f c d e p q =
    lays-both (shortest (f.number * 8 + wire_type f.payload)) (payload_bytes f.payload) c d e p q

-- A count of bytes after their length is right even where the count is saturated.
counted-sized : (n x y size : ℕ) (bs : List ℕ) → size ≡ min (length bs) (2 ^ 64 - 1)
    → (length bs < 2 ^ 64 → x ≡ y) → (k : ℕ)
    → min k (2 ^ 64 - 1) ≡ min (n + (x + length bs)) (2 ^ 64 - 1) →
    min k (2 ^ 64 - 1) ≡ min (n + (y + length bs)) (2 ^ 64 - 1)
counted-sized n x y size bs s same k e = elim (cases_lt (length bs) (2 ^ 64)) [
  | inl l ↦ omega (arith, e, same l)
  | inr l ↦ omega (arith, e, l)
]

same-size : (len : ℕ) (bs : List ℕ) → len ≡ saturated (length bs) → length bs < 2 ^ 64
    → len ≡ length bs
same-size len bs s l = omega (arith, s, l)

-- Bytes laid after their saturated length are laid after their length.
pub sized : (len : ℕ) (bs : List ℕ) (c d : Cursor) → len ≡ saturated (length bs)
    → Lays (shortest len ++ bs) c d → Lays (shortest (length bs) ++ bs) c d
sized len bs (counted n) (counted k) s h =
    let short : length bs < 2 ^ 64 → length (shortest len) ≡ length (shortest (length bs)) =
    λ l. ap (λ x. length (shortest x)) (same-size len bs s l) in
    let e = h ∙ ap (λ x. min (n + x) (2 ^ 64 - 1)) (length-append (shortest len) bs) in
    counted-sized n (length (shortest len)) (length (shortest (length bs))) len bs s short k e
    ∙ ap (λ x. min (n + x) (2 ^ 64 - 1)) (sym (length-append (shortest (length bs)) bs))
sized len bs (counted n) (filled front room) s h = absurd h
sized len bs (filled front room) d s h = λ l small.
    let long = length-append (shortest (length bs)) bs in
    let same = same-size len bs s (omega (arith, l, small, long)) in
    let known : Lays (shortest (length bs) ++ bs) (filled front room) d =
    subst (λ x. Lays (shortest x ++ bs) (filled front room) d) same h in
    known l small

-- A tag, a length and a message of that length lay the message as a field.
pub sized-field : (n len : ℕ) (bs : List ℕ) (c d e f : Cursor) → len ≡ saturated (length bs)
    → Lays (shortest (n * 8 + 2)) c d → Lays (payload_bytes (varint len)) d e → Lays bs e f
    → Lays (field_bytes (bytes_field n bs)) c f
unfolding payload_bytes
sized-field n len bs c d e f s p q r =
    tagged (bytes_field n bs) c d f p (sized len bs d f s (lays-both (shortest len) bs d e f q r))

-- ---- a count

-- A count that saturates is right after a number of bytes more.
pub count-saturates : (n m len k : ℕ) → m ≡ min (n + len) (2 ^ 64 - 1) → len ≡ k
    → saturated m ≡ saturated (n + k)
count-saturates n m len k e l = omega (arith, e, l)

-- A count that saturates is right after a saturated number of bytes more.
pub count-skips : (n m len k : ℕ) → m ≡ min (n + len) (2 ^ 64 - 1) → len ≡ saturated k
    → saturated m ≡ saturated (n + k)
count-skips n m len k e l = omega (arith, e, l)

-- ---- a buffer

-- A buffer without room for the bytes may stay as it was.
pub no-room : (bs front : List ℕ) (room : ℕ) → room < length bs
    → Lays bs (filled front room) (filled front room)
no-room bs front room l = λ fits small. absurd (omega (arith, l, fits))

-- Bytes that are put at the end of what a buffer holds are laid.
pub put-at : (bs old new : List ℕ) (at next : ℕ) → PutsAt bs at old new next
    → Lays bs (filled (take at old) (length old - at)) (filled (take next new) (length new - next))
put-at bs old new at next p = λ fits small.
    let same : length new - next ≡ length old - next =
    sym (length-drop next new) ∙ ap length p.appended ∙ length-drop next old in
    ap (λ front. filled front (length new - next)) p.front
    ∙ ap (filled (take at old ++ bs)) (omega (arith, same, p.place))

-- A count of the bytes that begins at 0 is their length, saturated.
pub counted-len : (bs : List ℕ) (n m len : ℕ) → n ≡ 0 → saturated m ≡ saturated (n + length bs)
    → len ≡ m → len < 2 ^ 64 → len ≡ saturated (length bs)
counted-len bs n m len z p e l = omega (arith, z, p, e, l)
