-- What is cited of room for bodies.
use Rattle.std.proofs.Common.{◌≡◌, ℕ, ◌+◌, ◌<◌, ◌≤◌, Bool, true, false, List, [], ◌∷◌, ◌++◌, Option}
use Rattle.std.proofs.Common.{Some, option_to_list, nat_le, if◌then◌else◌, ap, subst, ◌∙◌, arith}
use Rattle.std.proofs.lemmas.Bool.Decides.{nat_tests}
use Rattle.std.specs.declared.vec.Vec.{Vec}
use Rattle.span_exporter.specs.Buffers.{IsBuffer, AreBuffers}

-- A body for which there is room is short enough, and not all room is used up.
pub has_room : (len size attempts : ℕ) → 0 < (if nat_le len size then attempts else 0)
    → (0 < attempts) × (len ≤ size)
has_room len size attempts h = (grind (arith, nat_tests), grind (arith, nat_tests))

-- After an attempt there is room for at most one body less, of any size.
pub one_attempt : (fits : Bool) (attempts left : ℕ) → left + 1 ≡ attempts
    → (if fits then attempts else 0) ≤ (if fits then left else 0) + 1
one_attempt true attempts left h = omega arith
one_attempt false attempts left h = omega arith

-- Buffers with room, and one more with room after them, all have room.
pub one_more : {A : Type 0} (least : ℕ) (buffers : List (Vec ℕ A)) (buffer : Vec ℕ A)
    → AreBuffers least buffers → IsBuffer least buffer → AreBuffers least (buffers ++ buffer ∷ [])
one_more least [] buffer all h = (h, tt)
one_more least (x ∷ buffers) buffer all h = (all.0, one_more least buffers buffer all.1 h)

-- Buffers with room, of which the last is taken away, all still have room, and so has the last.
pub one_fewer : {A : Type 0} (least : ℕ) (buffers : List (Vec ℕ A)) (buffer : Vec ℕ A)
    → AreBuffers least (buffers ++ buffer ∷ []) → AreBuffers least buffers × IsBuffer least buffer
one_fewer least [] buffer all = (tt, all.0)
one_fewer least (x ∷ buffers) buffer all =
    let rest = one_fewer least buffers buffer all.1 in ((all.0, rest.0), rest.1)

-- Buffers with room, of which the last is popped, all still have room, and so has the popped one.
pub popped : {A : Type 0} (least : ℕ) (buffers left : List (Vec ℕ A)) (last : Option (Vec ℕ A))
    (buffer : Vec ℕ A) → buffers ≡ left ++ option_to_list last → last ≡ Some buffer
    → AreBuffers least buffers → AreBuffers least left × IsBuffer least buffer
popped least buffers left last buffer is there all =
    one_fewer least left buffer
    (subst (AreBuffers least) (is ∙ ap (λ o. left ++ option_to_list o) there) all)
