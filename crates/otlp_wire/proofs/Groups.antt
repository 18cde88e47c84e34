-- The shortest varint of a number, a byte at a time, and that no spelling is shorter.
use Rattle.std.proofs.Common.{◌≡◌, refl, ℕ, zero, suc, ◌<◌, ◌≤◌, ◌+◌, ◌/◌, ◌%◌, ◌^◌, List, [], ◌∷◌}
use Rattle.std.proofs.Common.{length, Bool, true, false, cond, nat_lt, arith, pow-suc}
use Rattle.std.proofs.lemmas.Bool.{lt-ltb, le-ltb}
use Rattle.std.proofs.lemmas.Nat.{div_below, mod_below}
use Rattle.std.proofs.Math.Nat.{mod-le}
use Rattle.model_message.specs.Canon.{septets_of, shortest}
use Rattle.model_message.specs.Spelling.{number_of_septets}
use Rattle.model_message.proofs.Varints.{shortest-is}
use Rattle.otlp_wire.specs.Writing.{IsLeastSize, IsReachedSize}

-- A number below 128 takes one group, which is the number.
pub low_groups : (room n : ℕ) → n < 128 → septets_of room n ≡ n ∷ []
unfolding septets_of
low_groups zero n l = refl
low_groups (suc room) n l = rw (lt-ltb n 128 l) refl

-- The groups of a number that takes more than one are its low seven bits and then those of the
-- rest.
pub record MoreGroups (room n : ℕ) : Type 0 where
  pub less : ℕ
  pub one_less : room ≡ suc less
  pub in_range : n / 128 < 128 ^ suc less
  pub first : septets_of room n ≡ (n % 128 + 128) ∷ septets_of less (n / 128)

-- A number of at least 128 takes more than one group.
pub high_groups : (room n : ℕ) → 128 ≤ n → n < 128 ^ suc room → MoreGroups room n
unfolding septets_of
high_groups zero n l u = absurd (omega (arith, u))
high_groups (suc room) n l u = record {
  less = room;
  one_less = refl;
  in_range = div_below n 128 (128 ^ suc room) (omega arith) (rw pow-suc at u);
  first = rw (le-ltb n 128 l) refl;
}

-- ---- no spelling is shorter

-- A number of groups of seven bits is below 128 to the power of how many there are.
in_groups-below : (bs : List ℕ) → number_of_septets bs < 128 ^ length bs
in_groups-below [] = omega arith
in_groups-below (b ∷ bs) =
    let ih = in_groups-below bs in
    let low = mod_below b 128 (omega arith) in
    rw pow-suc (omega (arith, ih, low))

-- A number below a power of 128 takes no more groups than that: first one group, or one and those
-- of the rest.
one-more : (t : Bool) (n : ℕ) (rest : List ℕ) (size : ℕ) → length rest ≤ suc size
    → length (cond t (n ∷ []) ((n % 128 + 128) ∷ rest)) ≤ suc (suc size)
one-more true n rest size l = omega arith
one-more false n rest size l = omega (arith, l)

groups_of-length : (room n size : ℕ) → n < 128 ^ suc size → length (septets_of room n) ≤ suc size
unfolding septets_of
groups_of-length zero n size l = omega arith
groups_of-length (suc room) n zero l = rw (low_groups (suc room) n (omega (arith, l))) (omega arith)
groups_of-length (suc room) n (suc size) l =
    one-more (nat_lt n 128) n (septets_of room (n / 128)) size
    (groups_of-length room (n / 128) size
    (div_below n 128 (128 ^ suc size) (omega arith) (rw pow-suc at l)))

-- The shortest varint has the least size that a varint of the number can have.
pub shortest-least : (n : ℕ) → IsLeastSize n (length (shortest n))
unfolding shortest
shortest-least n [] v = absurd v.ended
shortest-least n (b ∷ bs) v =
    groups_of-length 9 n (length bs)
    (omega (arith, v.value, mod-le (number_of_septets (b ∷ bs)) (2 ^ 64), in_groups-below (b ∷ bs)))

-- The size of the shortest varint of a number of 64 bits is reached by a varint of that number.
pub shortest-reached : (n : ℕ) → n < 2 ^ 64 → IsReachedSize n (length (shortest n))
shortest-reached n l = record { spelling = shortest n; spells = shortest-is n l; exact = refl }
