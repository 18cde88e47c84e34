-- Bytes that are given from the front of a buffer.
use Rattle.std.proofs.Common.{◌≡◌, ◌<◌, ℕ, zero, suc, [], ◌∷◌, List, take, drop, length, arith, sym}
use Rattle.std.proofs.Common.{subst, min, take-append-drop, refl}
use Rattle.std.proofs.KnownBytes.{prepend_known-read}
use Rattle.std.specs.Prelude.{Option, Some, None}
use Rattle.std.specs.Io.KnownBytes.{Consumes, IsAtEnd, Keeps, prepend_known}

-- where no byte is given to some room, none was in the buffer
none_left : (unread : List ℕ) (room n : ℕ) → n ≡ min room (length unread) → n ≡ 0 → 0 < room
    → unread ≡ []
none_left [] room n is none some = refl
none_left (b ∷ unread) room n is none some = absurd (omega (arith, is, none, some))

-- A read that gives a front of the unread bytes gives a front of all that was left.
pub given_front : (old left : Option (List ℕ)) (unread before after : List ℕ) (n : ℕ)
    → Keeps old (prepend_known unread left) → (unread ≡ [] → IsAtEnd left)
    → n ≡ min (length before) (length unread) → length after ≡ length before
    → take n after ≡ take n unread
    → Consumes old (prepend_known (drop n unread) left) (take n after)
    × (n ≡ 0 → 0 < length after → IsAtEnd (prepend_known (drop n unread) left))
given_front old left unread before after n kept end count room bytes =
    let none : (n ≡ 0) × (0 < length after) → (drop n unread ≡ []) × IsAtEnd left = λ p.
    let empty = none_left unread (length before) n count p.0 (subst (λ k. 0 < k) room p.1) in
    (nothing n unread empty, end empty) in
    let read =
    prepend_known-read old left unread (drop n unread) (take n unread)
    ((n ≡ 0) × (0 < length after)) kept (sym (take-append-drop n unread)) none in (
      subst (λ bs. Consumes old (prepend_known (drop n unread) left) bs) (sym bytes) read.0,
      λ a b. read.1 (a, b),
    )
  where
    nothing : (n : ℕ) (xs : List ℕ) → xs ≡ [] → drop n xs ≡ []
    nothing n xs e = subst (λ l. drop n l ≡ []) (sym e) (of_none n)
      where
        of_none : (n : ℕ) → drop {A = ℕ} n [] ≡ []
        of_none zero = refl
        of_none (suc n) = refl

-- Where the buffer is empty and no byte is left below, none is left.
pub at_end : (unread : List ℕ) (left : Option (List ℕ)) → unread ≡ [] → IsAtEnd left
    → IsAtEnd (prepend_known unread left)
at_end unread None empty end = tt
at_end unread (Some bytes) empty end = rw (empty, end) refl
