-- Reading and writing a varint.
use Rattle.std.proofs.Common.{◌≡◌, refl, sym, ap, ◌∙◌, ℕ, List, [], ◌∷◌, ◌++◌, length, Result, Ok}
use Rattle.std.proofs.Common.{Err, arith, nat_lt, cond, Bool, true, false, ◌<◌, ◌≤◌, ◌+◌, ◌*◌, ◌%◌}
use Rattle.std.proofs.Common.{◌/◌, ◌^◌, suc, zero, mod-eq_of_lt, pow-suc}
use Rattle.std.proofs.lemmas.Bool.{ltb-true, ltb-false, lt-ltb, le-ltb}
use Rattle.std.proofs.lemmas.Nat.{div-add-mod', div_below, mod-mul-add, mod_below}
use Rattle.model_message.specs.Reading.{Fault, truncated, long_varint}
use Rattle.model_message.specs.Wire.{give, after, septets, number}
use Rattle.model_message.specs.Canon.{septets_of, shortest}
use Rattle.model_message.specs.Spelling.{IsEnded, number_of_septets, IsVarint}
use Rattle.model_message.proofs.Fronts.{Takes, err-ok, ok-ok, takes-as, takes-map}

-- the groups of a number, at most `room` of them
pub record InGroups (room : ℕ) (bs : List ℕ) (n : ℕ) : Type 0 where
  pub ended : IsEnded bs
  pub size : length bs ≤ room
  pub value : n ≡ number_of_septets bs

more-ended : (b : ℕ) (bs : List ℕ) → 128 ≤ b → IsEnded bs → IsEnded (b ∷ bs)
more-ended b [] l h = absurd h
more-ended b (c ∷ bs) l h = (l, h)

-- The first byte is the last group, or more groups come after it.
step : (room : ℕ)
    → ((bs rest : List ℕ) (n : ℕ) → septets room bs ≡ Ok (n, rest)
    → (front : List ℕ) × InGroups room front n × (bs ≡ front ++ rest)) →
    (b : ℕ) (bs rest : List ℕ) (n : ℕ) (t : Bool) → nat_lt b 128 ≡ t
    → (r : Result (ℕ × List ℕ) Fault) → septets room bs ≡ r →
    cond {A = Result (ℕ × List ℕ) Fault} t (Ok (b, bs))
    (after r (λ high. give (b % 128 + 128 * high)))
    ≡ Ok (n, rest) →
    (front : List ℕ) × InGroups (suc room) front n × (b ∷ bs ≡ front ++ rest)
step room ih b bs rest n true e r er h = let same = ok-ok (b, bs) (n, rest) h in (
  b ∷ [],
  record {
    ended = ltb-true b 128 e;
    size = omega arith;
    value = sym (ap (λ s. s.0) same) ∙ sym (mod-eq_of_lt (ltb-true b 128 e)) ∙ omega arith;
  },
  ap (λ s. b ∷ s.1) same,
)
step room ih b bs rest n false e (Err f) er h = absurd (err-ok f (n, rest) h)
step room ih b bs rest n false e (Ok x) er h =
    let s = ih bs x.1 x.0 er in let same = ok-ok (b % 128 + 128 * x.0, x.1) (n, rest) h in (
      b ∷ s.0,
      record {
        ended = more-ended b s.0 (ltb-false b 128 e) s.1.ended;
        size = omega (arith, s.1.size);
        value = sym (ap (λ z. z.0) same) ∙ ap (λ z. b % 128 + 128 * z) s.1.value;
      },
      ap (λ l. b ∷ l) (s.2 ∙ ap (λ z. s.0 ++ z.1) same),
    )

groups-found : (room : ℕ) (bs rest : List ℕ) (n : ℕ) → septets room bs ≡ Ok (n, rest)
    → (front : List ℕ) × InGroups room front n × (bs ≡ front ++ rest)
unfolding septets
groups-found zero bs rest n e = absurd (err-ok long_varint (n, rest) e)
groups-found (suc room) [] rest n e = absurd (err-ok truncated (n, rest) e)
groups-found (suc room) (b ∷ bs) rest n e =
    step room (groups-found room) b bs rest n (nat_lt b 128) refl (septets room bs) refl e

groups-again : (room : ℕ) (bs rest : List ℕ) → IsEnded bs → length bs ≤ room
    → septets room (bs ++ rest) ≡ Ok (number_of_septets bs, rest)
unfolding septets
groups-again room [] rest h l = absurd h
groups-again zero (b ∷ bs) rest h l = absurd (omega (arith, l))
groups-again (suc room) (b ∷ []) rest h l =
    rw (lt-ltb b 128 h) (ap (λ z. Ok (z, rest)) (sym (mod-eq_of_lt h) ∙ omega arith))
groups-again (suc room) (b ∷ c ∷ bs) rest h l =
    rw (le-ltb b 128 h.0, groups-again room (c ∷ bs) rest h.1 (omega (arith, l))) refl

-- Groups of seven bits are read just where they are spelled.
pub takes-groups : (room : ℕ) → Takes (septets room) (InGroups room)
takes-groups room = record {
  found = groups-found room;
  again =
      λ bs rest n s.
      groups-again room bs rest s.ended s.size ∙ ap (λ z. Ok (z, rest)) (sym s.value);
}

-- A varint is read just where one is spelled.
pub takes-number : Takes number IsVarint
unfolding number
takes-number =
    takes-as _ _ _ (takes-map (λ n. n % 2 ^ 64) (septets 10) (InGroups 10) (takes-groups 10))
    (λ bs n. (
      λ s. record {
        ended = s.1.ended;
        size = s.1.size;
        value = s.2 ∙ ap (λ z. z % 2 ^ 64) s.1.value;
      },
      λ v. (number_of_septets bs, record { ended = v.ended; size = v.size; value = refl }, v.value),
    ))

-- ---- the shortest groups

one-group : (room n : ℕ) → n < 128 → InGroups (suc room) (n ∷ []) n
one-group room n l =
    record { ended = l; size = omega arith; value = sym (mod-eq_of_lt l) ∙ omega arith }

low-group : (k : ℕ) → k < 128 → (k + 128) % 128 ≡ k
low-group k l =
    let turned : k + 128 ≡ 1 * 128 + k = omega arith in
    ap (λ z. z % 128) turned ∙ mod-mul-add 1 128 k l

groups_of-step : (room n : ℕ) (rest : List ℕ) (t : Bool) → nat_lt n 128 ≡ t
    → (128 ≤ n → InGroups (suc room) rest (n / 128))
    → InGroups (suc (suc room)) (cond t (n ∷ []) ((n % 128 + 128) ∷ rest)) n
groups_of-step room n rest true e ih = one-group (suc room) n (ltb-true n 128 e)
groups_of-step room n rest false e ih = let s = ih (ltb-false n 128 e) in record {
  ended = more-ended (n % 128 + 128) rest (omega arith) s.ended;
  size = omega (arith, s.size);
  value =
      rw (low-group (n % 128) (mod_below n 128 (omega arith)), ← s.value)
      (omega (arith, div-add-mod' n 128));
}

groups_of-is : (room n : ℕ) → n < 128 ^ suc room → InGroups (suc room) (septets_of room n) n
unfolding septets_of
groups_of-is zero n l = one-group 0 n l
groups_of-is (suc room) n l =
    groups_of-step room n (septets_of room (n / 128)) (nat_lt n 128) refl
    (λ _.
    groups_of-is room (n / 128) (div_below n 128 (128 ^ suc room) (omega arith) (rw pow-suc at l)))

-- The shortest groups spell the number.
pub shortest-is : (n : ℕ) → n < 2 ^ 64 → IsVarint (shortest n) n
unfolding shortest
shortest-is n l =
    let s = groups_of-is 9 n (omega (arith, l)) in
    record {
      ended = s.ended;
      size = s.size;
      value = sym (mod-eq_of_lt l) ∙ ap (λ z. z % 2 ^ 64) s.value;
    }
