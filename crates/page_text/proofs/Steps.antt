-- A place more.
use Rattle.std.proofs.Common.{◌≡◌, sym, ap, subst, ◌∙◌, ℕ, suc, ◌+◌, ◌-◌, ◌*◌, ◌/◌, ◌%◌, ◌^◌, ◌<◌}
use Rattle.std.proofs.Common.{◌≤◌, nat_lt, true, false, Option, Some, None, Result, OnOk, List}
use Rattle.std.proofs.Common.{◌++◌, append_assoc, append-nil, arith}
use Rattle.std.specs.Prelude.{decimal}
use Rattle.std.proofs.lemmas.Bool.{cond-true, cond-false, lt-ltb, le-ltb}
use Rattle.page_text.specs.declared.decimal.Decimal.{Decimal}
use Rattle.page_text.specs.Doubles.{decimal_from, digits_of, divided_text, is_near, nearest}
use Rattle.page_text.specs.Doubles.{shortest, shortest_text, small_text}

one_left : (n i : ℕ) → i < n → n - i ≡ suc (n - (i + 1))
one_left n i h = omega arith

-- a decimal that is found
abbrev pub decimal_of : ℕ → ℕ → ℕ → Option Decimal
decimal_of ten places number = Some (record { number = number; ten = ten; places = places })

-- A search that is at a near decimal finds it.
pub near_here : (n i m two ten places : ℕ) → i < n → is_near m two ten ≡ true
    → Some (record { number = nearest m two ten; ten = ten; places = places })
    ≡ decimal_from (n - i) m two ten places
unfolding decimal_from
near_here n i m two ten places within h =
    sym (ap (λ k. decimal_from k m two ten places) (one_left n i within)
    ∙ cond-true (is_near m two ten) _ _ h)

-- A search that is at a decimal that isn't near goes on with one more place.
pub near_later : (n i m two ten places : ℕ) → i < n → is_near m two ten ≡ false
    → decimal_from (n - i) m two ten places
    ≡ decimal_from (n - (i + 1)) m two (ten * 10) (places + 1)
unfolding decimal_from
near_later n i m two ten places within h =
    ap (λ k. decimal_from k m two ten places) (one_left n i within)
    ∙ cond-false (is_near m two ten) _ _ h

-- The digits of a number are the first one and those of the rest.
pub digit_more : (n i ten rest : ℕ) → i < n
    → digits_of (n - i) ten rest
    ≡ decimal (rest / (ten / 10)) ++ digits_of (n - (i + 1)) (ten / 10) (rest % (ten / 10))
unfolding digits_of
digit_more n i ten rest within = ap (λ k. digits_of k ten rest) (one_left n i within)

-- After one more digit is written, the digits of the rest complete the same text.
pub digits_more : (n i ten rest : ℕ) (start old new : List ℕ) → i < n
    → old ++ digits_of (n - i) ten rest ≡ start → new ≡ old ++ decimal (rest / (ten / 10))
    → new ++ digits_of (n - (i + 1)) (ten / 10) (rest % (ten / 10)) ≡ start
digits_more n i ten rest start old new within before more =
    let others = digits_of (n - (i + 1)) (ten / 10) (rest % (ten / 10)) in
    ap (λ l. l ++ others) more ∙ append_assoc old (decimal (rest / (ten / 10))) others
    ∙ ap (λ l. old ++ l) (sym (digit_more n i ten rest within)) ∙ before

-- An output that gained a text gained any text that is equal to it.
pub same_text : {T E : Type 0} (r : Result T E) (x y old new : List ℕ) → x ≡ y
    → OnOk r (new ≡ old ++ x) → OnOk r (new ≡ old ++ y)
same_text r x y old new is written = subst (λ z. OnOk r (new ≡ old ++ z)) is written

-- A number with more than 120 binary places is written as a fraction.
pub too_small : (m p : ℕ) → 120 < p → divided_text m p ≡ small_text m p
unfolding small_text
too_small m p h =
    sym (cond-true (nat_lt 120 p) (divided_text m p) (shortest_text m p (shortest m (2 ^ p)))
    (lt-ltb 120 p h))

-- A number with at most 120 binary places is written as its shortest decimal, or as a fraction
-- where it has none.
pub small_by : (m p two : ℕ) (d found : Option Decimal) → p ≤ 120 → two ≡ 2 ^ p
    → found ≡ shortest m two → found ≡ d → shortest_text m p d ≡ small_text m p
unfolding small_text
small_by m p two d found h power is which =
    ap (shortest_text m p) (sym which ∙ is ∙ ap (shortest m) power)
    ∙ sym (cond-false (nat_lt 120 p) (divided_text m p) (shortest_text m p (shortest m (2 ^ p)))
    (le-ltb 120 p h))

none_left : (n i : ℕ) → n ≤ i → n - i ≡ 0
none_left n i h = omega arith

-- A search that has no more places to try finds no decimal.
pub near_none : (n i m two ten places : ℕ) → n ≤ i → None ≡ decimal_from (n - i) m two ten places
unfolding decimal_from
near_none n i m two ten places h = sym (ap (λ k. decimal_from k m two ten places) (none_left n i h))

-- Once the last digit is written, the text is complete.
pub digits_all : (n i ten rest : ℕ) (start old : List ℕ) → n ≤ i
    → old ++ digits_of (n - i) ten rest ≡ start → old ≡ start
unfolding digits_of
digits_all n i ten rest start old h all =
    sym (append-nil old) ∙ sym (ap (λ k. old ++ digits_of k ten rest) (none_left n i h)) ∙ all
