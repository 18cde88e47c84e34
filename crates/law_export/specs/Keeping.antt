-- What is kept where a limit is set. (Common, Attribute Limits; Trace SDK, Span Limits)
use Rattle.std.specs.Prelude.{◌≡◌, ◌≢◌, ◌⊎◌, ℕ, ◌+◌, ◌-◌, ◌^◌, ◌<◌, ◌≤◌, min, List, [], ◌∷◌, ◌++◌}
use Rattle.std.specs.Prelude.{map, take, filter, count_by, length, Bool, not, Option, None, Some}
use Rattle.std.specs.Prelude.{encode_utf8_all, IsTrue, bytes_eq, All, AllPairs, Contains}
use Rattle.std.specs.List.{list_any, position_or_len}
use Rattle.std.specs.Str.{all_scalars}
use Rattle.model_span.specs.Attributes.{Value, text, bool, int, texts, bools, ints, Attribute}
use Rattle.model_span.specs.Attributes.{Limits, Kept, cut, distinct_of, is_empty, attributes}

-- the list begins with these
abbrev pub BeginsWith : {A : Type 0} → List A → List A → Type 0
BeginsWith {A} xs front = (rest : List A) × (xs ≡ front ++ rest)

-- The first of all these elements are kept, as many as the limit says, in order. The others are
-- counted, up to the greatest number of 32 bits. (Trace SDK, Span Limits; that the first are kept,
-- and the greatest count: profile)
pub record KeepsFirst {A : Type 0} (limit : ℕ) (all : List A) (kept : Kept A) : Type 0 where
  pub front : BeginsWith all kept.items
  pub size : length kept.items ≡ min limit (length all)
  pub others : kept.dropped ≡ min (length all - limit) (2 ^ 32 - 1)
  pub sum : length all - limit < 2 ^ 32 → length kept.items + kept.dropped ≡ length all

-- ---- attributes

abbrev pub keys_of : List Attribute → List (List ℕ)
keys_of pairs = map (λ p. p.key) pairs

-- the keys that are kept of the pairs
abbrev pub kept_keys_of : Limits → List Attribute → List (List ℕ)
kept_keys_of limits pairs = keys_of (attributes limits pairs).items

-- how many pairs come before the first one with the key
abbrev pub first_use : List ℕ → List Attribute → ℕ
first_use k pairs = position_or_len (λ p. bytes_eq k p.key) pairs

-- whether the pair has a key
abbrev pub is_named : Attribute → Bool
is_named p = not (is_empty p.key)

-- whether the pair's key is one of these
abbrev pub is_among : List (List ℕ) → Attribute → Bool
is_among keys p = list_any (λ k. bytes_eq p.key k) keys

-- ---- which keys are kept

-- The first of the distinct keys that aren't empty, as many as the limit says. (Common, Attribute
-- Limits; that the first are kept, and that an empty key is ignored: profile)
abbrev pub FirstKeysAreKept : Type 0
FirstKeysAreKept = (limits : Limits) (pairs : List Attribute) →
    kept_keys_of limits pairs ≡ take limits.count
    (distinct_of bytes_eq (filter (λ k. not (is_empty k)) (keys_of pairs)))

-- (Common, Attribute Limits)
abbrev pub AtMostTheLimitIsKept : Type 0
AtMostTheLimitIsKept =
    (limits : Limits) (pairs : List Attribute)
    → length (attributes limits pairs).items ≤ limits.count

-- (Common, Attribute)
abbrev pub NoKeyIsEmpty : Type 0
NoKeyIsEmpty =
    (limits : Limits) (pairs : List Attribute) → All (λ k. k ≢ []) (kept_keys_of limits pairs)

-- (Common, Attribute Collections)
abbrev pub NoKeyIsTwice : Type 0
NoKeyIsTwice =
    (limits : Limits) (pairs : List Attribute) → AllPairs (λ k l. k ≢ l) (kept_keys_of limits pairs)

-- Each key that is kept was set.
abbrev pub KeptKeysAreSet : Type 0
KeptKeysAreSet =
    (limits : Limits) (pairs : List Attribute)
    → All (Contains (keys_of pairs)) (kept_keys_of limits pairs)

-- A key keeps the place of its first use. (profile)
abbrev pub KeysAreInOrderOfFirstUse : Type 0
KeysAreInOrderOfFirstUse =
    (limits : Limits) (pairs : List Attribute)
    → AllPairs (λ k l. first_use k pairs < first_use l pairs) (kept_keys_of limits pairs)

-- A key that is set is kept, unless as many keys as the limit says were first used before it.
-- (Common, Attribute Limits)
abbrev pub OnlyLaterKeysAreLeftOut : Type 0
OnlyLaterKeysAreLeftOut =
    (limits : Limits) (pairs : List Attribute) (k : List ℕ) → k ≢ [] → Contains (keys_of pairs) k →
    Contains (kept_keys_of limits pairs) k
    ⊎ ((length (kept_keys_of limits pairs) ≡ limits.count)
    × All (λ l. first_use l pairs < first_use k pairs) (kept_keys_of limits pairs))

-- Pairs that are set later remove no key and move none. (Common, Attribute Limits)
abbrev pub MorePairsKeepTheKeys : Type 0
MorePairsKeepTheKeys =
    (limits : Limits) (pairs more : List Attribute)
    → BeginsWith (kept_keys_of limits (pairs ++ more)) (kept_keys_of limits pairs)

-- ---- which values are kept

-- Of a key that is kept the last pair counts, its texts cut to the limit. (Trace API, Set
-- Attributes; Common, Attribute Limits)
abbrev pub LastPairCounts : Type 0
LastPairCounts =
    (limits : Limits) (front back : List Attribute) (p : Attribute)
    → Contains (kept_keys_of limits (front ++ p ∷ back)) p.key → All (λ q. q.key ≢ p.key) back →
    Contains (attributes limits (front ++ p ∷ back)).items
    (record { key = p.key; value = cut limits.length p.value })

-- ---- how texts are cut

-- A text has its first characters, as many as the limit says. A character is a Unicode scalar
-- value. (Common, Attribute Limits; what a character is: profile)
abbrev pub TextIsCut : Type 0
TextIsCut =
    (n : ℕ) (cs : List ℕ) → IsTrue (all_scalars cs)
    → cut (Some n) (text (encode_utf8_all cs)) ≡ text (encode_utf8_all (take n cs))

-- Each text of an array has its first characters, as many as the limit says. (Common, Attribute
-- Limits)
abbrev pub EachTextIsCut : Type 0
EachTextIsCut =
    (n : ℕ) (all : List (List ℕ)) → All (λ cs. IsTrue (all_scalars cs)) all
    → cut (Some n) (texts (map encode_utf8_all all)) ≡ texts
    (map (λ cs. encode_utf8_all (take n cs)) all)

-- the value is no text and no list of texts
abbrev pub HasNoText : Value → Type 0
HasNoText (text t) = ⊥
HasNoText (bool b) = Unit {0}
HasNoText (int i) = Unit {0}
HasNoText (texts ts) = ⊥
HasNoText (bools bs) = Unit {0}
HasNoText (ints is) = Unit {0}

-- (Common, Attribute Limits)
abbrev pub OtherValuesStay : Type 0
OtherValuesStay = (limit : Option ℕ) (v : Value) → HasNoText v → cut limit v ≡ v

-- Without a limit nothing is cut. (Common, Attribute Limits)
abbrev pub NoLimitCutsNothing : Type 0
NoLimitCutsNothing = (v : Value) → cut None v ≡ v

-- ---- how many are dropped

-- The pairs with a key are those whose key is kept, and others; these are dropped, and counted up
-- to the greatest number of 32 bits. (Common, Attribute Limits; that each pair is counted, and the
-- greatest count: profile)
abbrev pub OthersAreDropped : Type 0
OthersAreDropped = (limits : Limits) (pairs : List Attribute) →
    (others : ℕ)
    × (count_by (is_among (kept_keys_of limits pairs)) pairs + others ≡ count_by is_named pairs)
    × ((attributes limits pairs).dropped ≡ min others (2 ^ 32 - 1))

-- Below that number, the pairs whose key is kept and the dropped ones are all that have a key.
abbrev pub KeptAndDroppedAddUp : Type 0
KeptAndDroppedAddUp =
    (limits : Limits) (pairs : List Attribute) → count_by is_named pairs < 2 ^ 32 →
    count_by (is_among (kept_keys_of limits pairs)) pairs +
    (attributes limits pairs).dropped ≡ count_by is_named pairs
