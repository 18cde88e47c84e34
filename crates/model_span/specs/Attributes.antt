-- Attributes as a program sets them, and which of them are kept. (Common, Attribute Limits; Trace
-- API, Set Attributes)
use Rattle.std.specs.Prelude.{◌≡◌, ℕ, ℤ, ◌-◌, ◌^◌, min, List, [], ◌∷◌, map, take, filter, count_by}
use Rattle.std.specs.Prelude.{length, Bool, true, false, not, ◌&&◌, ◌++◌, Option}
use Rattle.std.specs.Prelude.{Some, None, bytes_eq, chars, encode_utf8_all}
use Rattle.std.specs.List.{list_any}

-- A value that a program sets; a text is its UTF-8 bytes. (Common, Attribute; without doubles, maps
-- and bytes: profile)
pub data Value : Type 0 where
  text : List ℕ → Value
  bool : Bool → Value
  int : ℤ → Value
  texts : List (List ℕ) → Value
  bools : List Bool → Value
  ints : List ℤ → Value

-- a key, in UTF-8, and its value (Common, Attribute)
pub record Attribute : Type 0 where
  pub key : List ℕ
  pub value : Value

-- how many are kept, and how many characters a text may have, in Unicode scalar values (Common,
-- Attribute Limits)
pub record Limits : Type 0 where
  pub count : ℕ
  pub length : Option ℕ

-- What is kept of what was added, in order, and how many of it are not. (Trace SDK, Span Limits)
pub record Kept (A : Type 0) : Type 0 where
  pub items : List A
  pub dropped : ℕ

-- A count of dropped things stops at the greatest number of 32 bits. (opentelemetry-proto,
-- trace.proto: Span; profile)
abbrev pub capped_count : ℕ → ℕ
capped_count n = min n (2 ^ 32 - 1)

-- the text's first characters, as many as the limit says, or all of it (Common, Attribute Limits)
abbrev pub first_chars : Option ℕ → List ℕ → List ℕ
first_chars None t = t
first_chars (Some n) t = encode_utf8_all (take n (chars t))

-- a value with its text, or each text of its array, cut by itself; others stay (Common, Attribute
-- Limits)
abbrev pub cut : Option ℕ → Value → Value
cut n (text t) = text (first_chars n t)
cut n (bool b) = bool b
cut n (int i) = int i
cut n (texts ts) = texts (map (first_chars n) ts)
cut n (bools bs) = bools bs
cut n (ints is) = ints is

-- the first of each group of equals, in order
abbrev pub distinct_of : {A : Type 0} → (A → A → Bool) → List A → List A
distinct_of same [] = []
distinct_of same (x ∷ xs) = x ∷ filter (λ y. not (same x y)) (distinct_of same xs)

-- whether a key or a text is empty
abbrev pub is_empty : List ℕ → Bool
is_empty [] = true
is_empty (b ∷ bs) = false

-- The keys that are kept: the first distinct ones, in order of first use. (Common, Attribute
-- Limits; that the first are kept, and that an empty key is ignored: profile)
abbrev pub kept_keys : ℕ → List Attribute → List (List ℕ)
kept_keys count pairs =
    take count (distinct_of bytes_eq (filter (λ k. not (is_empty k)) (map (λ p. p.key) pairs)))

-- whether the pair has this key
abbrev pub has_key : List ℕ → Attribute → Bool
has_key k p = bytes_eq p.key k

-- the last one, or the default where there is none
abbrev pub last_or : {A : Type 0} → A → List A → A
last_or d [] = d
last_or d (x ∷ xs) = last_or x xs

-- The value of the last pair with the key. Each key that is kept has one. (Trace API, Set
-- Attributes)
abbrev pub last_value : List Attribute → List ℕ → Value
last_value pairs k = last_or (bool false) (map (λ p. p.value) (filter (has_key k) pairs))

-- whether the pair has a key, and none of these (Common, Attribute Limits; an empty key is not
-- counted: profile)
abbrev pub is_dropped : List (List ℕ) → Attribute → Bool
is_dropped keys p = not (is_empty p.key) && not (list_any (λ k. has_key k p) keys)

-- Of the pairs that were set, in order: each kept key with its last value, its texts cut. Dropped
-- is the number of the pairs whose key is not kept. (Common, Attribute Limits; Trace API, Set
-- Attributes; each pair is counted: profile)
unfoldable pub attributes : Limits → List Attribute → Kept Attribute
attributes limits pairs = let keys = kept_keys limits.count pairs in record {
  items = map (λ k. record { key = k; value = cut limits.length (last_value pairs k) }) keys;
  dropped = capped_count (count_by (is_dropped keys) pairs);
}

-- ---- a list that attributes are set in

-- its limits, and what is kept under them
pub record AttributeList : Type 0 where
  pub limits : Limits
  pub kept : Kept Attribute

-- the list in which these pairs were set
abbrev pub attribute_list : Limits → List Attribute → AttributeList
attribute_list limits pairs = record { limits = limits; kept = attributes limits pairs }

-- One more pair: what was kept of some pairs is now what is kept of them with this one at their
-- end. (Trace API, Set Attributes)
pub record SetsPair (p : Attribute) (old new : AttributeList) : Type 0 where
  pub limits : new.limits ≡ old.limits
  pub value : (pairs : List Attribute) → old.kept ≡ attributes old.limits pairs
      → new.kept ≡ attributes old.limits (pairs ++ p ∷ [])
