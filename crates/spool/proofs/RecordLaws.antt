-- What records are read as, with whatever is after them, and where they are cut.
use Rattle.std.proofs.Common.{◌≡◌, inl, inr, refl, sym, ap, ap₂, ◌∙◌, subst, ℕ, zero, suc, ◌+◌}
use Rattle.std.proofs.Common.{◌-◌}
use Rattle.std.proofs.Common.{◌<◌, ◌≤◌, List, [], ◌∷◌, ◌++◌, length, take, drop, arith, true}
use Rattle.std.proofs.Common.{false}
use Rattle.std.proofs.Common.{length-append, length-drop}
use Rattle.std.proofs.Common.{take-append-drop}
use Rattle.std.proofs.Common.{map, ◌⊎◌}
use Rattle.std.specs.Prelude.{Option, Some, None}
use Rattle.std.proofs.lemmas.Bool.{cases_lt, cases_Bool, and_parts, and_from}
use Rattle.std.proofs.lemmas.Bool.{ltb-true, leb-true}
use Rattle.std.proofs.lemmas.Bool.{eqb-true, lt-ltb, le-leb, eq-eqb, cond-true, cond-false}
use Rattle.std.proofs.lemmas.List.{take-append-le, drop-append-le, take_at, drop_at, length-take-le}
use Rattle.std.proofs.lemmas.List.{take_all, drop_all}
use Rattle.std.proofs.lemmas.Nat.{from_le_bytes-to_le_bytes_4}
use Rattle.std.specs.Int.{w32, to_le_bytes, from_le_bytes}
use Rattle.std.specs.List.{AllByRecursion}
use Rattle.model_deflate.specs.Crc.{crc32}
use Rattle.spool.specs.Records.{record_bytes, IsContent, spelled, length_at, content_at, after_at}
use Rattle.spool.specs.Records.{is_record_at, is_skipped_at, damaged_content}
use Rattle.spool.specs.Records.{contents_by, rest_by, contents, rest}

-- What is known where bytes begin with a record.
pub record Begins (bytes : List ℕ) : Type 0 where
  pub some : 0 < length_at bytes
  pub there : 8 + length_at bytes ≤ length bytes
  pub check : from_le_bytes w32 (take 4 (drop 4 bytes)) ≡ crc32 (content_at bytes)

-- A test of three parts.
pub begins : (bytes : List ℕ) → is_record_at bytes ≡ true → Begins bytes
unfolding is_record_at
begins bytes is =
    let a = and_parts _ _ is in
    let b = and_parts _ _ a.1 in
    record {
      some = ltb-true _ _ a.0;
      there = leb-true _ _ b.0;
      check = eqb-true _ _ b.1;
    }

-- The three parts make the test.
pub begun : (bytes : List ℕ) → Begins bytes → is_record_at bytes ≡ true
unfolding is_record_at
begun bytes b =
    and_from _ _ (lt-ltb _ _ b.some) (and_from _ _ (le-leb _ _ b.there) (eq-eqb _ _ b.check))

-- What is known where bytes begin with a damaged record that is skipped.
pub record Skips (bytes : List ℕ) : Type 0 where
  pub some : 0 < length_at bytes
  pub next : is_record_at (after_at bytes) ≡ true

-- A test of two parts.
pub skips : (bytes : List ℕ) → is_skipped_at bytes ≡ true → Skips bytes
unfolding is_skipped_at
skips bytes is = let a = and_parts _ _ is in record { some = ltb-true _ _ a.0; next = a.1 }

-- The two parts make the test.
pub skipped : (bytes : List ℕ) → Skips bytes → is_skipped_at bytes ≡ true
unfolding is_skipped_at
skipped bytes s = and_from _ _ (lt-ltb _ _ s.some) s.next

-- How many bytes are after a record.
pub length-after : (bytes : List ℕ) → length (after_at bytes) ≡ length bytes - (8 + length_at bytes)
unfolding after_at
length-after bytes = length-drop (8 + length_at bytes) bytes

-- A record that is skipped is there as a whole.
pub skips-there : (bytes : List ℕ) → Skips bytes → 8 + length_at bytes ≤ length bytes
skips-there bytes s =
    let b = begins (after_at bytes) s.next in omega (arith, b.there, length-after bytes)

-- ---- with more bytes after them

-- The length that bytes begin with, with more bytes after them.
pub length-more : (bytes more : List ℕ) → 4 ≤ length bytes
    → length_at (bytes ++ more) ≡ length_at bytes
unfolding length_at
length-more bytes more long = ap (from_le_bytes w32) (take-append-le 4 bytes more long)

-- The content, with more bytes after it.
pub content-more : (bytes more : List ℕ) → 8 + length_at bytes ≤ length bytes
    → content_at (bytes ++ more) ≡ content_at bytes
unfolding content_at
content-more bytes more there =
    let n : length_at (bytes ++ more) ≡ length_at bytes = length-more bytes more (omega arith) in
    ap₂ (λ (k : ℕ) (l : List ℕ). take k l) n (drop-append-le 8 bytes more (omega arith))
    ∙ take-append-le (length_at bytes) (drop 8 bytes) more (omega (arith, length-drop 8 bytes))

-- The bytes after the record, with more after them.
pub after-more : (bytes more : List ℕ) → 8 + length_at bytes ≤ length bytes
    → after_at (bytes ++ more) ≡ after_at bytes ++ more
unfolding after_at
after-more bytes more there =
    let n : length_at (bytes ++ more) ≡ length_at bytes = length-more bytes more (omega arith) in
    ap (λ (k : ℕ). drop (8 + k) (bytes ++ more)) n
    ∙ drop-append-le (8 + length_at bytes) bytes more there

-- Bytes that begin with a record do so with more after them.
pub begins-more : (bytes more : List ℕ) → Begins bytes → Begins (bytes ++ more)
begins-more bytes more b =
    let n : length_at (bytes ++ more) ≡ length_at bytes =
    length-more bytes more (omega (arith, b.there)) in
    let check : take 4 (drop 4 (bytes ++ more)) ≡ take 4 (drop 4 bytes) =
    ap (λ (l : List ℕ). take 4 l) (drop-append-le 4 bytes more (omega (arith, b.there)))
    ∙ take-append-le 4 (drop 4 bytes) more (omega (arith, length-drop 4 bytes, b.there)) in
    record {
      some = omega (arith, n, b.some);
      there = omega (arith, n, b.there, length-append bytes more);
      check =
          ap (from_le_bytes w32) check ∙ b.check ∙ ap crc32 (sym (content-more bytes more b.there));
    }

-- ---- a record that was written

-- How long a record is.
pub length-record : (content : List ℕ) → length (record_bytes content) ≡ 8 + length content
unfolding record_bytes
length-record content =
    omega (
      arith,
      length-append (to_le_bytes w32 (length content)) (to_le_bytes w32 (crc32 content) ++ content),
      length-append (to_le_bytes w32 (crc32 content)) content,
    )

module _ (content : List ℕ) (is : IsContent content) where
  -- The length that a record begins with.
  pub length-written : length_at (record_bytes content) ≡ length content
  unfolding length_at record_bytes
  length-written =
      ap (from_le_bytes w32)
      (take_at (to_le_bytes w32 (length content))
      (to_le_bytes w32 (crc32 content) ++ content) 4 refl)
      ∙ from_le_bytes-to_le_bytes_4 (length content) is.short

  -- Its content.
  pub content-written : content_at (record_bytes content) ≡ content
  unfolding content_at record_bytes
  content-written =
      ap₂ (λ (k : ℕ) (l : List ℕ). take k l) length-written
      (drop_at (to_le_bytes w32 (length content) ++ to_le_bytes w32 (crc32 content)) content 8 refl)
      ∙ take_all (length content) content (omega arith)

  -- Nothing is after it.
  pub after-written : after_at (record_bytes content) ≡ []
  unfolding after_at
  after-written =
      drop_all (8 + length_at (record_bytes content)) (record_bytes content)
      (omega (arith, length-written, length-record content))

  -- Bytes that are a record begin with one.
  pub begins-written : Begins (record_bytes content)
  unfolding record_bytes
  begins-written = record {
    some = omega (arith, length-written, is.some);
    there = omega (arith, length-written, length-record content);
    check =
        ap (λ (l : List ℕ). from_le_bytes w32 (take 4 l))
        (drop_at (to_le_bytes w32 (length content))
        (to_le_bytes w32 (crc32 content) ++ content) 4 refl)
        ∙ (ap (from_le_bytes w32) (take_at (to_le_bytes w32 (crc32 content)) content 4 refl)
        ∙ (from_le_bytes-to_le_bytes_4 (crc32 content) is.check ∙ ap crc32 (sym content-written)));
  }

-- ---- a record that is cut short

-- Bytes without room for a record's length and check begin with no record.
pub none_short : (bytes : List ℕ) → length bytes < 9 → is_record_at bytes ≡ false
none_short bytes few = elim (cases_Bool (is_record_at bytes)) [
  | inl is ↦ let b = begins bytes is in absurd (omega (arith, b.some, b.there))
  | inr is ↦ is
]

-- Nor with one that is skipped.
pub skip_short : (bytes : List ℕ) → length bytes < 9 → is_skipped_at bytes ≡ false
skip_short bytes few = elim (cases_Bool (is_skipped_at bytes)) [
  | inl is ↦
      let s = skips bytes is in
      absurd (omega (arith, s.some, skips-there bytes s))
  | inr is ↦ is
]

-- A part of a record at its front is no record.
pub none_cut : (content : List ℕ) (k : ℕ) → IsContent content → k < 8 + length content
    → is_record_at (take k (record_bytes content)) ≡ false
none_cut content k is few =
    let r = record_bytes content in
    let part = take k r in
    let sized : length part ≡ k = length-take-le k r (omega (arith, length-record content)) in
    elim (cases_Bool (is_record_at part)) [
      | inl it ↦
          let b = begins part it in
          let same : length_at (part ++ drop k r) ≡ length_at part =
          length-more part (drop k r) (omega (arith, b.there)) in
          let whole : length_at r ≡ length_at part =
          ap length_at (sym (take-append-drop k r)) ∙ same in
          absurd (omega (arith, b.there, sized, whole, length-written content is))
      | inr it ↦ it
    ]

-- Nor is it one that is skipped.
pub skip_cut : (content : List ℕ) (k : ℕ) → IsContent content → k < 8 + length content
    → is_skipped_at (take k (record_bytes content)) ≡ false
skip_cut content k is few =
    let r = record_bytes content in
    let part = take k r in
    let sized : length part ≡ k = length-take-le k r (omega (arith, length-record content)) in
    elim (cases_Bool (is_skipped_at part)) [
      | inl it ↦
          let there = skips-there part (skips part it) in
          let same : length_at (part ++ drop k r) ≡ length_at part =
          length-more part (drop k r) (omega (arith, there)) in
          let whole : length_at r ≡ length_at part =
          ap length_at (sym (take-append-drop k r)) ∙ same in
          absurd (omega (arith, there, sized, whole, length-written content is))
      | inr it ↦ it
    ]

-- ---- all records

after-shorter : (bytes : List ℕ) → Begins bytes → length (after_at bytes) < length bytes
unfolding after_at
after-shorter bytes b = omega (arith, length-drop (8 + length_at bytes) bytes, b.there)

skip-shorter : (bytes : List ℕ) → Skips bytes → length (after_at bytes) < length bytes
skip-shorter bytes s = omega (arith, length-after bytes, skips-there bytes s)

-- what is looked for so many times is nothing where no record is there, and none is skipped
none-by : (n : ℕ) (bytes : List ℕ) → is_record_at bytes ≡ false → is_skipped_at bytes ≡ false
    → (contents_by n bytes ≡ []) × (rest_by n bytes ≡ bytes)
unfolding contents_by rest_by
none-by zero bytes is not = (refl, refl)
none-by (suc n) bytes is not = (
  cond-false _ _ _ is ∙ cond-false _ _ [] not,
  cond-false _ (rest_by n (after_at bytes)) _ is ∙ cond-false _ _ bytes not,
)

-- it doesn't matter how many are looked for, if these are enough
fuel : (n m : ℕ) (bytes : List ℕ) → length bytes ≤ n → length bytes ≤ m
    → (contents_by n bytes ≡ contents_by m bytes) × (rest_by n bytes ≡ rest_by m bytes)
unfolding contents_by rest_by
fuel zero m bytes l k =
    let no_record = none_short bytes (omega arith) in
    let no_skip = skip_short bytes (omega arith) in
    let none = none-by m bytes no_record no_skip in
    (sym none.0, sym none.1)
fuel (suc n) zero bytes l k =
    let no_record = none_short bytes (omega arith) in
    let no_skip = skip_short bytes (omega arith) in
    none-by (suc n) bytes no_record no_skip
fuel (suc n) (suc m) bytes l k = elim (cases_Bool (is_record_at bytes)) [
  | inl is ↦
      let shorter = after-shorter bytes (begins bytes is) in
      let more = fuel n m (after_at bytes) (omega (arith, shorter)) (omega (arith, shorter)) in (
        cond-true _ _ _ is
            ∙ (ap (λ (l : List (Option (List ℕ))). Some (content_at bytes) ∷ l) more.0
            ∙ sym (cond-true _ _ _ is)),
        cond-true _ (rest_by n (after_at bytes)) _ is
            ∙ (more.1 ∙ sym (cond-true _ (rest_by m (after_at bytes)) _ is)),
      )
  | inr is ↦ elim (cases_Bool (is_skipped_at bytes)) [
    | inl skip ↦
        let shorter = skip-shorter bytes (skips bytes skip) in
        let more = fuel n m (after_at bytes) (omega (arith, shorter)) (omega (arith, shorter)) in (
          cond-false _ _ _ is ∙ (cond-true _ _ [] skip
              ∙ (ap (λ (l : List (Option (List ℕ))). damaged_content (content_at bytes) ++ l) more.0
              ∙ (sym (cond-true _ _ [] skip) ∙ sym (cond-false _ _ _ is)))),
          cond-false _ (rest_by n (after_at bytes)) _ is ∙ (cond-true _ _ bytes skip
              ∙ (ap (λ (l : List ℕ). take (8 + length_at bytes) bytes ++ l) more.1
              ∙ (sym (cond-true _ _ bytes skip)
              ∙ sym (cond-false _ (rest_by m (after_at bytes)) _ is)))),
        )
    | inr skip ↦
        let one = none-by (suc n) bytes is skip in
        let two = none-by (suc m) bytes is skip in
        (one.0 ∙ sym two.0, one.1 ∙ sym two.1)
  ]
]

-- What is read of bytes that begin with a record.
pub read-more : (bytes : List ℕ) → is_record_at bytes ≡ true
    → (contents bytes ≡ Some (content_at bytes) ∷ contents (after_at bytes))
    × (rest bytes ≡ rest (after_at bytes))
unfolding contents rest contents_by rest_by
read-more bytes is =
    let shorter = after-shorter bytes (begins bytes is) in
    let n = length bytes in
    let enough = fuel (suc n) n bytes (omega arith) (omega arith) in
    let same =
    fuel n (length (after_at bytes)) (after_at bytes) (omega (arith, shorter)) (omega arith) in (
      sym enough.0
          ∙ (cond-true _ _ _ is
          ∙ ap (λ (l : List (Option (List ℕ))). Some (content_at bytes) ∷ l) same.0),
      sym enough.1 ∙ (cond-true _ (rest_by n (after_at bytes)) _ is ∙ same.1),
    )

-- What is read of those that begin with a record that is skipped.
pub read-skip : (bytes : List ℕ) → is_record_at bytes ≡ false → is_skipped_at bytes ≡ true
    → (contents bytes ≡ damaged_content (content_at bytes) ++ contents (after_at bytes))
    × (rest bytes ≡ take (8 + length_at bytes) bytes ++ rest (after_at bytes))
unfolding contents rest contents_by rest_by
read-skip bytes is skip =
    let shorter = skip-shorter bytes (skips bytes skip) in
    let n = length bytes in
    let enough = fuel (suc n) n bytes (omega arith) (omega arith) in
    let same =
    fuel n (length (after_at bytes)) (after_at bytes) (omega (arith, shorter)) (omega arith) in (
      sym enough.0
          ∙ (cond-false _ _ _ is ∙ (cond-true _ _ [] skip
          ∙ ap (λ (l : List (Option (List ℕ))). damaged_content (content_at bytes) ++ l) same.0)),
      sym enough.1
          ∙ (cond-false _ (rest_by n (after_at bytes)) _ is ∙ (cond-true _ _ bytes skip
          ∙ ap (λ (l : List ℕ). take (8 + length_at bytes) bytes ++ l) same.1)),
    )

-- And of those that do neither.
pub read-none : (bytes : List ℕ) → is_record_at bytes ≡ false → is_skipped_at bytes ≡ false
    → (contents bytes ≡ []) × (rest bytes ≡ bytes)
unfolding contents rest
read-none bytes is skip = none-by (length bytes) bytes is skip

-- What is read of whole records, with more bytes after them.
pub record ReadOn (bytes more : List ℕ) : Type 0 where
  pub contents_are : contents (bytes ++ more) ≡ contents bytes ++ contents more
  pub rest_is : rest (bytes ++ more) ≡ rest more

-- No more than none.
pub nil-length : (xs : List ℕ) → length xs ≤ 0 → xs ≡ []
nil-length [] l = refl
nil-length (x ∷ xs) l = absurd (omega arith)

-- No bytes are no records.
pub read-nil : (contents [] ≡ []) × (rest [] ≡ [])
read-nil = read-none [] (none_short [] (omega arith)) (skip_short [] (omega arith))

-- no bytes are read on
read-on-nil : (bytes more : List ℕ) → bytes ≡ [] → ReadOn bytes more
read-on-nil bytes more none =
    subst (λ (b : List ℕ). ReadOn b more) (sym none) (record {
      contents_are = ap (λ (l : List (Option (List ℕ))). l ++ contents more) (sym read-nil.0);
      rest_is = refl;
    })

-- where a record is skipped, bytes are not read
skip-rest : (bytes : List ℕ) → is_record_at bytes ≡ false → is_skipped_at bytes ≡ true
    → rest bytes ≡ [] → ⊥
skip-rest bytes is skip whole =
    let there = skips-there bytes (skips bytes skip) in
    omega (
      arith,
      ap length (sym (read-skip bytes is skip).1 ∙ whole),
      length-append (take (8 + length_at bytes) bytes) (rest (after_at bytes)),
      length-take-le (8 + length_at bytes) bytes there,
    )

-- Bytes all of which are read are none, or begin with a record after which all are read.
whole-cases : (bytes : List ℕ) → rest bytes ≡ []
    → (bytes ≡ []) ⊎ ((is_record_at bytes ≡ true) × (rest (after_at bytes) ≡ []))
whole-cases bytes whole = elim (cases_Bool (is_record_at bytes)) [
  | inl is ↦ inr (is, sym (read-more bytes is).1 ∙ whole)
  | inr is ↦ elim (cases_Bool (is_skipped_at bytes)) [
    | inl skip ↦ absurd (skip-rest bytes is skip whole)
    | inr skip ↦ inl (sym (read-none bytes is skip).1 ∙ whole)
  ]
]

read-on_by : (n : ℕ) (bytes more : List ℕ) → length bytes ≤ n → rest bytes ≡ [] → ReadOn bytes more
read-on_by zero bytes more l whole = read-on-nil bytes more (nil-length bytes l)
read-on_by (suc n) bytes more l whole = elim (whole-cases bytes whole) [
  | inl none ↦ read-on-nil bytes more none
  | inr it ↦
      let b = begins bytes it.0 in
      let there = begun (bytes ++ more) (begins-more bytes more b) in
      let first = read-more (bytes ++ more) there in
      let alone = read-more bytes it.0 in
      let after = after-more bytes more b.there in
      let on =
      read-on_by n (after_at bytes) more (omega (arith, after-shorter bytes b)) it.1 in
      record {
        contents_are =
            first.0
            ∙ (ap₂ (λ (c : List ℕ) (l : List (Option (List ℕ))). Some c ∷ l)
            (content-more bytes more b.there)
            (ap contents after ∙ on.contents_are)
            ∙ ap (λ (l : List (Option (List ℕ))). l ++ contents more) (sym alone.0));
        rest_is = first.1 ∙ (ap rest after ∙ on.rest_is);
      }
]

-- What is added to whole records is read after them.
pub read-on : (bytes more : List ℕ) → rest bytes ≡ [] → ReadOn bytes more
read-on bytes more whole = read-on_by (length bytes) bytes more (omega arith) whole

-- Contents none of which is that of a damaged record.
pub record Checked (contents : List (Option (List ℕ))) : Type 0 where
  pub are : List (List ℕ)
  pub all : contents ≡ map Some are

checked_by : (n : ℕ) (bytes : List ℕ) → length bytes ≤ n → rest bytes ≡ []
    → Checked (contents bytes)
checked_by zero bytes l whole =
    record { are = []; all = ap contents (nil-length bytes l) ∙ read-nil.0 }
checked_by (suc n) bytes l whole = elim (whole-cases bytes whole) [
  | inl none ↦ record { are = []; all = ap contents none ∙ read-nil.0 }
  | inr it ↦
      let shorter = after-shorter bytes (begins bytes it.0) in
      let more = checked_by n (after_at bytes) (omega (arith, shorter)) it.1 in
      record {
        are = content_at bytes ∷ more.are;
        all =
            (read-more bytes it.0).0
            ∙ ap (λ (l : List (Option (List ℕ))). Some (content_at bytes) ∷ l) more.all;
      }
]

-- Where all bytes are read, no record is damaged.
pub checked : (bytes : List ℕ) → rest bytes ≡ [] → Checked (contents bytes)
checked bytes whole = checked_by (length bytes) bytes (omega arith) whole

-- A record that was written is read.
pub read-record : (content : List ℕ) → IsContent content
    → (contents (record_bytes content) ≡ Some content ∷ []) × (rest (record_bytes content) ≡ [])
read-record content is =
    let r = record_bytes content in
    let first = read-more r (begun r (begins-written content is)) in
    let after = after-written content is in (
      first.0
          ∙ ap₂ (λ (c : List ℕ) (l : List (Option (List ℕ))). Some c ∷ l)
          (content-written content is)
          (ap contents after ∙ read-nil.0),
      first.1 ∙ (ap rest after ∙ read-nil.1),
    )

-- Records that were written are read.
pub read-spelled : (cs : List (List ℕ)) → AllByRecursion IsContent cs
    → (contents (spelled cs) ≡ map Some cs) × (rest (spelled cs) ≡ [])
read-spelled [] all = read-nil
read-spelled (c ∷ cs) all =
    let one = read-record c all.0 in
    let on = read-on (record_bytes c) (spelled cs) one.1 in
    let more = read-spelled cs all.1 in (
      on.contents_are
          ∙ ap₂ (λ (l : List (Option (List ℕ))) (k : List (Option (List ℕ))). l ++ k) one.0 more.0,
      on.rest_is ∙ more.1,
    )

-- Of records that were cut anywhere, those are read that are whole.
pub record ReadCut (cs : List (List ℕ)) (bytes : List ℕ) : Type 0 where
  pub count : ℕ
  pub few : count ≤ length cs
  pub are : contents bytes ≡ map Some (take count cs)

take-past : (xs ys : List ℕ) (k : ℕ) → length xs ≤ k
    → take k (xs ++ ys) ≡ xs ++ take (k - length xs) ys
take-past [] ys k l = let e : k - 0 ≡ k = omega arith in ap (λ (j : ℕ). take j ys) (sym e)
take-past (x ∷ xs) ys zero l = absurd (omega arith)
take-past (x ∷ xs) ys (suc k) l =
    let e : suc k - suc (length xs) ≡ k - length xs = omega arith in
    ap (λ (l : List ℕ). x ∷ l)
    (take-past xs ys k (omega arith) ∙ ap (λ (j : ℕ). xs ++ take j ys) (sym e))

take-none : (k : ℕ) → ◌≡◌ {A = List ℕ} (take k []) []
take-none zero = refl
take-none (suc k) = refl

-- What is read of records that were cut anywhere.
pub read-cut : (cs : List (List ℕ)) (k : ℕ) → AllByRecursion IsContent cs
    → ReadCut cs (take k (spelled cs))
read-cut [] k all =
    record { count = 0; few = omega arith; are = ap contents (take-none k) ∙ read-nil.0 }
read-cut (c ∷ cs) k all = elim (cases_lt k (8 + length c)) [
  | inl few ↦
      let r = record_bytes c in
      let part : take k (r ++ spelled cs) ≡ take k r =
      take-append-le k r (spelled cs) (omega (arith, few, length-record c)) in
      record {
        count = 0;
        few = omega arith;
        are =
            ap contents part
            ∙ (read-none (take k r) (none_cut c k all.0 few) (skip_cut c k all.0 few)).0;
      }
  | inr many ↦
      let r = record_bytes c in
      let one = read-record c all.0 in
      let part : take k (r ++ spelled cs) ≡ r ++ take (k - length r) (spelled cs) =
      take-past r (spelled cs) k (omega (arith, many, length-record c)) in
      let more = read-cut cs (k - length r) all.1 in
      let on = read-on r (take (k - length r) (spelled cs)) one.1 in
      record {
        count = suc more.count;
        few = omega (arith, more.few);
        are =
            ap contents part
            ∙ (on.contents_are
            ∙ ap₂ (λ (l : List (Option (List ℕ))) (j : List (Option (List ℕ))). l ++ j) one.0
            more.are);
      }
]
