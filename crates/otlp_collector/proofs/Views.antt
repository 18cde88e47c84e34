-- The words of values as they were received, case by case.
use Rattle.std.proofs.Common.{◌≡◌, refl, sym, ap, ◌∙◌, ℕ, ℤ, ◌+◌, ◌*◌, ◌<◌, length, length-append}
use Rattle.std.proofs.Common.{append_assoc, arith, Result, Ok, Err, OnOk, true, false, List, []}
use Rattle.std.proofs.Common.{◌∷◌, ◌++◌, map, codes, String, Vec}
use Rattle.std.specs.String.{string_bytes}
use Rattle.std.specs.Fmt.{signed_decimal}
use Rattle.std.specs.Int.{w64, to_be_bytes}
use Rattle.hex.specs.Hex.{encode_lower}
use Rattle.model_message.specs.AnyValue.{as_values, as_pairs}
use Rattle.otlp_read.specs.declared.any_value.AnyValue.{AnyValue, Empty, Text, Bool as Truth, Int}
use Rattle.otlp_read.specs.declared.any_value.AnyValue.{Double, Array, Pairs, Bytes}
use Rattle.otlp_read.specs.Values.{values_view, pairs_view}
use Rattle.otlp_read.proofs.ValueViews.{view-Empty, view-Text, view-Bool, view-Int, view-Double}
use Rattle.otlp_read.proofs.ValueViews.{view-Array, view-Pairs, view-Bytes}
use Rattle.otlp_collector.specs.Lines.{text_word, bytes_word, listed, value_word, value_words}
use Rattle.otlp_collector.specs.Lines.{pair_words}
use Rattle.otlp_collector.specs.Words.{any_word, pair_word}
use Rattle.otlp_collector.proofs.Listed.{appended}

words-of : {A : Type 0} (vs : List (AnyValue A))
    → value_words (as_values (values_view vs)) ≡ map any_word vs
unfolding value_words
words-of [] = refl
words-of (v ∷ vs) = ap (λ l. any_word v ∷ l) (words-of vs)

pairs-of : {A : Type 0} (ps : List (String A × AnyValue A))
    → pair_words (as_pairs (pairs_view ps)) ≡ map pair_word ps
unfolding pair_words
pairs-of [] = refl
pairs-of (p ∷ ps) = ap (λ l. pair_word p ∷ l) (pairs-of ps)

-- The word of an empty value is `n:`.
pub word-Empty : (A : Type 0) → any_word {A = A} Empty ≡ codes "n:"
unfolding value_word
word-Empty A = ap value_word (view-Empty A)

-- The word of a text is `t:` and then the text's own word.
pub word-Text : {A : Type 0} (t : String A)
    → any_word (Text t) ≡ codes "t:" ++ text_word (string_bytes t)
unfolding value_word
word-Text t = ap value_word (view-Text t)

-- The word of the truth value true is `b:true`.
pub word-true : (A : Type 0) → any_word {A = A} (Truth true) ≡ codes "b:true"
unfolding value_word
word-true A = ap value_word (view-Bool A true)

-- The word of the truth value false is `b:false`.
pub word-false : (A : Type 0) → any_word {A = A} (Truth false) ≡ codes "b:false"
unfolding value_word
word-false A = ap value_word (view-Bool A false)

-- The word of an integer is `i:` and then its decimal digits with their sign.
pub word-Int : (A : Type 0) (i : ℤ) → any_word {A = A} (Int i) ≡ codes "i:" ++ signed_decimal i
unfolding value_word
word-Int A i = ap value_word (view-Int A i)

-- The word of a double is `d:` and then its 64 bits in hexadecimal digits, the highest first.
pub word-Double : (A : Type 0) (d : ℕ)
    → any_word {A = A} (Double d) ≡ codes "d:" ++ encode_lower (to_be_bytes w64 d)
unfolding value_word
word-Double A d = ap value_word (view-Double A d)

-- The word of an array is the list of its values' words between `a(` and `)`.
pub word-Array : {A : Type 0} (v : Vec (AnyValue A) A)
    → any_word (Array v) ≡ codes "a(" ++ (listed (map any_word v.items) ++ codes ")")
unfolding value_word
word-Array v =
    ap value_word (view-Array v)
    ∙ ap (λ l. codes "a(" ++ (listed l ++ codes ")")) (words-of v.items)

-- The word of a list of pairs is the list of the pairs' words between `m(` and `)`.
pub word-Pairs : {A : Type 0} (v : Vec (String A × AnyValue A) A)
    → any_word (Pairs v) ≡ codes "m(" ++ (listed (map pair_word v.items) ++ codes ")")
unfolding value_word
word-Pairs v =
    ap value_word (view-Pairs v)
    ∙ ap (λ l. codes "m(" ++ (listed l ++ codes ")")) (pairs-of v.items)

-- The word of bytes is `y:` and then the bytes' own word.
pub word-Bytes : {A : Type 0} (v : Vec ℕ A) → any_word (Bytes v) ≡ codes "y:" ++ bytes_word v.items
unfolding value_word
word-Bytes v = ap value_word (view-Bytes v)

-- ---- a value that is one of these

-- The word that was written for a value of a known kind is the word of the value.
pub told : {A : Type 0} (v which : AnyValue A) (old new word : List ℕ) → v ≡ which
    → any_word which ≡ word → new ≡ old ++ word → new ≡ old ++ any_word v
told v which old new word is says more = more ∙ ap (λ l. old ++ l) (sym (ap any_word is ∙ says))

-- A mark, and then the rest of the word, which a call writes, are the word of the value.
pub told-by : {A T E : Type 0} (r : Result T E) (v which : AnyValue A)
    (old mid new mark word : List ℕ)
    → v ≡ which → any_word which ≡ mark ++ word → mid ≡ old ++ mark
    → OnOk r (new ≡ mid ++ word) → OnOk r (new ≡ old ++ any_word v)
told-by (Ok x) v which old mid new mark word is says marked more =
    told v which old new (mark ++ word) is says (appended old mid new mark word marked more)
told-by (Err e) v which old mid new mark word is says marked more = tt

-- The word that a call writes for a value of a known kind is the word of the value.
pub told-call : {A T E : Type 0} (r : Result T E) (v which : AnyValue A) (old new word : List ℕ)
    → v ≡ which → any_word which ≡ word
    → OnOk r (new ≡ old ++ word) → OnOk r (new ≡ old ++ any_word v)
told-call (Ok x) v which old new word is says more = told v which old new word is says more
told-call (Err e) v which old new word is says more = tt

-- The measure of the recursion falls from an array to the list of its values.
pub array-longer : {A : Type 0} (v : AnyValue A) (values : Vec (AnyValue A) A)
    (items : List (AnyValue A))
    → v ≡ Array values → items ≡ values.items
    → 2 * length (listed (map any_word items)) + 1 < 2 * length (any_word v)
array-longer v values items is same =
    let word = ap (λ x. length (any_word x)) is ∙ ap length (word-Array values) in
    omega (
      arith,
      word,
      length-append (listed (map any_word values.items)) (codes ")"),
      ap (λ l. length (listed (map any_word l))) same,
    )

-- The measure of the recursion falls from a list of pairs to the pairs in it.
pub pairs-longer : {A : Type 0} (v : AnyValue A) (pairs : Vec (String A × AnyValue A) A)
    (items : List (String A × AnyValue A))
    → v ≡ Pairs pairs → items ≡ pairs.items
    → 2 * length (listed (map pair_word items)) + 1 < 2 * length (any_word v)
pairs-longer v pairs items is same =
    let word = ap (λ x. length (any_word x)) is ∙ ap length (word-Pairs pairs) in
    omega (
      arith,
      word,
      length-append (listed (map pair_word pairs.items)) (codes ")"),
      ap (λ l. length (listed (map pair_word l))) same,
    )

-- ---- a pair

-- The word of a pair's value is shorter than the word of the pair.
pub value-shorter : {A : Type 0} (p : String A × AnyValue A)
    → length (any_word p.1) < length (pair_word p)
value-shorter p = omega (arith, length-append (text_word (string_bytes p.0)) (61 ∷ any_word p.1))

-- A comma or nothing, the key with `=`, and the value's word, in turn, write the pair's word.
pub pair-after : {A : Type 0} (p : String A × AnyValue A) (key old mid new comma : List ℕ)
    → key ≡ string_bytes p.0
    → mid ≡ old ++ (comma ++ (text_word key ++ codes "=")) → new ≡ mid ++ any_word p.1
    → new ≡ old ++ (comma ++ pair_word p)
pair-after p key old mid new comma is to-mid to-new =
    appended old mid new (comma ++ (text_word key ++ codes "=")) (any_word p.1) to-mid to-new
    ∙ ap (λ l. old ++ l)
    (append_assoc comma (text_word key ++ codes "=") (any_word p.1)
    ∙ ap (λ l. comma ++ l)
    (append_assoc (text_word key) (codes "=") (any_word p.1)
    ∙ ap (λ k. text_word k ++ 61 ∷ any_word p.1) is))
