-- How pairs are read one after the other.
use Rattle.std.proofs.Common.{◌≡◌, ℕ, ◌<◌, ◌≤◌, List, [], ◌∷◌, ◌++◌, length, get_or, drop, Option}
use Rattle.std.proofs.Common.{Some, None, Err, String, Vec, refl, sym, ap, ◌∙◌, arith, append-nil}
use denote.Ref.{Bor}
use Rattle.model_span.specs.Attributes.{Attribute}
use Rattle.otlp_value.specs.declared.Value.{Value}
use Rattle.otlp_value.specs.Value.{attribute_view, attributes_view}
use Rattle.text_words.specs.Words.{Gives, in_front}
use Rattle.trace_script.specs.Values.{pair_of, pairs_of}
use Rattle.text_words.specs.declared.WordFault.{WordFault}
use Rattle.text_words.specs.declared.WordFault.TheVariants.{Bad, OutOfMemory}
use Rattle.text_words.proofs.Each.{words_at, appended, one_more}

-- the words begin with this pair
at_pair : (words : List (Bor (List ℕ))) (d : Bor (List ℕ)) → 2 ≤ length words
    → pairs_of (words_at words)
    ≡ in_front (pair_of (get_or words 0 d).now (get_or words 1 d).now)
    (pairs_of (words_at (drop 2 words)))
unfolding pairs_of
at_pair [] d some = absurd (omega arith)
at_pair (key ∷ []) d some = absurd (omega arith)
at_pair (key ∷ value ∷ others) d some = refl

-- After one more pair, the rest of the words gives the same list of pairs.
pub goes_on : (front : List Attribute) (words : List (Bor (List ℕ))) (d : Bor (List ℕ))
    (p : Attribute) (whole : Option (List Attribute))
    → 2 ≤ length words → pair_of (get_or words 0 d).now (get_or words 1 d).now ≡ Some p
    → appended front (pairs_of (words_at words)) ≡ whole
    → appended (front ++ p ∷ []) (pairs_of (words_at (drop 2 words))) ≡ whole
goes_on front words d p whole some found so_far =
    one_more front p (pairs_of (words_at (drop 2 words)))
    ∙ ap (λ o. appended front (in_front o (pairs_of (words_at (drop 2 words))))) (sym found)
    ∙ ap (appended front) (sym (at_pair words d some)) ∙ so_far

-- A bad pair, or memory that is refused for one, is the fault of the whole list.
pub stops : (A : Type 0) (front : List Attribute) (words : List (Bor (List ℕ))) (d : Bor (List ℕ))
    (fault : WordFault) (whole : Option (List Attribute))
    → 2 ≤ length words
    → Gives (attribute_view {A = A}) (Err fault)
    (pair_of (get_or words 0 d).now (get_or words 1 d).now)
    → appended front (pairs_of (words_at words)) ≡ whole
    → Gives {X = Vec (String A × Value A) A} (λ pairs. attributes_view pairs.items)
    (Err fault) whole
stops A front words d Bad whole some bad so_far =
    sym so_far
    ∙ ap (appended front)
    (at_pair words d some ∙ ap (λ o. in_front o (pairs_of (words_at (drop 2 words)))) bad)
stops A front words d OutOfMemory whole some bad so_far = tt

-- Once no word is left, the pairs so far are the whole list.
pub is_done : (front : List Attribute) (words : List (Bor (List ℕ)))
    (whole : Option (List Attribute))
    → length words ≡ 0
    → appended front (pairs_of (words_at words)) ≡ whole → whole ≡ Some front
unfolding pairs_of
is_done front [] whole none so_far = sym so_far ∙ ap Some (append-nil front)
is_done front (w ∷ others) whole none so_far = absurd (omega arith)

-- A key without a value at the end makes the whole list bad.
pub no_value : (front : List Attribute) (words : List (Bor (List ℕ)))
    (whole : Option (List Attribute))
    → 0 < length words → length words < 2
    → appended front (pairs_of (words_at words)) ≡ whole → whole ≡ None
unfolding pairs_of
no_value front [] whole some few so_far = absurd (omega arith)
no_value front (key ∷ []) whole some few so_far = sym so_far
no_value front (key ∷ value ∷ others) whole some few so_far = absurd (omega arith)
