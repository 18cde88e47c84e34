-- The words of what is left of a text, and the terms that they are.
use Rattle.std.proofs.Common.{◌≡◌, ◌≢◌, sym, ap, ◌∙◌, subst, refl, ℕ, ◌+◌, ◌-◌, ◌<◌, zero, suc}
use Rattle.std.proofs.Common.{Bool, true, false, List, [], ◌∷◌, ◌++◌, drop, take, length, arith}
use Rattle.std.proofs.Common.{append_assoc, length-drop, Result, Ok, Err, IfErr, if◌then◌else◌}
use Rattle.std.specs.Prelude.{not, ◌&&◌}
use Rattle.std.proofs.lemmas.List.{drop-drop}
use Rattle.view_query.specs.Reading.{IsSearchFault, and_terms, put_before, term_of, terms_in}
use Rattle.view_query.specs.Reading.{terms_of}
use Rattle.view_query.specs.Terms.{TermView}
use Rattle.view_query.specs.Words.{inside_after, is_space, word_length, words_after}
use Rattle.view_query.specs.declared.fault.Mistake.{Mistake}
use Rattle.view_query.specs.declared.fault.SearchFault.{SearchFault}
use Rattle.view_query.specs.declared.fault.SearchFault.TheVariants.{OutOfMemory}
use Rattle.view_query.specs.declared.fault.SearchFault.TheVariants.{Mistake as Wrong}
use Rattle.view_query.specs.declared.fault.Why.{Why}

-- the words after bytes that are read already
skip_is : (at k : ℕ) (cs : List ℕ) → words_after at k cs ≡ words_after (at + k) zero (drop k cs)
skip_is at zero [] = refl
skip_is at (suc k) [] = refl
skip_is at zero (c ∷ cs) = ap (λ n. words_after n zero (c ∷ cs)) (omega arith)
skip_is at (suc k) (c ∷ cs) =
    skip_is (at + 1) k cs ∙ ap (λ n. words_after n zero (drop k cs)) (omega arith)

-- the words after one of so many bytes, of which the first is read
word_tail : (at n : ℕ) (c : ℕ) (cs : List ℕ) → n ≢ 0
    → words_after (at + 1) (n - 1) cs ≡ words_after (at + n) zero (drop n (c ∷ cs))
word_tail at zero c cs some = absurd (some refl)
word_tail at (suc k) c cs some =
    let less : suc k - 1 ≡ k = omega arith in
    ap (λ m. words_after (at + 1) m cs) less ∙ skip_is (at + 1) k cs
    ∙ ap (λ m. words_after m zero (drop k cs)) (omega arith)

-- at a space there is no word
space_by : {X : Type 0} (b : Bool) (w : ℕ) (x y : X)
    → (if b && not false then 0 else 1 + w) ≡ 0 → (if b then x else y) ≡ x
space_by true w x y is = refl
space_by false w x y is = absurd (omega arith)

-- and at any other byte there is one
word_by : {X : Type 0} (b : Bool) (w : ℕ) (x y : X)
    → (if b && not false then 0 else 1 + w) ≢ 0 → (if b then x else y) ≡ y
word_by true w x y some = absurd (some refl)
word_by false w x y some = refl

-- a text that begins with a space
first_space : (at : ℕ) (l : List ℕ) → 0 < length l → word_length false l ≡ 0
    → words_after at zero l ≡ words_after (at + 1) zero (drop 1 l)
first_space at [] some is = absurd (omega arith)
first_space at (c ∷ cs) some is =
    space_by (is_space c) (word_length (inside_after false c) cs) _ _ is

-- a text that begins with a word
first_word : (at : ℕ) (l : List ℕ) → 0 < length l → word_length false l ≢ 0
    → words_after at zero l ≡ (at, take (word_length false l) l)
    ∷ words_after (at + word_length false l) zero (drop (word_length false l) l)
first_word at [] some more = absurd (omega arith)
first_word at (c ∷ cs) some more =
    word_by (is_space c) (word_length (inside_after false c) cs) _ _ more
    ∙ ap (λ ws. (at, take (word_length false (c ∷ cs)) (c ∷ cs)) ∷ ws)
    (word_tail at (word_length false (c ∷ cs)) c cs more)

-- one term more before the rest
term_before : (at : ℕ) (before after : List TermView) (term : Result TermView Why)
    (rest : Result (List TermView) Mistake)
    → put_before before (and_terms at term (Ok [])) ≡ Ok after
    → put_before before (and_terms at term rest) ≡ put_before after rest
term_before at before after (Ok term) (Ok rest) is = grind (arith, append_assoc)
term_before at before after (Ok term) (Err mistake) is = refl
term_before at before after (Err why) rest is = absurd (cc)

-- a term that is none
wrong_before : (at : ℕ) (before : List TermView) (term : Result TermView Why)
    (rest : Result (List TermView) Mistake) (mistake : Mistake)
    → and_terms at term (Ok []) ≡ Err mistake
    → put_before before (and_terms at term rest) ≡ Err mistake
wrong_before at before (Ok term) rest mistake is = absurd (cc)
wrong_before at before (Err why) rest mistake is = ap (put_before before) is

-- A space goes by.
pub space_goes_by : (bytes : List ℕ) (at n : ℕ) (terms : List TermView)
    (whole : Result (List TermView) Mistake)
    → at < length bytes → n ≡ word_length false (drop at bytes) → n ≡ 0
    → put_before terms (terms_in (words_after at zero (drop at bytes))) ≡ whole
    → put_before terms (terms_in (words_after (at + 1) zero (drop (at + 1) bytes))) ≡ whole
space_goes_by bytes at n terms whole within is none so_far =
    let some : 0 < length (drop at bytes) = omega (arith, length-drop at bytes) in
    ap (λ r. put_before terms (terms_in (words_after (at + 1) zero r)))
    (sym (drop-drop 1 at bytes))
    ∙ ap (λ ws. put_before terms (terms_in ws))
    (sym (first_space at (drop at bytes) some (sym is ∙ none))) ∙ so_far

-- what is left begins with a word of so many bytes
words_at : (bytes : List ℕ) (at n : ℕ) → at < length bytes
    → n ≡ word_length false (drop at bytes) → 0 < n
    → words_after at zero (drop at bytes)
    ≡ (at, take n (drop at bytes)) ∷ words_after (at + n) zero (drop (at + n) bytes)
words_at bytes at n within is more =
    let some : 0 < length (drop at bytes) = omega (arith, length-drop at bytes) in
    let not_none : word_length false (drop at bytes) ≢ 0 = λ e. omega (arith, e, is) in
    first_word at (drop at bytes) some not_none
    ∙ ap (λ k. (at, take k (drop at bytes)) ∷ words_after (at + k) zero (drop k (drop at bytes)))
    (sym is)
    ∙ ap (λ r. (at, take n (drop at bytes)) ∷ words_after (at + n) zero r) (drop-drop n at bytes)

-- A word goes by, which is a term.
pub word_goes_by : (bytes : List ℕ) (at n : ℕ) (word : List ℕ) (before after : List TermView)
    (whole : Result (List TermView) Mistake)
    → at < length bytes → n ≡ word_length false (drop at bytes) → 0 < n
    → word ≡ take n (drop at bytes)
    → put_before before (and_terms at (term_of word) (Ok [])) ≡ Ok after
    → put_before before (terms_in (words_after at zero (drop at bytes))) ≡ whole
    → put_before after (terms_in (words_after (at + n) zero (drop (at + n) bytes))) ≡ whole
word_goes_by bytes at n word before after whole within is more taken pushed so_far =
    sym (term_before at before after (term_of word)
    (terms_in (words_after (at + n) zero (drop (at + n) bytes))) pushed)
    ∙ ap (λ w. put_before before (and_terms at (term_of w)
    (terms_in (words_after (at + n) zero (drop (at + n) bytes))))) taken
    ∙ ap (λ ws. put_before before (terms_in ws)) (sym (words_at bytes at n within is more))
    ∙ so_far

-- Or it is none.
word_is_none : (bytes : List ℕ) (at n : ℕ) (word : List ℕ) (before : List TermView)
    (whole : Result (List TermView) Mistake) (mistake : Mistake)
    → at < length bytes → n ≡ word_length false (drop at bytes) → 0 < n
    → word ≡ take n (drop at bytes)
    → and_terms at (term_of word) (Ok []) ≡ Err mistake
    → put_before before (terms_in (words_after at zero (drop at bytes))) ≡ whole
    → whole ≡ Err mistake
word_is_none bytes at n word before whole mistake within is more taken wrong so_far =
    sym so_far
    ∙ ap (λ ws. put_before before (terms_in ws)) (words_at bytes at n within is more)
    ∙ ap (λ w. put_before before (and_terms at (term_of w)
    (terms_in (words_after (at + n) zero (drop (at + n) bytes))))) (sym taken)
    ∙ wrong_before at before (term_of word)
    (terms_in (words_after (at + n) zero (drop (at + n) bytes))) mistake wrong

-- The text has the fault of its word.
pub word_is_wrong : (bytes : List ℕ) (at n : ℕ) (word : List ℕ) (before : List TermView)
    (whole : Result (List TermView) Mistake) (fault : SearchFault)
    → at < length bytes → n ≡ word_length false (drop at bytes) → 0 < n
    → word ≡ take n (drop at bytes)
    → IsSearchFault (and_terms at (term_of word) (Ok [])) fault
    → put_before before (terms_in (words_after at zero (drop at bytes))) ≡ whole
    → IsSearchFault whole fault
word_is_wrong bytes at n word before whole OutOfMemory within is more taken wrong so_far = tt
word_is_wrong bytes at n word before whole (Wrong mistake) within is more taken wrong so_far =
    word_is_none bytes at n word before whole mistake within is more taken wrong so_far

-- it is said
pub wrong_text : {T : Type 0} (bytes text : List ℕ) (r : Result T SearchFault) (fault : SearchFault)
    → bytes ≡ text → r ≡ Err fault → IsSearchFault (terms_of bytes) fault
    → IfErr r (λ f. IsSearchFault (terms_of text) f)
wrong_text bytes text r fault same is wrong =
    subst (λ x. IfErr x (λ f. IsSearchFault (terms_of text) f)) (sym is)
    (subst (λ t. IsSearchFault (terms_of t) fault) same wrong)
