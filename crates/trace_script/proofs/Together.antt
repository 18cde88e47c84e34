-- The script that a draft becomes, line after line, is the script of all lines together.
use Rattle.std.proofs.Common.{◌≡◌, ℕ, ◌+◌, ◌<◌, Bool, true, not, List, [], ◌∷◌, ◌++◌, length}
use Rattle.std.proofs.Common.{get_or, take, drop, Option, Some, None, Result, Ok, Err, inl, inr}
use Rattle.std.proofs.Common.{refl, sym, ap, ◌∙◌, arith, append-nil, append_assoc, length-append}
use Rattle.std.proofs.Common.{take-append-drop}
use lib.Seq.{take-append-le, take-append-add}
use Rattle.std.specs.Prelude.{is_some, ok_or, filter}
use Rattle.std.specs.List.{range_with_len}
use Rattle.std.proofs.lemmas.Bool.{cases_Bool}
use Rattle.std.proofs.lemmas.List.Elements.{filter-append}
use Rattle.std.proofs.lemmas.List.Sums.{position_or_len_is}
use Rattle.std.proofs.lemmas.List.FromFn.{length-range_with_len, get_or-range_with_len}
use Rattle.text_words.specs.Words.{◌>>=◌, each_of, in_front}
use Rattle.trace_script.specs.Lines.{Line, line_of}
use Rattle.trace_script.specs.Scripts.{Script, is_script, contents_of, some_bytes, script_if}
use Rattle.trace_script.specs.Scripts.{script_of, first_bad_line, lines_of, script_read}
use Rattle.trace_script.specs.Drafts.{no_script, fits, with_line, line_read}
use Rattle.trace_script.proofs.Orders.{is_last, contents_last}

-- ---- the lines one after the other

abbrev pub numbered : ℕ → Option Script → (Script → Result Script ℕ) → Result Script ℕ
numbered n None next = Err n
numbered n (Some s) next = next s

-- A script and the lines after it, the first of which has the number n: what they say together, or
-- the number of the first that may not follow.
unfoldable pub lines_read : ℕ → Script → List (List ℕ) → Result Script ℕ
lines_read n s [] = Ok s
lines_read n s (line ∷ lines) = numbered n (line_read s line) (λ t. lines_read (n + 1) t lines)

-- ---- one more line

last_one : {Y : Type 0} (o : Option Y) (r : Option (List Y)) (l : Option Y)
    → in_front o (r >>= λ ys. l >>= λ y. Some (ys ++ y ∷ []))
    ≡ (in_front o r >>= λ ys. l >>= λ y. Some (ys ++ y ∷ []))
last_one None r l = refl
last_one (Some z) None l = refl
last_one (Some z) (Some ys) None = refl
last_one (Some z) (Some ys) (Some y) = refl

each_last : {X Y : Type 0} (f : X → Option Y) (xs : List X) (x : X)
    → each_of f (xs ++ x ∷ []) ≡ (each_of f xs >>= λ ys. f x >>= λ y. Some (ys ++ y ∷ []))
each_last f [] x = alone (f x)
  where
    alone : {Y : Type 0} (o : Option Y) → in_front o (Some []) ≡ (o >>= λ y. Some ([] ++ y ∷ []))
    alone None = refl
    alone (Some y) = refl
each_last f (z ∷ xs) x =
    ap (in_front (f z)) (each_last f xs x) ∙ last_one (f z) (each_of f xs) (f x)

if_last : (ls : List Line) (l : Line)
    → script_if (ls ++ l ∷ []) ≡ (script_if ls >>= λ s. with_line s l)
unfolding with_line
if_last ls l = elim (cases_Bool (is_script ls)) [
  | inr no_script ↦ rw (is_last ls l, no_script) refl
  | inl a_script ↦ elim (cases_Bool (fits (contents_of ls) l)) [
    | inr no_fit ↦ rw (is_last ls l, a_script, no_fit) refl
    | inl fit ↦ rw (is_last ls l, a_script, fit) (ap Some (contents_last ls l a_script fit))
  ]
]

nothing_after : {X Y : Type 0} (o : Option X) (none : Option Y) → none ≡ None
    → (o >>= λ x. none) ≡ None
nothing_after None none e = refl
nothing_after (Some x) none e = e

all_after : {X : Type 0} (o : Option X) → (o >>= λ x. Some x) ≡ o
all_after None = refl
all_after (Some x) = refl

both : (o : Option (List Line)) (l : Option Line)
    → ((o >>= λ ls. l >>= λ y. Some (ls ++ y ∷ [])) >>= script_if)
    ≡ ((o >>= script_if) >>= λ s. l >>= λ line. with_line s line)
both None l = refl
both (Some ls) None = sym (nothing_after (script_if ls) None refl)
both (Some ls) (Some y) = if_last ls y

-- The script of some lines and one more is the script of the lines, extended by the last one.
pub script_last : (lines : List (List ℕ)) (line : List ℕ)
    → script_of (lines ++ line ∷ []) ≡ (script_of lines >>= λ s. line_read s line)
unfolding script_of line_read
script_last lines [] =
    ap (λ ls. each_of line_of ls >>= script_if)
    (filter-append some_bytes lines ([] ∷ []) ∙ append-nil (filter some_bytes lines))
    ∙ sym (all_after (each_of line_of (filter some_bytes lines) >>= script_if))
script_last lines (b ∷ bs) =
    ap (λ ls. each_of line_of ls >>= script_if) (filter-append some_bytes lines ((b ∷ bs) ∷ []))
    ∙ ap (λ o. o >>= script_if) (each_last line_of (filter some_bytes lines) (b ∷ bs))
    ∙ both (each_of line_of (filter some_bytes lines)) (line_of (b ∷ bs))

-- ---- many lines

-- no script begins with lines that are none
stays_bad : (lines more : List (List ℕ)) → script_of lines ≡ None → script_of (lines ++ more) ≡ None
stays_bad lines [] e = ap script_of (append-nil lines) ∙ e
stays_bad lines (line ∷ more) e =
    ap script_of (sym (append_assoc lines (line ∷ []) more))
    ∙ stays_bad (lines ++ line ∷ []) more
    (script_last lines line ∙ ap (λ o. o >>= λ s. line_read s line) e)

was_good : (lines more : List (List ℕ)) (s : Script) → script_of (lines ++ more) ≡ Some s
    → is_some (script_of lines) ≡ true
was_good lines more s e = by (script_of lines) refl
  where
    by : (o : Option Script) → script_of lines ≡ o → is_some o ≡ true
    by None h = let none : None ≡ Some s = sym (stays_bad lines more h) ∙ e in cc
    by (Some t) h = refl

first_bad_line_is : (before rest : List (List ℕ)) (line : List ℕ) (s : Script)
    → script_of before ≡ Some s → script_of (before ++ line ∷ []) ≡ None
    → first_bad_line (before ++ line ∷ rest) ≡ length before + 1
first_bad_line_is before rest line s good bad =
    let all : List (List ℕ) = before ++ line ∷ rest in
    let count : length all ≡ length before + length (line ∷ rest) =
    length-append before (line ∷ rest) in
    let places : List ℕ = range_with_len 0 (length all + 1) in
    let many : length places ≡ length all + 1 = length-range_with_len 0 (length all + 1) in
    let P : ℕ → Bool = λ n. not (is_some (script_of (take n all))) in
    let at : (k : ℕ) → k < length all + 1 → get_or places k 0 ≡ k =
    λ k h. get_or-range_with_len 0 (length all + 1) k 0 h ∙ omega arith in
    position_or_len_is P places (length before + 1) 0 (omega (arith, count, many))
    (λ k h. ap P (at k (omega (arith, count)))
    ∙ ap (λ ls. not (is_some (script_of ls))) (take-append-le k before (line ∷ rest) (omega arith))
    ∙ ap not
    (was_good (take k before) (drop k before) s (ap script_of (take-append-drop k before) ∙ good)))
    (λ h. ap P (at (length before + 1) (omega (arith, count)))
    ∙ ap (λ ls. not (is_some (script_of ls))) (take-append-add before (line ∷ rest) 1)
    ∙ ap (λ o. not (is_some o)) bad)

agrees : (before rest : List (List ℕ)) (s : Script) → script_of before ≡ Some s
    → lines_read (length before + 1) s rest
    ≡ ok_or (script_of (before ++ rest)) (first_bad_line (before ++ rest))
unfolding lines_read
agrees before [] s e =
    sym (ap (λ o. ok_or o (first_bad_line (before ++ []))) (ap script_of (append-nil before) ∙ e))
agrees before (line ∷ rest) s e =
    by (λ t h. agrees (before ++ line ∷ []) rest t h) (line_read s line) refl
  where
    now : script_of (before ++ line ∷ []) ≡ line_read s line
    now = script_last before line ∙ ap (λ o. o >>= λ t. line_read t line) e

    together : (before ++ line ∷ []) ++ rest ≡ before ++ line ∷ rest
    together = append_assoc before (line ∷ []) rest

    longer : length before + 1 + 1 ≡ length (before ++ line ∷ []) + 1
    longer = ap (λ n. n + 1) (sym (length-append before (line ∷ [])))

    by : ((t : Script) → script_of (before ++ line ∷ []) ≡ Some t
        → lines_read (length (before ++ line ∷ []) + 1) t rest
        ≡ ok_or (script_of ((before ++ line ∷ []) ++ rest))
        (first_bad_line ((before ++ line ∷ []) ++ rest)))
        → (o : Option Script) → line_read s line ≡ o
        → numbered (length before + 1) o (λ t. lines_read (length before + 1 + 1) t rest)
        ≡ ok_or (script_of (before ++ line ∷ rest)) (first_bad_line (before ++ line ∷ rest))
    by later None h =
        let none : script_of (before ++ line ∷ rest) ≡ None =
        ap script_of (sym together) ∙ stays_bad (before ++ line ∷ []) rest (now ∙ h) in
        sym (ap (λ o. ok_or o (first_bad_line (before ++ line ∷ rest))) none
        ∙ ap Err (first_bad_line_is before rest line s e (now ∙ h)))
    by later (Some t) h =
        ap (λ n. lines_read n t rest) longer
        ∙ later t (now ∙ h)
        ∙ ap (λ ls. ok_or (script_of ls) (first_bad_line ls)) together

-- A text read line after line gives the script of all its lines, or its first bad line.
pub text_read : (text : List ℕ) → lines_read 1 no_script (lines_of text) ≡ script_read text
unfolding script_of
text_read text = agrees [] (lines_of text) no_script refl
