-- The loop over the lines of a script.
use Rattle.std.proofs.Common.{◌≡◌, ◌==◌, ℕ, ◌+◌, ◌<◌, ◌≤◌, List, length, get_or, drop, Some, None}
use Rattle.std.proofs.Common.{Result, Ok, Err, refl, sym, ap, ◌∙◌, subst, suc, arith, drop-cons}
use Rattle.std.proofs.Math.ListN.{drop_of_length-le}
use Rattle.std.specs.List.{slice_split}
use denote.Ref.{Bor}
use Rattle.trace_script.specs.Scripts.{Script, script_read}
use Rattle.trace_script.specs.Drafts.{no_script, line_read}
use Rattle.trace_script.proofs.Together.{lines_read, numbered, text_read}
use Rattle.text_words.proofs.Each.{words_at}

-- what the lines from place i on say, after those of a script
abbrev pub rest_read : Script → List (Bor (List ℕ)) → ℕ → Result Script ℕ
rest_read s lines i = lines_read (i + 1) s (words_at (drop i lines))

at_place : (n : ℕ) (s : Script) (lines : List (Bor (List ℕ))) (i : ℕ) (d : Bor (List ℕ))
    → i < length lines
    → lines_read n s (words_at (drop i lines))
    ≡ numbered n (line_read s (get_or lines i d).now)
    (λ t. lines_read (n + 1) t (words_at (drop (suc i) lines)))
unfolding lines_read
at_place n s lines i d within = rw (drop-cons lines i d within) refl

line_at : (s : Script) (lines : List (Bor (List ℕ))) (i : ℕ) (d : Bor (List ℕ)) → i < length lines
    → rest_read s lines i
    ≡ numbered (i + 1) (line_read s (get_or lines i d).now) (λ t. rest_read t lines (i + 1))
line_at s lines i d within =
    let e : suc i ≡ i + 1 = omega arith in
    let P : ℕ → Type 0 =
    λ k. rest_read s lines i
    ≡ numbered (i + 1) (line_read s (get_or lines i d).now)
    (λ t. lines_read (i + 1 + 1) t (words_at (drop k lines))) in
    subst P e (at_place (i + 1) s lines i d within)

-- After one more good line, the rest of the lines gives the same script or bad line.
pub one_more_line : (s t : Script) (lines : List (Bor (List ℕ))) (i : ℕ) (d : Bor (List ℕ))
    (whole : Result Script ℕ)
    → i < length lines
    → line_read s (get_or lines i d).now ≡ Some t → rest_read s lines i ≡ whole
    → rest_read t lines (i + 1) ≡ whole
one_more_line s t lines i d whole within read so_far =
    ap (λ o. numbered (i + 1) o (λ u. rest_read u lines (i + 1))) (sym read)
    ∙ sym (line_at s lines i d within) ∙ so_far

-- The first line that may not follow makes the whole text bad, with the number of this line.
pub bad_line : (s : Script) (lines : List (Bor (List ℕ))) (i : ℕ) (d : Bor (List ℕ))
    (whole : Result Script ℕ)
    → i < length lines
    → line_read s (get_or lines i d).now ≡ None → rest_read s lines i ≡ whole → whole ≡ Err (i + 1)
bad_line s lines i d whole within read so_far =
    sym so_far ∙ line_at s lines i d within
    ∙ ap (λ o. numbered (i + 1) o (λ u. rest_read u lines (i + 1))) read

-- Once no line is left, the script so far is the whole script.
pub no_more_lines : (s : Script) (lines : List (Bor (List ℕ))) (i : ℕ) (whole : Result Script ℕ)
    → length lines ≤ i → rest_read s lines i ≡ whole → whole ≡ Ok s
unfolding lines_read
no_more_lines s lines i whole past so_far =
    sym so_far ∙ ap (λ l. lines_read (i + 1) s (words_at l)) (drop_of_length-le lines past)

-- All lines of a text, read after no script, are what the text says.
pub whole_text : (lines : List (Bor (List ℕ))) (text : List ℕ)
    → words_at lines ≡ slice_split (λ b. b == 10) text
    → rest_read no_script lines 0 ≡ script_read text
whole_text lines text e = ap (lines_read 1 no_script) e ∙ text_read text
