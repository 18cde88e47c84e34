-- What holds of every script that is read.
use Rattle.std.proofs.Common.{◌≡◌, ℕ, suc, ◌+◌, ◌-◌, ◌<◌, List, [], ◌∷◌, length, get_or, Option}
use Rattle.std.proofs.Common.{Some, None, Result, Ok, Err, ◌⊎◌, inl, inr, refl, sym, ◌∙◌, subst}
use Rattle.std.proofs.Common.{arith}
use Rattle.std.specs.Prelude.{unwrap_or}
use Rattle.std.specs.Option.{IfSome}
use Rattle.std.proofs.lemmas.Option.{cond_some}
use Rattle.model_desk.specs.Desks.{DeskConfig}
use Rattle.span_ring.specs.SpanRing.{IsRingSize}
use Rattle.batch_desk.specs.Desk.{default_config}
use Rattle.text_words.specs.Words.{◌>>=◌}
use Rattle.trace_script.specs.Lines.{Line, words, sampler, limits, desk, max_body, resource, scope}
use Rattle.trace_script.specs.Lines.{scope_attribute, outcome, step, line_of}
use Rattle.trace_script.specs.Scripts.{Script, lines_of, script_read, IsLine}
use Rattle.trace_script.specs.Drafts.{no_script, fits, extended_script, with_line, line_read}
use Rattle.trace_script.proofs.Sizes.{IsSized, IsSizedLine, sized_line}
use Rattle.trace_script.proofs.Together.{lines_read, numbered, text_read}
use Rattle.trace_script.specs.Parsed.{Means}
use Rattle.trace_script.specs.declared.parse.Script.{Script as CodeScript}

-- ---- one line

-- the sizes are some that a queue may have, where any are set
abbrev IsKept : Script → Type 0
IsKept s = IfSome s.desk IsSized

fitting : (s : Script) (line : Line) → IsKept s → IsSizedLine line → IsKept (extended_script s line)
fitting s (words ws) kept sized = kept
fitting s (sampler name) kept sized = kept
fitting s (limits l) kept sized = kept
fitting s (desk c) kept sized = sized
fitting s (max_body n) kept sized = kept
fitting s (resource x) kept sized = kept
fitting s (scope number x) kept sized = kept
fitting s (scope_attribute number p) kept sized = kept
fitting s (outcome o) kept sized = kept
fitting s (step x) kept sized = kept

with_line_kept : (s t : Script) (line : Line) → IsKept s → IsSizedLine line
    → with_line s line ≡ Some t → IsKept t
unfolding with_line
with_line_kept s t line kept sized e =
    let p = cond_some (fits s line) (extended_script s line) t e in
    subst IsKept p.1 (fitting s line kept sized)

line_kept : (s t : Script) (o : Option Line) → IsKept s → IfSome o IsSizedLine
    → (o >>= λ line. with_line s line) ≡ Some t → IsKept t
line_kept s t None kept sized e = cc
line_kept s t (Some line) kept sized e = with_line_kept s t line kept sized e

read_kept : (s t : Script) (line : List ℕ) → IsKept s → line_read s line ≡ Some t → IsKept t
unfolding line_read
read_kept s t [] kept e = let same : s ≡ t = cc in subst IsKept same kept
read_kept s t (b ∷ bs) kept e = line_kept s t (line_of (b ∷ bs)) kept (sized_line (b ∷ bs)) e

-- ---- all lines

numbered_ok : (n : ℕ) (o : Option Script) (next : Script → Result Script ℕ) (t : Script)
    → numbered n o next ≡ Ok t → (s : Script) × (o ≡ Some s) × (next s ≡ Ok t)
numbered_ok n None next t e = cc
numbered_ok n (Some s) next t e = (s, refl, e)

lines_kept : (n : ℕ) (s t : Script) (lines : List (List ℕ)) → IsKept s → lines_read n s lines ≡ Ok t
    → IsKept t
unfolding lines_read
lines_kept n s t [] kept e = let same : s ≡ t = cc in subst IsKept same kept
lines_kept n s t (line ∷ lines) kept e =
    let p = numbered_ok n (line_read s line) (λ u. lines_read (n + 1) u lines) t e in
    lines_kept (n + 1) p.0 t lines (read_kept s p.0 line kept p.1) p.2

text_kept : (s : Script) (text : List ℕ) → script_read text ≡ Ok s → IsKept s
text_kept s text e = lines_kept 1 no_script s (lines_of text) tt (text_read text ∙ e)

or_standard : (o : Option DeskConfig) → IfSome o IsSized → IsSized (unwrap_or o default_config)
or_standard None sized =
    record { positive = omega arith; fits = omega arith; limited = omega arith }
or_standard (Some c) sized = sized

-- The queue and batch sizes of a script that is read are sizes that a queue may have.
pub sizes : {A : Type 0} (c : CodeScript A) (s : Script) (text : List ℕ) → Means c s
    → script_read text ≡ Ok s → IsRingSize c.desk.queue c.desk.batch
sizes c s text means e = subst IsSized (sym means.desk) (or_standard s.desk (text_kept s text e))

numbered_err : (n m : ℕ) (o : Option Script) (next : Script → Result Script ℕ)
    → numbered n o next ≡ Err m
    → ((o ≡ None) × (n ≡ m)) ⊎ ((s : Script) × (next s ≡ Err m))
numbered_err n m None next e = inl (refl, cc)
numbered_err n m (Some s) next e = inr (s, e)

some_bytes : (s : Script) (line : List ℕ) → line_read s line ≡ None → 0 < length line
unfolding line_read
some_bytes s [] e = cc
some_bytes s (b ∷ bs) e = omega arith

-- the place of the bad line, from that of the first on
bad_place : (n m : ℕ) (s : Script) (lines : List (List ℕ)) → lines_read n s lines ≡ Err m
    → (k : ℕ) × (m ≡ n + k) × (k < length lines) × (0 < length (get_or lines k []))
unfolding lines_read
bad_place n m s [] e = cc
bad_place n m s (line ∷ lines) e =
    elim (numbered_err n m (line_read s line) (λ u. lines_read (n + 1) u lines) e) [
      | inl here ↦ (0, omega (arith, here.1), omega arith, some_bytes s line here.0)
      | inr later ↦
          let p = bad_place (n + 1) m later.0 lines later.1 in
          (suc p.0, omega (arith, p.1), omega (arith, p.2), p.3)
    ]

-- The number of the bad line in a refused text is that of a line of the text, which isn't empty.
pub bad_line_is : (text : List ℕ) (m : ℕ) → script_read text ≡ Err m → IsLine text m
bad_line_is text m e =
    let p = bad_place 1 m no_script (lines_of text) (text_read text ∙ e) in
    let place : m - 1 ≡ p.0 = omega (arith, p.1) in
    record { from_one = omega (arith, p.1); there = omega (arith, p.1, p.2); some = rw place p.3 }
