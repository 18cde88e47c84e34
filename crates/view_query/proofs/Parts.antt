-- Parts of texts, and terms one after another.
use Rattle.std.proofs.Common.{◌≡◌, sym, ap, ◌∙◌, refl, ℕ, ◌+◌, ◌<◌, Bool, false, List, [], ◌∷◌}
use Rattle.std.proofs.Common.{◌-◌, drop, take, length, length-drop, map, arith}
use Rattle.std.proofs.Math.Seq.{take-length}
use Rattle.std.specs.Prelude.{◌&&◌, ◌||◌}
use Rattle.std.specs.List.{list_all}
use Rattle.std.proofs.lemmas.List.{drop-drop}
use Rattle.trace_store.specs.declared.span.ViewSpan.{ViewSpan}
use Rattle.view_query.specs.Matching.{contains, holds, is_front}
use Rattle.view_query.specs.Terms.{term_view}
use Rattle.view_query.specs.declared.term.Term.{Term}

-- what is left of a list from a place on has no more elements than it has
pub rest_of : (at : ℕ) (l : List ℕ) → take (length l - at) (drop at l) ≡ drop at l
rest_of at l =
    let count : length l - at ≡ length (drop at l) = omega (arith, length-drop at l) in
    ap (λ n. take n (drop at l)) count ∙ take-length (drop at l)

-- a part that isn't at the front comes later, if at all
contains_later : (part l : List ℕ) → 0 < length l → is_front part l ≡ false
    → contains part (drop 1 l) ≡ contains part l
contains_later part [] some none = absurd (omega arith)
contains_later part (c ∷ cs) some none = sym (ap (λ b. b || contains part cs) none)

-- the same at a place of a text
pub part_later : (part text : List ℕ) (at : ℕ) → at < length text
    → is_front part (drop at text) ≡ false
    → contains part (drop (at + 1) text) ≡ contains part (drop at text)
part_later part text at within none =
    let some : 0 < length (drop at text) = omega (arith, length-drop at text) in
    ap (contains part) (sym (drop-drop 1 at text)) ∙ contains_later part (drop at text) some none

-- a span fulfils all terms, wherever their texts are
pub all_of_map : {A : Type 0} (terms : List (Term A)) (s : ViewSpan A)
    → list_all (λ t. holds t s) (map term_view terms)
    ≡ list_all (λ t. holds (term_view t) s) terms
all_of_map [] s = refl
all_of_map (t ∷ ts) s = ap (λ b. holds (term_view t) s && b) (all_of_map ts s)
