-- Which bytes name no step.
use Rattle.std.proofs.Common.{◌≡◌, ℕ, ◌^◌, false, true, List, [], ◌∷◌, Option, Some, None, inl, inr}
use Rattle.std.proofs.Common.{refl, sym, ap, subst, codes}
use Rattle.std.specs.Prelude.{bytes_eq}
use Rattle.std.specs.Str.{IsUtf8, is_utf8, chars}
use lib.Utf8.{encode}
use Rattle.std.proofs.lemmas.Bool.{cases_Bool}
use Rattle.std.proofs.lemmas.Slice.Eq.{bytes_eq-Decides}
use Rattle.std.proofs.lemmas.Str.{IsUtf8-from_is_utf8}
use Rattle.model_run.specs.Steps.{call}
use Rattle.text_words.specs.Words.{◌>>=◌, number_below}
use Rattle.trace_script.specs.Calls.{call_of}
use Rattle.trace_script.specs.Steps.{call_step, call_step_of, step_on_span, step_of}

-- Bytes that aren't UTF-8 differ from every keyword that is.
pub other_than : (name keyword : List ℕ) → (IsUtf8 name → ⊥) → is_utf8 keyword ≡ true
    → bytes_eq name keyword ≡ false
other_than name keyword h text = elim (cases_Bool (bytes_eq name keyword)) [
  | inl e ↦
      absurd (h (subst IsUtf8 (sym ((bytes_eq-Decides name keyword).0 e))
      (IsUtf8-from_is_utf8 keyword text)))
  | inr e ↦ e
]

-- bytes that are no text name no call
no_call : (name : List ℕ) (others : List (List ℕ)) → (IsUtf8 name → ⊥) → call_of name others ≡ None
unfolding call_of is_utf8 chars encode
no_call name others h =
    rw (
      other_than name (codes "attr") h refl,
      other_than name (codes "event") h refl,
      other_than name (codes "exception") h refl,
      other_than name (codes "link") h refl,
      other_than name (codes "status") h refl,
      other_than name (codes "name") h refl,
    )
    refl

nothing_after : {X Y Z : Type 0} (o : Option X) (f : X → Y → Option Z) (p : Option Y) → p ≡ None
    → (o >>= λ x. p >>= f x) ≡ None
nothing_after None f p e = refl
nothing_after (Some x) f p e = ap (λ q. q >>= f x) e

no_call_step : (name : List ℕ) (words : List (List ℕ)) → (IsUtf8 name → ⊥)
    → call_step name words ≡ None
unfolding call_step call_step_of
no_call_step name [] h = refl
no_call_step name (span ∷ others) h =
    nothing_after (number_below (2 ^ 32) span) (λ n c. Some (call n c)) (call_of name others)
    (no_call name others h)

no_step_on_span : (name : List ℕ) (words : List (List ℕ)) → (IsUtf8 name → ⊥)
    → step_on_span name words ≡ None
unfolding step_on_span is_utf8 chars encode
no_step_on_span name words h =
    rw (
      other_than name (codes "start") h refl,
      other_than name (codes "end") h refl,
    )
    (no_call_step name words h)

-- Bytes that aren't UTF-8 name no step.
pub no_step : (name : List ℕ) (words : List (List ℕ)) → (IsUtf8 name → ⊥)
    → step_of name words ≡ None
unfolding step_of is_utf8 chars encode
no_step name words h =
    rw (
      other_than name (codes "flush") h refl,
      other_than name (codes "shutdown") h refl,
      other_than name (codes "take") h refl,
      other_than name (codes "encode") h refl,
      other_than name (codes "attempt") h refl,
      other_than name (codes "reply") h refl,
    )
    (no_step_on_span name words h)
