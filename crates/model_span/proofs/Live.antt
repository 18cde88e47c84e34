-- Calls before the first end.
use Rattle.std.proofs.Common.{◌≡◌, refl, ap, ◌∙◌, List, [], ◌∷◌, Bool, true, false, not, ◌||◌}
use Rattle.std.specs.List.{list_any}
use Rattle.std.proofs.lemmas.List.Sums.{take_while-cons}
use Rattle.model_span.specs.Spans.{Call, is_end, live_calls}

-- Calls of which none is an end all count.
pub all-live : (calls : List Call) → list_any is_end calls ≡ false → live_calls calls ≡ calls
all-live [] h = refl
all-live (c ∷ calls) h = by (all-live calls) (is_end c) refl h
  where
    by : (list_any is_end calls ≡ false → live_calls calls ≡ calls) → (b : Bool) → is_end c ≡ b
        → (b || list_any is_end calls) ≡ false → live_calls (c ∷ calls) ≡ c ∷ calls
    by rest true e k = cc
    by rest false e k =
        take_while-cons (λ d. not (is_end d)) c calls ∙ rw e (ap (λ l. c ∷ l) (rest k))
