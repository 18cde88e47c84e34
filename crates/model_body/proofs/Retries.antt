-- A batch that is sent again.
use Rattle.std.proofs.Common.{◌≡◌, refl, sym, ap, ◌∙◌, subst, ℕ, ◌≤◌, List, [], ◌∷◌, ◌++◌}
use Rattle.std.proofs.Common.{length, take, append_assoc, append-nil}
use Rattle.std.proofs.lemmas.List.{take-append-le}
use Rattle.model_body.specs.Histories.{BodyEvent, admitted, taken, later, Turn, again, turn}
use Rattle.model_body.specs.Histories.{last_size, kept_bodies, joined}
use Rattle.model_body.specs.Desks.{BodyConfig, BodyDesk, desk_of, AreAllowedAfter}
use Rattle.model_body.specs.Desks.{AreAllowed, IsNext}
use Rattle.model_body.specs.Laws.{AreAdmissions, RetryRepeats}
use Rattle.model_body.proofs.Steps.{AreGone, kept-admitted, kept-ended, turn-after, size-after}
use Rattle.model_body.proofs.Sound.{AreSound, sound-first, sound-step, next-within, by-steps-after}

-- Allowed events are some, and then others.
first-allowed : (config : BodyConfig) (h xs ys : List BodyEvent)
    → AreAllowedAfter config h (xs ++ ys) → AreAllowedAfter config h xs
first-allowed config h [] ys w = tt
first-allowed config h (x ∷ xs) ys w = (w.0, first-allowed config (h ++ x ∷ []) xs ys w.1)

others-allowed : (config : BodyConfig) (h xs ys : List BodyEvent)
    → AreAllowedAfter config h (xs ++ ys) → AreAllowedAfter config (h ++ xs) ys
others-allowed config h [] ys w =
    subst (λ b. AreAllowedAfter config b ys) (sym (append-nil h)) w
others-allowed config h (x ∷ xs) ys w =
    subst (λ b. AreAllowedAfter config b ys) (append_assoc h (x ∷ []) xs)
    (others-allowed config (h ++ x ∷ []) xs ys w.1)

-- More bodies are kept after the others, and the last batch is where it was.
record Grew (old new : List BodyEvent) : Type 0 where
  turn_same : turn new ≡ turn old
  size_same : last_size new ≡ last_size old
  more : List (List ℕ)
  kept : kept_bodies new ≡ kept_bodies old ++ more

grew-none : (h : List BodyEvent) → Grew h h
grew-none h = record {
  turn_same = refl;
  size_same = refl;
  more = [];
  kept = sym (append-nil (kept_bodies h));
}

grew-more : (h : List BodyEvent) (body : List ℕ) (new : List BodyEvent) → AreGone h
    → Grew (h ++ admitted body ∷ []) new → Grew h new
grew-more h body new w g = record {
  turn_same = g.turn_same ∙ turn-after h (admitted body);
  size_same = g.size_same ∙ size-after h (admitted body);
  more = body ∷ g.more;
  kept =
      g.kept ∙ ap (λ l. l ++ g.more) (kept-admitted h body w)
      ∙ append_assoc (kept_bodies h) (body ∷ []) g.more;
}

grows : (config : BodyConfig) (h more : List BodyEvent) → AreAdmissions more → AreSound config h
    → AreAllowedAfter config h more → Grew h (h ++ more)
grows config h [] a s w = subst (Grew h) (sym (append-nil h)) (grew-none h)
grows config h (x ∷ more) a s w =
    let body = a.0.0 in
    let x-is : x ≡ admitted body = a.0.1 in
    let t = sound-step config h x s w.0 in
    let g : Grew (h ++ x ∷ []) (h ++ x ∷ more) =
    subst (Grew (h ++ x ∷ [])) (append_assoc h (x ∷ []) more)
    (grows config (h ++ x ∷ []) more a.1 t w.1) in
    grew-more h body (h ++ x ∷ more) s.gone
    (subst (λ y. Grew (h ++ y ∷ []) (h ++ x ∷ more)) x-is g)

same-turn : (t u : Turn) (desk : BodyDesk) (m : ℕ) → t ≡ u → IsNext t desk m → IsNext u desk m
same-turn t u desk m e h = subst (λ v. IsNext v desk m) e h

-- A batch that is sent again has the bytes that it had.
pub retry_repeats : RetryRepeats
unfolding AreAllowed desk_of
retry_repeats config events more n m a w =
    let sent = events ++ taken n ∷ [] in
    let waits = sent ++ later ∷ [] in
    let before = events ++ taken n ∷ later ∷ more in
    let w-before = first-allowed config [] before (taken m ∷ []) w in
    let at-end = (others-allowed config [] before (taken m ∷ []) w).0 in
    let w-events = first-allowed config [] events (taken n ∷ later ∷ more) w-before in
    let w-rest = others-allowed config [] events (taken n ∷ later ∷ more) w-before in
    let s0 : AreSound config events =
    by-steps-after config (AreSound config) (sound-step config) [] events (sound-first config)
    w-events in
    let s1 = sound-step config events (taken n) s0 w-rest.0 in
    let s2 = sound-step config sent later s1 w-rest.1.0 in
    let g : Grew waits (waits ++ more) = grows config waits more a s2 w-rest.1.1 in
    let same : waits ++ more ≡ before =
    append_assoc sent (later ∷ []) more ∙ append_assoc events (taken n ∷ []) (later ∷ more) in
    let g2 = subst (Grew waits) same g in
    let is-again : turn before ≡ again = g2.turn_same ∙ turn-after sent later in
    let size : last_size before ≡ n =
    g2.size_same ∙ size-after sent later ∙ size-after events (taken n) in
    let kept : kept_bodies before ≡ kept_bodies events ++ g2.more =
    g2.kept
    ∙ ap (λ l. l ++ g2.more)
    (kept-ended sent later refl ∙ kept-ended events (taken n) refl) in
    let next : m ≡ last_size before =
    same-turn (turn before) again (desk_of config before) m is-again at-end.1 in
    let fits : n ≤ length (kept_bodies events) =
    next-within (turn events) (desk_of config events) n w-rest.0.0 s0.sound.within w-rest.0.1 in
    ap (λ l. joined l ∷ [])
    ((λ i. take ((next ∙ size) i) (kept i)) ∙ take-append-le n (kept_bodies events) g2.more fits)
