-- The names of lost spans, and what a refusal ends.
use Rattle.std.proofs.Common.{◌≡◌, refl, sym, ap, ◌∙◌, subst, ℕ, ◌-◌, ◌<◌, arith, List, []}
use Rattle.std.proofs.Common.{◌∷◌, ◌++◌}
use Rattle.std.proofs.Common.{length, take, drop, Bool, true, false, cond}
use Rattle.std.specs.Prelude.{map, filter, flat_map, nat_lt, replicate}
use Rattle.std.proofs.lemmas.List.{length-replicate}
use Rattle.std.proofs.lemmas.List.Elements.{filter-append}
use Rattle.std.proofs.lemmas.List.Concat.{flat_map-append}
use Rattle.std.proofs.lemmas.Bool.{lt-ltb, ltb-false}
use Rattle.model_desk.specs.Retries.{Fate}
use Rattle.model_desk.specs.Desks.{is_loss}
use Rattle.model_body.specs.Histories.{BodyEvent, admitted, taken, later, settled, drained}
use Rattle.model_body.specs.Histories.{last_size, ended_count, ended_bodies, kept_bodies, losses}
use Rattle.model_body.specs.Histories.{alone_count, losses_by}
use Rattle.model_body.specs.Names.{LostSpan, lost_names, names_in}
use Rattle.model_body.specs.Desks.{BodyConfig, desk_of, Allowed}
use Rattle.model_body.specs.Laws.{LossesAreNamed, LostAlone, RefusedAreKept}
use Rattle.model_body.proofs.Steps.{gather-more, gather-same, AreGone, kept-ended}
use Rattle.model_body.proofs.Events.{alone-settled}
use Rattle.model_body.proofs.Sound.{AreSound, by-steps, sound-first, sound-step}
use Rattle.model_body.proofs.Accounts.{ended-admitted, ended-drained, ended-later, ended-settled}
use Rattle.model_body.proofs.Accounts.{ended-taken, ended_as}

abbrev names_of : List (List ℕ × Fate) → List LostSpan
names_of es = flat_map (λ e. names_in e.1 e.0) (filter (λ e. is_loss e.1) es)

names-append : (xs ys : List (List ℕ × Fate)) → names_of (xs ++ ys) ≡ names_of xs ++ names_of ys
names-append xs ys =
    ap (flat_map (λ (e : List ℕ × Fate). names_in e.1 e.0))
    (filter-append (λ (e : List ℕ × Fate). is_loss e.1) xs ys)
    ∙ flat_map-append (λ (e : List ℕ × Fate). names_in e.1 e.0)
    (filter (λ (e : List ℕ × Fate). is_loss e.1) xs)
    (filter (λ (e : List ℕ × Fate). is_loss e.1) ys)

-- The names of bodies of one fate.
names-same : (fate : Fate) (bodies : List (List ℕ))
    → names_of (map (λ body. (body, fate)) bodies) ≡ lost_names fate bodies
names-same fate bodies = go (is_loss fate) refl bodies
  where
    go : (b : Bool) → is_loss fate ≡ b → (bodies : List (List ℕ))
        → names_of (map (λ body. (body, fate)) bodies)
        ≡ cond b (flat_map (names_in fate) bodies) []
    go true e [] = refl
    go false e [] = refl
    go true e (body ∷ bodies) =
        ap
        (λ b. flat_map (λ (x : List ℕ × Fate). names_in x.1 x.0)
        (cond b
        ((body, fate) ∷ filter (λ (x : List ℕ × Fate). is_loss x.1)
        (map (λ (y : List ℕ). (y, fate)) bodies))
        (filter (λ (x : List ℕ × Fate). is_loss x.1) (map (λ (y : List ℕ). (y, fate)) bodies))))
        e
        ∙ ap (λ l. names_in fate body ++ l) (go true e bodies)
    go false e (body ∷ bodies) =
        ap
        (λ b. flat_map (λ (x : List ℕ × Fate). names_in x.1 x.0)
        (cond b
        ((body, fate) ∷ filter (λ (x : List ℕ × Fate). is_loss x.1)
        (map (λ (y : List ℕ). (y, fate)) bodies))
        (filter (λ (x : List ℕ × Fate). is_loss x.1) (map (λ (y : List ℕ). (y, fate)) bodies))))
        e
        ∙ go false e bodies

abbrev AreNamed : List BodyEvent → Type 0
AreNamed h = losses h ≡ names_of (ended_bodies h)

named-same : (h : List BodyEvent) (x : BodyEvent) → losses_by h x ≡ []
    → ended_bodies (h ++ x ∷ []) ≡ ended_bodies h → AreNamed h → AreNamed (h ++ x ∷ [])
named-same h x e d k = gather-same losses_by h x e ∙ k ∙ ap names_of (sym d)

named-more : (h : List BodyEvent) (x : BodyEvent) (fate : Fate) (n : ℕ)
    → losses_by h x ≡ lost_names fate (take n (kept_bodies h))
    → ended_bodies (h ++ x ∷ []) ≡ ended_bodies h ++ ended_as fate n (kept_bodies h)
    → AreNamed h → AreNamed (h ++ x ∷ [])
named-more h x fate n e d k =
    gather-more losses_by h x
    ∙ (λ i. k i ++ (e ∙ sym (names-same fate (take n (kept_bodies h)))) i)
    ∙ sym (names-append (ended_bodies h) (ended_as fate n (kept_bodies h)))
    ∙ ap names_of (sym d)

named-step : (h : List BodyEvent) (x : BodyEvent) → AreGone h → AreNamed h → AreNamed (h ++ x ∷ [])
named-step h (admitted body) w k =
    named-same h (admitted body) refl (ended-admitted h body w) k
named-step h (taken n) w k = named-same h (taken n) refl (ended-taken h n) k
named-step h later w k = named-same h later refl (ended-later h) k
named-step h (settled fate) w k =
    named-more h (settled fate) fate (ended_count fate (last_size h)) refl
    (ended-settled h fate w) k
named-step h (drained n) w k =
    named-more h (drained n) Fate.abandoned n refl (ended-drained h n w) k

record Both (config : BodyConfig) (h : List BodyEvent) : Type 0 where
  sound : AreSound config h
  named : AreNamed h

both-step : (config : BodyConfig) (h : List BodyEvent) (x : BodyEvent) → Both config h
    → Allowed (desk_of config h) x → Both config (h ++ x ∷ [])
both-step config h x b a = record {
  sound = sound-step config h x b.sound a;
  named = named-step h x b.sound.gone b.named;
}

-- The names that were given are those of lost bodies.
pub losses_are_named : LossesAreNamed
losses_are_named config h w =
    (by-steps config (Both config) (both-step config) h
    (record { sound = sound-first config; named = refl }) w).named

-- ---- refusals

-- A body that a refusal ends was alone.
pub lost_alone : LostAlone
lost_alone h status some =
    go (nat_lt 1 (last_size h)) refl
    (subst (λ k. 0 < k)
    (length-replicate (cond (nat_lt 1 (last_size h)) 0 (last_size h)) (Fate.refused status)) some)
  where
    go : (b : Bool) → nat_lt 1 (last_size h) ≡ b → 0 < cond b 0 (last_size h) → last_size h ≡ 1
    go true e k = absurd (omega (arith, k))
    go false e k = omega (arith, k, ltb-false 1 (last_size h) e)

-- The bodies of a batch that was refused are kept.
pub refused_are_kept : RefusedAreKept
refused_are_kept h status many =
    let fate = Fate.refused status in
    let split : nat_lt 1 (last_size h) ≡ true = lt-ltb 1 (last_size h) many in (
      kept-ended h (settled fate) refl
          ∙ ap (λ b. drop (length (replicate (cond b 0 (last_size h)) fate)) (kept_bodies h)) split,
      alone-settled h fate
          ∙ ap (λ b. cond b (last_size h) (alone_count h - last_size h)) split,
    )
