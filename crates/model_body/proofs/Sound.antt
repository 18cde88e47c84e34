-- What is true of a desk of bodies after any events that are allowed.
use Rattle.std.proofs.Common.{◌≡◌, refl, sym, ap, ◌∙◌, subst, ℕ, ◌+◌, ◌≤◌, arith}
use Rattle.std.proofs.Common.{List}
use Rattle.std.proofs.Common.{[], ◌∷◌, ◌++◌, length, take, drop, append_assoc, append-nil, true}
use Rattle.std.proofs.Common.{false}
use Rattle.std.proofs.Common.{Bool, cond, length-drop, length-append, ◌≢◌, zero, suc}
use Rattle.std.proofs.lemmas.List.{length-replicate, take-append-drop}
use Rattle.std.proofs.lemmas.List.Sums.{sum_by-append, sum_by_push}
use Rattle.std.proofs.lemmas.Bool.{true≢false}
use Rattle.model_desk.specs.Retries.{Fate}
use Rattle.model_desk.proofs.Lists.{pushed-after, push_as}
use Rattle.model_body.specs.Histories.{BodyEvent, admitted, taken, later, settled, drained}
use Rattle.model_body.specs.Histories.{last_size, Turn, idle, is_out, again, admitted_body}
use Rattle.model_body.specs.Histories.{admitted_bodies, is_split, ended_count, ends_by, ends}
use Rattle.model_body.specs.Histories.{kept_bodies}
use Rattle.model_body.specs.Desks.{BodyConfig, BodyDesk, desk_of, after, Allowed, IsNext, memory_of}
use Rattle.model_body.specs.Desks.{body_size, new_desk, AreAllowedAfter, AreAllowed, IsDesk, Does}
use Rattle.model_body.proofs.Steps.{gather-more, gather-same, AreGone}
use Rattle.model_body.proofs.Events.{shows, is_busy, IsSound}

-- ---- one desk

some-body : (bodies : List (List ℕ)) → bodies ≢ [] → 1 ≤ length bodies
some-body [] h = absurd (h refl)
some-body (b ∷ bodies) h = omega arith

-- The next batch is one of bodies that are kept.
pub next-within : (t : Turn) (desk : BodyDesk) (n : ℕ) → desk.kept ≢ []
    → (is_busy t ≡ true → desk.size ≤ length desk.kept) → IsNext t desk n
    → n ≤ length desk.kept
next-within idle desk n some within h = go desk.alone refl
  where
    go : (k : ℕ) → desk.alone ≡ k → n ≤ length desk.kept
    go zero e = (h.fits e).there
    go (suc k) e =
        let one : n ≡ 1 = h.alone (omega (arith, e)) in
        omega (arith, one, some-body desk.kept some)
next-within is_out desk n some within h = absurd h
next-within again desk n some within h = omega (arith, h, within refl)

-- Bodies of which the first ones are dropped take no more memory.
pub memory-dropped : (n : ℕ) (bodies : List (List ℕ))
    → memory_of (take n bodies) + memory_of (drop n bodies) ≡ memory_of bodies
memory-dropped n bodies =
    sym (sum_by-append body_size (take n bodies) (drop n bodies))
    ∙ ap memory_of (take-append-drop n bodies)

sound-after : (desk : BodyDesk) (x : BodyEvent) → IsSound desk → Allowed desk x
    → IsSound (after x desk)
sound-after desk (admitted body) s a = record {
  within = λ e. omega (arith, s.within e, length-append desk.kept (body ∷ []));
  memory = omega (arith, a.memory, sum_by_push body_size desk.kept body);
}
sound-after desk (taken n) s a = record {
  within = λ e. next-within desk.turn desk n a.0 s.within a.1;
  memory = s.memory;
}
sound-after desk later s a = record {
  within = λ e. s.within (ap is_busy a);
  memory = s.memory;
}
sound-after desk (settled fate) s a = record {
  within = λ e. absurd (true≢false (sym e));
  memory =
      omega (arith, s.memory, memory-dropped (ended_count fate desk.size) desk.kept);
}
sound-after desk (drained n) s a = record {
  within = λ e. absurd (true≢false (sym e));
  memory = omega (arith, s.memory, memory-dropped n desk.kept);
}

-- ---- after any events

-- No more bodies ended than were admitted, and the desk is sound.
pub record AreSound (config : BodyConfig) (h : List BodyEvent) : Type 0 where
  pub gone : AreGone h
  pub sound : IsSound (desk_of config h)

-- A batch ends no more bodies than it has.
pub ended-few : (fate : Fate) (n : ℕ) → ended_count fate n ≤ n
ended-few fate n = go (is_split fate n)
  where
    go : (b : Bool) → cond b 0 n ≤ n
    go true = omega arith
    go false = omega arith

gone-ended : (h : List BodyEvent) (x : BodyEvent) → admitted_body x ≡ admitted_body later
    → length (ends_by h x) ≤ length (kept_bodies h) → AreGone h → AreGone (h ++ x ∷ [])
gone-ended h x e few w =
    let a : length (admitted_bodies (h ++ x ∷ [])) ≡ length (admitted_bodies h) =
    ap length (pushed-after admitted_body h x)
    ∙ ap (λ o. length (push_as o (admitted_bodies h))) e in
    omega (
      arith,
      a,
      few,
      w,
      ap length (gather-more ends_by h x),
      length-append (ends h) (ends_by h x),
      length-drop (length (ends h)) (admitted_bodies h),
    )

-- An allowed event ends no more bodies than were admitted.
pub gone-after : (config : BodyConfig) (h : List BodyEvent) (x : BodyEvent) → AreSound config h
    → Allowed (desk_of config h) x → AreGone (h ++ x ∷ [])
unfolding desk_of
gone-after config h (admitted body) s a =
    omega (
      arith,
      s.gone,
      ap length (gather-same ends_by h (admitted body) refl),
      ap length (pushed-after admitted_body h (admitted body)),
      length-append (admitted_bodies h) (body ∷ []),
    )
gone-after config h (taken n) s a = gone-ended h (taken n) refl (omega arith) s.gone
gone-after config h later s a = gone-ended h later refl (omega arith) s.gone
gone-after config h (settled fate) s a =
    gone-ended h (settled fate) refl
    (omega (
      arith,
      length-replicate (ended_count fate (last_size h)) fate,
      ended-few fate (last_size h),
      s.sound.within (ap is_busy a),
    ))
    s.gone
gone-after config h (drained n) s a =
    gone-ended h (drained n) refl (omega (arith, length-replicate n Fate.abandoned, a)) s.gone

-- An allowed event leaves a sound desk sound.
pub sound-step : (config : BodyConfig) (h : List BodyEvent) (x : BodyEvent) → AreSound config h
    → Allowed (desk_of config h) x → AreSound config (h ++ x ∷ [])
sound-step config h x s a = record {
  gone = gone-after config h x s a;
  sound =
      subst IsSound (sym (shows config h x s.gone)) (sound-after (desk_of config h) x s.sound a);
}

-- what holds before the first event, and is kept by each that is allowed
module _ (config : BodyConfig) (P : List BodyEvent → Type 0)
    (step : (h : List BodyEvent) (x : BodyEvent) → P h → Allowed (desk_of config h) x
    → P (h ++ x ∷ [])) where
  -- The same of events after others.
  pub by-steps-after : (h rest : List BodyEvent) → P h → AreAllowedAfter config h rest
      → P (h ++ rest)
  by-steps-after h [] p w = subst P (sym (append-nil h)) p
  by-steps-after h (x ∷ rest) p w =
      subst P (append_assoc h (x ∷ []) rest)
      (by-steps-after (h ++ x ∷ []) rest (step h x p w.0) w.1)

  -- A property that holds before the first event and that each allowed event keeps holds after
  -- allowed events.
  pub by-steps : (h : List BodyEvent) → P [] → AreAllowed config h → P h
  unfolding AreAllowed
  by-steps h p w = by-steps-after [] h p w

-- A new desk is sound.
pub sound-first : (config : BodyConfig) → AreSound config []
unfolding desk_of
sound-first config = record {
  gone = omega arith;
  sound = record { within = λ e. omega arith; memory = omega arith };
}

-- After allowed events a desk is sound.
pub are-sound : (config : BodyConfig) (h : List BodyEvent) → AreAllowed config h
    → AreSound config h
are-sound config h w =
    by-steps config (AreSound config) (sound-step config) h (sound-first config) w

-- ---- one more event

after-more : (config : BodyConfig) (before rest : List BodyEvent) (x : BodyEvent)
    → AreAllowedAfter config before rest → Allowed (desk_of config (before ++ rest)) x
    → AreAllowedAfter config before (rest ++ x ∷ [])
after-more config before [] x w a =
    (subst (λ b. Allowed (desk_of config b) x) (append-nil before) a, tt)
after-more config before (y ∷ rest) x w a = (
  w.0,
  after-more config (before ++ y ∷ []) rest x w.1
      (subst (λ b. Allowed (desk_of config b) x) (sym (append_assoc before (y ∷ []) rest)) a),
)

-- Allowed events followed by one that their desk allows are allowed.
pub allowed-more : (config : BodyConfig) (h : List BodyEvent) (x : BodyEvent)
    → AreAllowed config h → Allowed (desk_of config h) x → AreAllowed config (h ++ x ∷ [])
unfolding AreAllowed
allowed-more config h x w a = after-more config [] h x w a

config-after : (x : BodyEvent) (desk : BodyDesk) → (after x desk).config ≡ desk.config
config-after (admitted body) desk = refl
config-after (taken n) desk = refl
config-after later desk = refl
config-after (settled fate) desk = refl
config-after (drained n) desk = refl

-- A desk to which an allowed event is done is that of one more event.
pub does : (x : BodyEvent) (desk : BodyDesk) → Allowed desk x → Does x desk (after x desk)
does x desk a h is =
    let here : Allowed (desk_of desk.config h) x = subst (λ d. Allowed d x) is.is a in
    let s = are-sound desk.config h is.allowed in
    let same = config-after x desk in
    record {
      allowed =
          subst (λ c. AreAllowed c (h ++ x ∷ [])) (sym same)
          (allowed-more desk.config h x is.allowed here);
      is =
          ap (after x) is.is ∙ sym (shows desk.config h x s.gone)
          ∙ ap (λ c. desk_of c (h ++ x ∷ [])) (sym same);
    }

-- The same of a desk that is known to be what the event leaves.
pub follows : (x : BodyEvent) (old new : BodyDesk) → Allowed old x → new ≡ after x old
    → Does x old new
follows x old new a e = subst (λ d. Does x old d) (sym e) (does x old a)

-- A new desk is that of no event.
pub is-new : (config : BodyConfig) → IsDesk [] (new_desk config)
unfolding desk_of AreAllowed
is-new config = record { allowed = tt; is = refl }
