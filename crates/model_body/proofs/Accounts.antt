-- Bodies, and their spans, add up.
use Rattle.std.proofs.Common.{◌≡◌, refl, sym, ap, ◌∙◌, subst, ℕ, zero, suc, ◌+◌, ◌≤◌, arith, List}
use Rattle.std.proofs.Common.{[]}
use Rattle.std.proofs.Common.{◌∷◌, ◌++◌, length, take, drop, append-nil, Bool, true}
use Rattle.std.proofs.Common.{false}
use Rattle.std.proofs.Common.{cond}
use Rattle.std.specs.Prelude.{not, map, filter, flat_map, zip, replicate, count_by}
use Rattle.std.specs.List.{AllByRecursion}
use Rattle.std.proofs.lemmas.List.{map-append}
use Rattle.std.proofs.lemmas.List.Elements.{filter-append}
use Rattle.std.proofs.lemmas.List.Concat.{flat_map-append}
use Rattle.std.proofs.lemmas.List.Sums.{sum_by-append}
use Rattle.model_message.specs.Messages.{Triple}
use Rattle.model_desk.specs.Retries.{Fate}
use Rattle.model_desk.specs.Desks.{is_loss}
use Rattle.model_desk.proofs.Lists.{pushed-after}
use Rattle.model_body.specs.Histories.{BodyEvent, admitted, taken, later, settled, drained}
use Rattle.model_body.specs.Histories.{last_size, admitted_body, admitted_bodies, ended_count}
use Rattle.model_body.specs.Histories.{ends_by, ends, ended_bodies, kept_bodies, delivered_bodies}
use Rattle.model_body.specs.Histories.{joined, delivered_by, deliveries}
use Rattle.model_body.specs.Names.{IsReadable, spans_in}
use Rattle.model_body.specs.Desks.{BodyConfig, desk_of, Allowed, AreAllowed}
use Rattle.model_body.specs.Laws.{BodiesAddUp, DeliveriesAreBodies, SpansAddUp, MemoryIsBounded}
use Rattle.model_body.specs.Laws.{span_count}
use Rattle.model_body.proofs.Joined.{joined_has_spans}
use Rattle.model_body.proofs.Steps.{gather-more, gather-same, AreGone}
use Rattle.model_body.proofs.Sound.{AreSound, are-sound, by-steps, sound-first}
use Rattle.model_body.proofs.Sound.{sound-step}

-- ---- pairs

module _ {A B : Type 0} where
  -- A list is what was paired of it, and then what is left.
  zip-front : (xs : List A) (ys : List B) → length ys ≤ length xs
      → xs ≡ map (λ (e : A × B). e.0) (zip xs ys) ++ drop (length ys) xs
  zip-front xs [] h = zip-none xs
    where
      zip-none : (xs : List A) → xs ≡ map (λ (e : A × B). e.0) (zip xs []) ++ xs
      zip-none [] = refl
      zip-none (x ∷ xs) = refl
  zip-front [] (y ∷ ys) h = absurd (omega (arith, h))
  zip-front (x ∷ xs) (y ∷ ys) h = ap (λ l. x ∷ l) (zip-front xs ys (omega (arith, h)))

  -- What is paired stays so where the first list is longer.
  zip-longer : (xs zs : List A) (ys : List B) → length ys ≤ length xs
      → zip (xs ++ zs) ys ≡ zip xs ys
  zip-longer [] zs [] h = zip-none zs
    where
      zip-none : (xs : List A) → zip {X = B} xs [] ≡ []
      zip-none [] = refl
      zip-none (x ∷ xs) = refl
  zip-longer [] zs (y ∷ ys) h = absurd (omega (arith, h))
  zip-longer (x ∷ xs) zs [] h = refl
  zip-longer (x ∷ xs) zs (y ∷ ys) h = ap (λ l. (x, y) ∷ l) (zip-longer xs zs ys (omega (arith, h)))

  -- More are paired with what was left.
  zip-more : (xs : List A) (ys zs : List B) → length ys ≤ length xs
      → zip xs (ys ++ zs) ≡ zip xs ys ++ zip (drop (length ys) xs) zs
  zip-more xs [] zs h = ap (λ l. l ++ zip xs zs) (sym (zip-none xs))
    where
      zip-none : (xs : List A) → zip {X = B} xs [] ≡ []
      zip-none [] = refl
      zip-none (x ∷ xs) = refl
  zip-more [] (y ∷ ys) zs h = absurd (omega (arith, h))
  zip-more (x ∷ xs) (y ∷ ys) zs h = ap (λ l. (x, y) ∷ l) (zip-more xs ys zs (omega (arith, h)))

-- the first so many of these bodies, each with this fate
abbrev pub ended_as : Fate → ℕ → List (List ℕ) → List (List ℕ × Fate)
ended_as fate n bodies = map (λ body. (body, fate)) (take n bodies)

zip-same : (bodies : List (List ℕ)) (n : ℕ) (fate : Fate)
    → zip bodies (replicate n fate) ≡ ended_as fate n bodies
zip-same [] zero fate = refl
zip-same [] (suc n) fate = refl
zip-same (b ∷ bodies) zero fate = refl
zip-same (b ∷ bodies) (suc n) fate = ap (λ l. (b, fate) ∷ l) (zip-same bodies n fate)

-- ---- the bodies that ended, after one more event

-- The bodies that ended, after one more event.
pub ended-admitted : (h : List BodyEvent) (body : List ℕ) → AreGone h
    → ended_bodies (h ++ admitted body ∷ []) ≡ ended_bodies h
ended-admitted h body w =
    (λ i. zip (pushed-after admitted_body h (admitted body) i)
    (gather-same ends_by h (admitted body) refl i))
    ∙ zip-longer (admitted_bodies h) (body ∷ []) (ends h) w

-- The bodies that ended, after one more event.
pub ended-taken : (h : List BodyEvent) (n : ℕ)
    → ended_bodies (h ++ taken n ∷ []) ≡ ended_bodies h
ended-taken h n = λ i. zip (pushed-after admitted_body h (taken n) i)
    (gather-same ends_by h (taken n) refl i)

-- The bodies that ended, after one more event.
pub ended-later : (h : List BodyEvent) → ended_bodies (h ++ later ∷ []) ≡ ended_bodies h
ended-later h = λ i. zip (pushed-after admitted_body h later i) (gather-same ends_by h later refl i)

-- The bodies that ended, after one more event.
pub ended-settled : (h : List BodyEvent) (fate : Fate) → AreGone h
    → ended_bodies (h ++ settled fate ∷ [])
    ≡ ended_bodies h ++ ended_as fate (ended_count fate (last_size h)) (kept_bodies h)
ended-settled h fate w =
    let n = ended_count fate (last_size h) in
    (λ i. zip (pushed-after admitted_body h (settled fate) i)
    (gather-more ends_by h (settled fate) i))
    ∙ zip-more (admitted_bodies h) (ends h) (replicate n fate) w
    ∙ ap (λ l. ended_bodies h ++ l) (zip-same (kept_bodies h) n fate)

-- The bodies that ended, after one more event.
pub ended-drained : (h : List BodyEvent) (n : ℕ) → AreGone h
    → ended_bodies (h ++ drained n ∷ [])
    ≡ ended_bodies h ++ ended_as Fate.abandoned n (kept_bodies h)
ended-drained h n w =
    (λ i. zip (pushed-after admitted_body h (drained n) i)
    (gather-more ends_by h (drained n) i))
    ∙ zip-more (admitted_bodies h) (ends h) (replicate n Fate.abandoned) w
    ∙ ap (λ l. ended_bodies h ++ l) (zip-same (kept_bodies h) n Fate.abandoned)

-- ---- what was delivered

abbrev delivered_of : List (List ℕ × Fate) → List (List ℕ)
delivered_of es = map (λ e. e.0) (filter (λ e. not (is_loss e.1)) es)

delivered-append : (xs ys : List (List ℕ × Fate))
    → delivered_of (xs ++ ys) ≡ delivered_of xs ++ delivered_of ys
delivered-append xs ys =
    ap (map (λ (e : List ℕ × Fate). e.0))
    (filter-append (λ (e : List ℕ × Fate). not (is_loss e.1)) xs ys)
    ∙ map-append (λ (e : List ℕ × Fate). e.0)
    (filter (λ (e : List ℕ × Fate). not (is_loss e.1)) xs)
    (filter (λ (e : List ℕ × Fate). not (is_loss e.1)) ys)

-- Of bodies of one fate all are delivered, or none.
delivered-same : (fate : Fate) (bodies : List (List ℕ))
    → delivered_of (map (λ body. (body, fate)) bodies) ≡ cond (is_loss fate) [] bodies
delivered-same fate bodies = go (is_loss fate) refl bodies
  where
    go : (b : Bool) → is_loss fate ≡ b → (bodies : List (List ℕ))
        → delivered_of (map (λ body. (body, fate)) bodies) ≡ cond b [] bodies
    go true e [] = refl
    go false e [] = refl
    go true e (body ∷ bodies) =
        ap
        (λ b. map (λ (x : List ℕ × Fate). x.0)
        (cond (not b)
        ((body, fate) ∷ filter (λ (x : List ℕ × Fate). not (is_loss x.1))
        (map (λ (y : List ℕ). (y, fate)) bodies))
        (filter (λ (x : List ℕ × Fate). not (is_loss x.1))
        (map (λ (y : List ℕ). (y, fate)) bodies))))
        e
        ∙ go true e bodies
    go false e (body ∷ bodies) =
        ap
        (λ b. map (λ (x : List ℕ × Fate). x.0)
        (cond (not b)
        ((body, fate) ∷ filter (λ (x : List ℕ × Fate). not (is_loss x.1))
        (map (λ (y : List ℕ). (y, fate)) bodies))
        (filter (λ (x : List ℕ × Fate). not (is_loss x.1))
        (map (λ (y : List ℕ). (y, fate)) bodies))))
        e
        ∙ ap (λ l. body ∷ l) (go false e bodies)

all-drop : {A : Type 0} (P : A → Type 0) (n : ℕ) (xs : List A) → AllByRecursion P xs
    → AllByRecursion P (drop n xs)
all-drop P zero xs h = h
all-drop P (suc n) [] h = h
all-drop P (suc n) (x ∷ xs) h = all-drop P n xs h.1

all-take : {A : Type 0} (P : A → Type 0) (n : ℕ) (xs : List A) → AllByRecursion P xs
    → AllByRecursion P (take n xs)
all-take P zero xs h = tt
all-take P (suc n) [] h = h
all-take P (suc n) (x ∷ xs) h = (h.0, all-take P n xs h.1)

all-first : {A : Type 0} (P : A → Type 0) (xs ys : List A) → AllByRecursion P (xs ++ ys)
    → AllByRecursion P xs
all-first P [] ys h = tt
all-first P (x ∷ xs) ys h = (h.0, all-first P xs ys h.1)

-- What bodies have, each by itself, is what they have joined: then what the attempts have that
-- ended with a success is what the delivered bodies have.
module _ {A : Type 0} (Q : List ℕ → Type 0) (f : List ℕ → List A)
    (law : (bodies : List (List ℕ)) → AllByRecursion Q bodies
    → f (joined bodies) ≡ flat_map f bodies) where
  abbrev Same : List BodyEvent → Type 0
  Same h =
      AllByRecursion Q (admitted_bodies h)
      → flat_map f (deliveries h) ≡ flat_map f (delivered_bodies h)

  -- An event that delivers nothing.
  same-kept : (h : List BodyEvent) (x : BodyEvent) → delivered_by h x ≡ []
      → delivered_bodies (h ++ x ∷ []) ≡ delivered_bodies h
      → (AllByRecursion Q (admitted_bodies (h ++ x ∷ [])) → AllByRecursion Q (admitted_bodies h))
      → Same h → Same (h ++ x ∷ [])
  same-kept h x e d fewer k all =
      ap (flat_map f) (gather-same delivered_by h x e) ∙ k (fewer all) ∙ ap (flat_map f) (sym d)

  -- The batch that is out is delivered.
  same-more : (h : List BodyEvent) (fate : Fate)
      → delivered_by h (settled fate) ≡ joined (take (last_size h) (kept_bodies h)) ∷ []
      → delivered_bodies (h ++ settled fate ∷ [])
      ≡ delivered_bodies h ++ take (last_size h) (kept_bodies h)
      → Same h → Same (h ++ settled fate ∷ [])
  same-more h fate e d k all =
      let before : AllByRecursion Q (admitted_bodies h) =
      subst (AllByRecursion Q) (pushed-after admitted_body h (settled fate)) all in
      let batch = take (last_size h) (kept_bodies h) in
      let readable : AllByRecursion Q batch =
      all-take Q (last_size h) (kept_bodies h)
      (all-drop Q (length (ends h)) (admitted_bodies h) before) in
      ap (flat_map f)
      (gather-more delivered_by h (settled fate) ∙ ap (λ l. deliveries h ++ l) e)
      ∙ flat_map-append f (deliveries h) (joined batch ∷ [])
      ∙ (λ i. k before i ++ (append-nil (f (joined batch)) ∙ law batch readable) i)
      ∙ sym (flat_map-append f (delivered_bodies h) batch) ∙ ap (flat_map f) (sym d)

  settled-none : (h : List BodyEvent) (fate : Fate) → AreGone h → is_loss fate ≡ true
      → delivered_bodies (h ++ settled fate ∷ []) ≡ delivered_bodies h
  settled-none h fate w e =
      let n = ended_count fate (last_size h) in
      ap delivered_of (ended-settled h fate w)
      ∙ delivered-append (ended_bodies h) (ended_as fate n (kept_bodies h))
      ∙ ap (λ l. delivered_bodies h ++ l)
      (delivered-same fate (take n (kept_bodies h))
      ∙ ap (λ b. cond b [] (take n (kept_bodies h))) e)
      ∙ append-nil (delivered_bodies h)

  settled-all : (h : List BodyEvent) (fate : Fate) → AreGone h → is_loss fate ≡ false
      → ended_count fate (last_size h) ≡ last_size h
      → delivered_bodies (h ++ settled fate ∷ [])
      ≡ delivered_bodies h ++ take (last_size h) (kept_bodies h)
  settled-all h fate w e k =
      let n = ended_count fate (last_size h) in
      ap delivered_of (ended-settled h fate w)
      ∙ delivered-append (ended_bodies h) (ended_as fate n (kept_bodies h))
      ∙ ap (λ l. delivered_bodies h ++ l)
      (delivered-same fate (take n (kept_bodies h))
      ∙ ap (λ b. cond b [] (take n (kept_bodies h))) e)
      ∙ ap (λ m. delivered_bodies h ++ take m (kept_bodies h)) k

  lost-step : (h : List BodyEvent) (fate : Fate) → AreGone h → is_loss fate ≡ true
      → delivered_by h (settled fate) ≡ [] → Same h → Same (h ++ settled fate ∷ [])
  lost-step h fate w e d k =
      same-kept h (settled fate) d (settled-none h fate w e)
      (subst (AllByRecursion Q) (pushed-after admitted_body h (settled fate))) k

  taken-step : (h : List BodyEvent) (fate : Fate) → AreGone h → is_loss fate ≡ false
      → ended_count fate (last_size h) ≡ last_size h
      → delivered_by h (settled fate) ≡ joined (take (last_size h) (kept_bodies h)) ∷ []
      → Same h → Same (h ++ settled fate ∷ [])
  taken-step h fate w e c d k = same-more h fate d (settled-all h fate w e c) k

  settled-step : (h : List BodyEvent) (fate : Fate) → AreGone h → Same h
      → Same (h ++ settled fate ∷ [])
  settled-step h Fate.delivered w k = taken-step h Fate.delivered w refl refl refl k
  settled-step h (Fate.partial n) w k = taken-step h (Fate.partial n) w refl refl refl k
  settled-step h (Fate.refused s) w k = lost-step h (Fate.refused s) w refl refl k
  settled-step h Fate.bad_reply w k = lost-step h Fate.bad_reply w refl refl k
  settled-step h Fate.given_up w k = lost-step h Fate.given_up w refl refl k
  settled-step h Fate.abandoned w k = lost-step h Fate.abandoned w refl refl k

  same-step : (h : List BodyEvent) (x : BodyEvent) → AreGone h → Same h → Same (h ++ x ∷ [])
  same-step h (admitted body) w k =
      same-kept h (admitted body) refl (ap delivered_of (ended-admitted h body w))
      (λ all. all-first Q (admitted_bodies h) (body ∷ [])
      (subst (AllByRecursion Q) (pushed-after admitted_body h (admitted body)) all))
      k
  same-step h (taken n) w k =
      same-kept h (taken n) refl (ap delivered_of (ended-taken h n))
      (subst (AllByRecursion Q) (pushed-after admitted_body h (taken n))) k
  same-step h later w k =
      same-kept h later refl (ap delivered_of (ended-later h))
      (subst (AllByRecursion Q) (pushed-after admitted_body h later)) k
  same-step h (settled fate) w k = settled-step h fate w k
  same-step h (drained n) w k =
      same-kept h (drained n) refl
      (ap delivered_of (ended-drained h n w)
      ∙ delivered-append (ended_bodies h) (ended_as Fate.abandoned n (kept_bodies h))
      ∙ ap (λ l. delivered_bodies h ++ l) (delivered-same Fate.abandoned (take n (kept_bodies h)))
      ∙ append-nil (delivered_bodies h))
      (subst (AllByRecursion Q) (pushed-after admitted_body h (drained n))) k

  -- the desk is sound, and the property holds
  record Both (config : BodyConfig) (h : List BodyEvent) : Type 0 where
    sound : AreSound config h
    same : Same h

  both-step : (config : BodyConfig) (h : List BodyEvent) (x : BodyEvent) → Both config h
      → Allowed (desk_of config h) x → Both config (h ++ x ∷ [])
  both-step config h x b a = record {
    sound = sound-step config h x b.sound a;
    same = same-step h x b.sound.gone b.same;
  }

  same-always : (config : BodyConfig) (h : List BodyEvent) → AreAllowed config h → Same h
  same-always config h w =
      (by-steps config (Both config) (both-step config) h
      (record { sound = sound-first config; same = λ all. refl }) w).same

-- ---- the laws

-- The admitted bodies are those that ended and those that are kept.
pub bodies_add_up : BodiesAddUp
bodies_add_up config h w =
    zip-front (admitted_bodies h) (ends h) (are-sound config h w).gone

all-true : (bodies : List (List ℕ)) → AllByRecursion (λ body. Unit {0}) bodies
all-true [] = tt
all-true (body ∷ bodies) = (tt, all-true bodies)

-- A collector took the bytes of the delivered bodies.
pub deliveries_are_bodies : DeliveriesAreBodies
deliveries_are_bodies config h w =
    same-always (λ body. Unit {0}) (λ body. body) (λ bodies all. refl) config h w
    (all-true (admitted_bodies h))

-- Bodies take no more memory than they may.
pub memory_is_bounded : MemoryIsBounded
unfolding desk_of
memory_is_bounded config h w = (are-sound config h w).sound.memory

module _ (is_it : Triple → Bool) where
  count-append : (xs ys : List (List ℕ))
      → span_count is_it (xs ++ ys) ≡ span_count is_it xs + span_count is_it ys
  count-append xs ys =
      ap (count_by is_it) (flat_map-append spans_in xs ys)
      ∙ sum_by-append (λ (x : Triple). cond (is_it x) 1 0) (flat_map spans_in xs)
      (flat_map spans_in ys)

  -- Of bodies that ended, the spans are those of the delivered ones and those of the lost ones.
  count-ended : (es : List (List ℕ × Fate))
      → span_count is_it (map (λ e. e.0) es)
      ≡ span_count is_it (delivered_of es)
      + span_count is_it (map (λ e. e.0) (filter (λ e. is_loss e.1) es))
  count-ended [] = omega arith
  count-ended (e ∷ es) = go (is_loss e.1) (count-ended es)
    where
      go : (b : Bool)
          → span_count is_it (map (λ (x : List ℕ × Fate). x.0) es)
          ≡ span_count is_it (delivered_of es)
          + span_count is_it
          (map (λ (x : List ℕ × Fate). x.0) (filter (λ (x : List ℕ × Fate). is_loss x.1) es))
          → span_count is_it (e.0 ∷ map (λ (x : List ℕ × Fate). x.0) es)
          ≡ span_count is_it
          (map (λ (x : List ℕ × Fate). x.0)
          (cond (not b) (e ∷ filter (λ (x : List ℕ × Fate). not (is_loss x.1)) es)
          (filter (λ (x : List ℕ × Fate). not (is_loss x.1)) es)))
          + span_count is_it
          (map (λ (x : List ℕ × Fate). x.0)
          (cond b (e ∷ filter (λ (x : List ℕ × Fate). is_loss x.1) es)
          (filter (λ (x : List ℕ × Fate). is_loss x.1) es)))
      go true k =
          omega (
            arith,
            count-append (e.0 ∷ []) (map (λ (x : List ℕ × Fate). x.0) es),
            count-append (e.0 ∷ [])
                (map (λ (x : List ℕ × Fate). x.0)
                (filter (λ (x : List ℕ × Fate). is_loss x.1) es)),
            k,
          )
      go false k =
          omega (
            arith,
            count-append (e.0 ∷ []) (map (λ (x : List ℕ × Fate). x.0) es),
            count-append (e.0 ∷ []) (delivered_of es),
            k,
          )

-- The spans of admitted bodies are those delivered, kept and lost.
pub spans_add_up : SpansAddUp
spans_add_up config h w is_it readable =
    let kept = kept_bodies h in
    let es = ended_bodies h in
    let all = ap (span_count is_it) (bodies_add_up config h w)
    ∙ count-append is_it (map (λ (e : List ℕ × Fate). e.0) es) kept in
    let taken : span_count is_it (deliveries h) ≡ span_count is_it (delivered_bodies h) =
    ap (count_by is_it)
    (same-always IsReadable spans_in (λ bodies r. (joined_has_spans bodies r).1) config h w
    readable) in
    omega (arith, all, taken, count-ended is_it es)
