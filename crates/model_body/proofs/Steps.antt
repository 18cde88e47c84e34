-- One more event: what a desk of bodies then shows.
use Rattle.std.proofs.Common.{◌≡◌, refl, sym, ap, ◌∙◌, ℕ, ◌+◌, ◌-◌, ◌*◌, ◌≤◌}
use Rattle.std.proofs.Common.{arith, List, [], ◌∷◌, ◌++◌, length, drop, append_assoc}
use Rattle.std.proofs.Common.{Bool}
use Rattle.std.proofs.Common.{true, false, cond, None, length-append, append-nil}
use Rattle.std.specs.Prelude.{replicate, count_by, unwrap_or}
use Rattle.std.proofs.lemmas.List.{drop-append-le, drop-drop}
use Rattle.std.proofs.lemmas.List.Folds.{sum_by-replicate}
use Rattle.std.proofs.lemmas.List.Sums.{sum_by-append}
use Rattle.model_span.specs.Attributes.{last_or}
use Rattle.model_desk.specs.Retries.{Fate}
use Rattle.model_desk.proofs.Lists.{last-after, pushed-after, push_as}
use Rattle.model_body.specs.Histories.{BodyEvent, admitted, gather}
use Rattle.model_body.specs.Histories.{size_of_take, last_size, idle, turn_by}
use Rattle.model_body.specs.Histories.{turn, admitted_body, admitted_bodies}
use Rattle.model_body.specs.Histories.{ends_by, ends, kept_bodies, splits_by}
use Rattle.model_body.specs.Histories.{alone_count}

-- ---- what is gathered

gather-append : {A : Type 0} (f : List BodyEvent → BodyEvent → List A)
    (before xs ys : List BodyEvent)
    → gather f before (xs ++ ys) ≡ gather f before xs ++ gather f (before ++ xs) ys
gather-append f before [] ys = ap (λ b. gather f b ys) (sym (append-nil before))
gather-append f before (x ∷ xs) ys =
    ap (λ l. f before x ++ l) (gather-append f (before ++ x ∷ []) xs ys)
    ∙ sym (append_assoc (f before x) (gather f (before ++ x ∷ []) xs)
    (gather f ((before ++ x ∷ []) ++ xs) ys))
    ∙ ap (λ b. f before x ++ gather f (before ++ x ∷ []) xs ++ gather f b ys)
    (append_assoc before (x ∷ []) xs)

-- One more event adds to what is gathered what it adds after the events before it.
pub gather-more : {A : Type 0} (f : List BodyEvent → BodyEvent → List A) (xs : List BodyEvent)
    (x : BodyEvent)
    → gather f [] (xs ++ x ∷ []) ≡ gather f [] xs ++ f xs x
gather-more f xs x =
    gather-append f [] xs (x ∷ []) ∙ ap (λ l. gather f [] xs ++ l) (append-nil (f xs x))

-- An event that adds nothing leaves what is gathered as it was.
pub gather-same : {A : Type 0} (f : List BodyEvent → BodyEvent → List A) (xs : List BodyEvent)
    (x : BodyEvent) → f xs x ≡ [] → gather f [] (xs ++ x ∷ []) ≡ gather f [] xs
gather-same f xs x e =
    gather-more f xs x ∙ ap (λ l. gather f [] xs ++ l) e ∙ append-nil (gather f [] xs)

-- ---- what an event leaves

-- No more bodies ended than were admitted.
abbrev pub AreGone : List BodyEvent → Type 0
AreGone h = length (ends h) ≤ length (admitted_bodies h)

-- The bodies that are kept after one more event: those before it without as many as end, where it
-- admits none.
pub kept-ended : (h : List BodyEvent) (x : BodyEvent) → admitted_body x ≡ None
    → kept_bodies (h ++ x ∷ []) ≡ drop (length (ends_by h x)) (kept_bodies h)
kept-ended h x e =
    (λ i. drop (length (gather-more ends_by h x i)) (pushed-after admitted_body h x i))
    ∙ ap (λ o. drop (length (ends h ++ ends_by h x)) (push_as o (admitted_bodies h))) e
    ∙ ap (λ n. drop n (admitted_bodies h)) (length-append (ends h) (ends_by h x))
    ∙ sym (drop-drop (length (ends_by h x)) (length (ends h)) (admitted_bodies h))

-- A body that is admitted is kept after the others.
pub kept-admitted : (h : List BodyEvent) (body : List ℕ) → AreGone h
    → kept_bodies (h ++ admitted body ∷ []) ≡ kept_bodies h ++ body ∷ []
kept-admitted h body w =
    (λ i. drop (length (gather-same ends_by h (admitted body) refl i))
    (pushed-after admitted_body h (admitted body) i))
    ∙ drop-append-le (length (ends h)) (admitted_bodies h) (body ∷ []) w

-- Where the last batch is, after one more event.
pub turn-after : (h : List BodyEvent) (x : BodyEvent)
    → turn (h ++ x ∷ []) ≡ unwrap_or (turn_by x) (turn h)
turn-after h x = last-after turn_by h x idle

-- How many bodies the last batch has, after one more event.
pub size-after : (h : List BodyEvent) (x : BodyEvent)
    → last_size (h ++ x ∷ []) ≡ unwrap_or (size_of_take x) (last_size h)
size-after h x = last-after size_of_take h x 0

-- An event that ends no body, and splits no batch, leaves it as it was how many are sent alone.
pub alone-same : (h : List BodyEvent) (x : BodyEvent) → ends_by h x ≡ [] → splits_by h x ≡ []
    → alone_count (h ++ x ∷ []) ≡ alone_count h
alone-same h x e s =
    (λ i. last_or 0 (gather-same splits_by h x s i) - length (gather-same ends_by h x e i))

-- One more event adds its ends to those that pass a test.
pub count-ends : (p : Fate → Bool) (h : List BodyEvent) (x : BodyEvent)
    → count_by p (ends (h ++ x ∷ [])) ≡ count_by p (ends h) + count_by p (ends_by h x)
count-ends p h x =
    ap (count_by p) (gather-more ends_by h x)
    ∙ sum_by-append (λ (f : Fate). cond (p f) 1 0) (ends h) (ends_by h x)

-- How many of the same fate pass a test.
pub count-same : (p : Fate → Bool) (n : ℕ) (fate : Fate)
    → count_by p (replicate n fate) ≡ cond (p fate) n 0
count-same p n fate = sum_by-replicate (λ (f : Fate). cond (p f) 1 0) n fate ∙ go (p fate)
  where
    go : (b : Bool) → n * cond b 1 0 ≡ cond b n 0
    go true = omega arith
    go false = omega arith
