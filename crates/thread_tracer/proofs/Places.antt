-- Places in a list of what its items are.
use Rattle.std.proofs.Common.{◌≡◌, ◌∙◌, Option, Some, None, ℕ, suc, ◌+◌, refl, sym, ap, Bool, not}
use Rattle.std.proofs.Common.{cond, List, [], ◌∷◌, map, take, drop, position, remove}
use Rattle.std.specs.List.{prefix_len}
use Rattle.std.specs.Option.{option_map_or}
use Rattle.model_span.specs.Spans.{Context}
use Rattle.thread_tracer.specs.Open.{is_same_span, without_span}
use Rattle.std.proofs.lemmas.List.{length-map, take-map, drop-map, map-append}

-- the test of what an item is, for the first items
prefix_len-map : {X Y : Type 0} (p : Y → Bool) (f : X → Y) (xs : List X)
    → prefix_len p (map f xs) ≡ prefix_len (λ x. p (f x)) xs
prefix_len-map p f [] = refl
prefix_len-map p f (x ∷ xs) = ap (λ n. cond (p (f x)) (1 + n) 0) (prefix_len-map p f xs)

-- the first item that is something has the place of what it is
pub position_map : {X Y : Type 0} (p : Y → Bool) (f : X → Y) (xs : List X)
    → position p (map f xs) ≡ position (λ x. p (f x)) xs
position_map p f xs = rw (prefix_len-map (λ y. not (p y)) f xs, length-map xs f) refl

-- an item that is taken out takes with it what it is
pub remove_map : {X Y : Type 0} (f : X → Y) (xs : List X) (i : ℕ)
    → remove (map f xs) i ≡ map f (remove xs i)
remove_map f xs i =
    rw (take-map f i xs, drop-map f (suc i) xs) (sym (map-append f (take i xs) (drop (suc i) xs)))

-- what is left without the first that is this span's, where there is one
pub removed : {X : Type 0} (f : X → Context) (c : Context) (xs ys : List X) (zs : List Context)
    (i : ℕ) (r : Option ℕ)
    → map f xs ≡ zs → r ≡ position (λ x. is_same_span c (f x)) xs → r ≡ Some i → ys ≡ remove xs i
    → map f ys ≡ without_span c zs
removed f c xs ys zs i r m e s h =
    ap (map f) h
    ∙ (sym (remove_map f xs i)
    ∙ (ap (λ l. remove l i) m
    ∙ sym (ap (λ o. option_map_or (λ p. remove zs p) o zs)
    (ap (position (is_same_span c)) (sym m) ∙ (position_map (is_same_span c) f xs ∙ (sym e ∙ s))))))

-- and where there is none
pub stays : {X : Type 0} (f : X → Context) (c : Context) (xs : List X) (zs : List Context)
    (r : Option ℕ)
    → map f xs ≡ zs → r ≡ position (λ x. is_same_span c (f x)) xs → r ≡ None
    → zs ≡ without_span c zs
stays f c xs zs r m e s =
    sym (ap (λ o. option_map_or (λ p. remove zs p) o zs)
    (ap (position (is_same_span c)) (sym m) ∙ (position_map (is_same_span c) f xs ∙ (sym e ∙ s))))
