-- The names of the spans of bodies that ended.
use Rattle.std.proofs.Common.{◌≡◌, refl, sym, ap, subst, ◌∙◌, ℕ, ◌+◌, ◌<◌, List, [], ◌∷◌, ◌++◌}
use Rattle.std.proofs.Common.{true, false, Option, Some, None, length, take, get_or}
use Rattle.std.proofs.Common.{append-nil, append_assoc}
use Rattle.std.specs.Prelude.{flat_map, option_map, if◌then◌else◌}
use Rattle.std.specs.declared.vec.Vec.{Vec}
use Rattle.std.proofs.lemmas.List.{map-append, take_more}
use Rattle.std.proofs.lemmas.List.Concat.{flat_map-append}
use Rattle.model_desk.specs.Retries.{Fate}
use Rattle.model_desk.specs.Desks.{is_loss}
use Rattle.model_body.specs.Names.{LostSpan, lost_names, names_in}
use Rattle.relay_queue.specs.Bodies.{bodies_view}
use Rattle.relay_queue.specs.Named.{Gains}

-- No name is given.
pub gives_none : (o : Option (List LostSpan)) → Gains [] o o
gives_none None = refl
gives_none (Some had) = ap Some (sym (append-nil had))

-- Some names are given, and then others.
gives-both : (more rest : List LostSpan) (a b e : Option (List LostSpan)) → Gains more a b
    → Gains rest b e → Gains (more ++ rest) a e
gives-both more rest None b e h k = k ∙ ap (λ o. option_map (λ had. had ++ rest) o) h
gives-both more rest (Some had) b e h k =
    k ∙ ap (λ o. option_map (λ had. had ++ rest) o) h ∙ ap Some (append_assoc had more rest)

-- One body more is named.
pub names_next : {A : Type 0} (fate : Fate) (bodies : List (Vec ℕ A)) (i : ℕ) (x : Vec ℕ A)
    (bytes : List ℕ) (a b e : Option (List LostSpan))
    → Gains (flat_map (names_in fate) (bodies_view (take i bodies))) a b
    → Gains (names_in fate bytes) b e → i < length bodies → x ≡ get_or bodies i x
    → bytes ≡ x.items → Gains (flat_map (names_in fate) (bodies_view (take (i + 1) bodies))) a e
names_next {A} fate bodies i x bytes a b e inv step lt is same =
    let f : List ℕ → List LostSpan = names_in fate in
    let whole : flat_map f (bodies_view (take (i + 1) bodies))
    ≡ flat_map f (bodies_view (take i bodies)) ++ f x.items =
    ap (λ (l : List (Vec ℕ A)). flat_map f (bodies_view l))
    (take_more bodies i x lt ∙ ap (λ y. take i bodies ++ y ∷ []) (sym is))
    ∙ ap (flat_map f) (map-append (λ (v : Vec ℕ A). v.items) (take i bodies) (x ∷ []))
    ∙ flat_map-append f (bodies_view (take i bodies)) (x.items ∷ [])
    ∙ ap (λ l. flat_map f (bodies_view (take i bodies)) ++ l) (append-nil (f x.items)) in
    subst (λ l. Gains l a e) (sym whole)
    (gives-both (flat_map f (bodies_view (take i bodies))) (f x.items) a b e inv
    (subst (λ l. Gains (f l) b e) same step))

-- Where bodies are lost, all are named.
pub names_lost : (fate : Fate) (bodies : List (List ℕ)) (a b : Option (List LostSpan))
    → is_loss fate ≡ true → Gains (flat_map (names_in fate) bodies) a b
    → Gains (lost_names fate bodies) a b
names_lost fate bodies a b e h =
    subst (λ v. Gains (if v then flat_map (names_in fate) bodies else []) a b) (sym e) h

-- Else none is.
pub names_kept : (fate : Fate) (bodies : List (List ℕ)) (a : Option (List LostSpan))
    → is_loss fate ≡ false → Gains (lost_names fate bodies) a a
names_kept fate bodies a e =
    subst (λ v. Gains (if v then flat_map (names_in fate) bodies else []) a a) (sym e)
    (gives_none a)
