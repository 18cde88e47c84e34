-- What a writer holds of a list that is written part by part.
use Rattle.std.proofs.Common.{◌≡◌, sym, ap, subst, ◌∙◌, ℕ, ◌+◌, ◌<◌, ◌≤◌, arith, List, [], ◌∷◌}
use Rattle.std.proofs.Common.{◌++◌, length, length-append, append-nil, map, get_or, take, drop}
use Rattle.std.proofs.Common.{Option, Result, Ok, Err, OnErr}
use Rattle.std.specs.Io.KnownBytes.{Appends}
use Rattle.std.specs.List.{flat_map}
use Rattle.std.proofs.KnownBytes.{Appends-trans}
use Rattle.std.proofs.Math.Seq.{take-append-add}
use Rattle.std.proofs.lemmas.Grind.{flat_map-append}
use Rattle.std.proofs.lemmas.List.{drop_more, map-append, take-append-drop, take-append-le}
use Rattle.std.proofs.lemmas.List.{take_more}
use Rattle.otlp_collector.specs.Printed.{AppendsFront}

-- What holds anyway holds where there is an error.
pub on-err : {T E : Type 0} (r : Result T E) (P : Type 0) → P → OnErr r P
on-err (Ok x) P p = tt
on-err (Err e) P p = p

module _ {X M : Type 0} (text : M → List ℕ) (view : X → M) (xs : List X) where
  -- the text of a front of the list
  abbrev text-to : ℕ → List ℕ
  text-to at = flat_map text (map view (take at xs))

  -- One part more makes the text of a longer front of the list.
  pub parts-more : (at : ℕ) (x : X) (old mid new : Option (List ℕ)) → at < length xs
      → x ≡ get_or xs at x
      → Appends old mid (flat_map text (map view (take at xs))) → Appends mid new (text (view x))
      → Appends old new (flat_map text (map view (take (at + 1) xs)))
  parts-more at x old mid new within is first then =
      let split : text-to (at + 1) ≡ text-to at ++ text (view x) =
      ap (λ l. flat_map text (map view l))
      (take_more xs at x within ∙ ap (λ y. take at xs ++ y ∷ []) (sym is))
      ∙ ap (flat_map text) (map-append view (take at xs) (x ∷ []))
      ∙ flat_map-append text (map view (take at xs)) (view x ∷ [])
      ∙ ap (λ l. text-to at ++ l) (append-nil (text (view x))) in
      subst (Appends old new) (sym split) (Appends-trans old mid new _ _ first then)

  -- A front of one part more makes a front of the whole text.
  pub parts-front : (at : ℕ) (x : X) (old mid new : Option (List ℕ)) → at < length xs
      → x ≡ get_or xs at x
      → Appends old mid (flat_map text (map view (take at xs)))
      → AppendsFront mid new (text (view x))
      → AppendsFront old new (flat_map text (map view xs))
  parts-front at x old mid new within is first then =
      let n = then.0 in
      let part = text (view x) in
      let rest = flat_map text (map view (drop (at + 1) xs)) in
      let list : xs ≡ take at xs ++ (x ∷ drop (at + 1) xs) =
      sym (take-append-drop at xs)
      ∙ ap (λ l. take at xs ++ l)
      (drop_more xs at x within ∙ ap (λ y. y ∷ drop (at + 1) xs) (sym is)) in
      let whole : flat_map text (map view xs) ≡ text-to at ++ (part ++ rest) =
      ap (λ l. flat_map text (map view l)) list
      ∙ ap (flat_map text) (map-append view (take at xs) (x ∷ drop (at + 1) xs))
      ∙ flat_map-append text (map view (take at xs)) (view x ∷ map view (drop (at + 1) xs)) in
      let front : take (length (text-to at) + n) (flat_map text (map view xs))
      ≡ text-to at ++ take n part =
      ap (take (length (text-to at) + n)) whole
      ∙ take-append-add (text-to at) (part ++ rest) n
      ∙ ap (λ l. text-to at ++ l) (take-append-le n part rest then.1) in
      let long : length (text-to at) + n ≤ length (flat_map text (map view xs)) =
      omega (
        arith,
        then.1,
        ap length whole,
        length-append (text-to at) (part ++ rest),
        length-append part rest,
      ) in (
        length (text-to at) + n,
        long,
        subst (Appends old new) (sym front) (Appends-trans old mid new _ _ first then.2),
      )
