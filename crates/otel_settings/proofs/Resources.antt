-- The pair of a service's name, after others.
use Rattle.std.proofs.Common.{◌≡◌, ℕ, List, [], ◌∷◌, ◌++◌, ap, sym, ◌∙◌, Bor}
use Rattle.std.specs.Prelude.{Option, Some, option_map, codes, String, string_bytes}
use Rattle.std.proofs.lemmas.List.{map-append}
use Rattle.otel_settings.specs.ResourcePairs.{pair_view, pairs_view}
use Rattle.otel_settings.specs.Resources.{name_pair}

-- A `service.name` pair after the other pairs is what a set service name adds to them.
pub named_pairs : {A : Type 0} (pairs all : List (String A × String A)) (key value : String A)
    (name : Option (Bor (List ℕ))) (said : Bor (List ℕ))
    → all ≡ pairs ++ (key, value) ∷ [] → name ≡ Some said → string_bytes key ≡ codes "service.name"
    → string_bytes value ≡ said.now
    → pairs_view all ≡ pairs_view pairs ++ name_pair (option_map (λ (t : Bor (List ℕ)). t.now) name)
named_pairs pairs all key value name said all_is name_is key_is value_is =
    ap pairs_view all_is ∙ map-append pair_view pairs ((key, value) ∷ [])
    ∙ ap (λ (k : List ℕ). pairs_view pairs ++ (k, string_bytes value) ∷ []) key_is
    ∙ ap (λ (v : List ℕ). pairs_view pairs ++ (codes "service.name", v) ∷ []) value_is
    ∙ ap (λ (n : Option (Bor (List ℕ))).
    pairs_view pairs ++ name_pair (option_map (λ (t : Bor (List ℕ)). t.now) n))
    (sym name_is)
