-- Lists to which parts are added one after another.
use Rattle.std.proofs.Common.{◌≡◌, ◌∙◌, List, ◌++◌, ap}
use Rattle.std.proofs.lemmas.List.{append_assoc}

-- Two lists, added one after the other, are added together.
pub add_both : {X : Type 0} (l0 l1 l2 a b : List X) → l1 ≡ l0 ++ a → l2 ≡ l1 ++ b
    → l2 ≡ l0 ++ (a ++ b)
add_both l0 l1 l2 a b first then = then ∙ ap (λ l. l ++ b) first ∙ append_assoc l0 a b
