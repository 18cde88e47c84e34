-- Lists to which parts are added one after another.
use Rattle.std.proofs.Common.{◌≡◌, ◌∙◌, List, ◌++◌, ap}
use Rattle.std.proofs.lemmas.List.{append_assoc}

-- Two lists, appended one after the other, are appended together.
pub add_two : {X : Type 0} (l0 l1 l2 a b : List X) → l1 ≡ l0 ++ a → l2 ≡ l1 ++ b
    → l2 ≡ l0 ++ (a ++ b)
add_two l0 l1 l2 a b e1 e2 = e2 ∙ ap (λ l. l ++ b) e1 ∙ append_assoc l0 a b

-- Three lists, appended one after the other, are appended together.
pub add_three : {X : Type 0} (l0 l1 l2 l3 a b c : List X) → l1 ≡ l0 ++ a → l2 ≡ l1 ++ b
    → l3 ≡ l2 ++ c → l3 ≡ l0 ++ (a ++ (b ++ c))
add_three l0 l1 l2 l3 a b c e1 e2 e3 =
    add_two l0 l1 l3 a (b ++ c) e1 (add_two l1 l2 l3 b c e2 e3)

-- Five lists, appended one after the other, are appended together.
pub add_five : {X : Type 0} (l0 l1 l2 l3 l4 l5 a b c d e : List X) → l1 ≡ l0 ++ a → l2 ≡ l1 ++ b
    → l3 ≡ l2 ++ c → l4 ≡ l3 ++ d → l5 ≡ l4 ++ e → l5 ≡ l0 ++ (a ++ (b ++ (c ++ (d ++ e))))
add_five l0 l1 l2 l3 l4 l5 a b c d e e1 e2 e3 e4 e5 =
    add_three l0 l1 l2 l5 a b (c ++ (d ++ e)) e1 e2 (add_three l2 l3 l4 l5 c d e e3 e4 e5)
