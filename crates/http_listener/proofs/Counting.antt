-- What is held where a peer is closed.
use Rattle.std.proofs.Common.{◌≡◌, ◌∙◌, ◌+◌, ◌<◌, ◌^◌, ℕ, Option, Some, None, ap, subst, sym}
use Rattle.http_listener.specs.Crowds.{held_by}
use Rattle.http_listener.specs.declared.peer.Peer.{Peer}

-- The bytes of the others are held, where those of the one that is closed no longer count.
pub counts-closed : {T P : Type 0} (before after : Option (Peer T P)) (peer : Peer T P)
    (held count others new : ℕ) → before ≡ Some peer → after ≡ None
    → count ≡ held_by (Some peer)
    → ((rest : ℕ) → held ≡ count + rest → 0 + rest < 2 ^ 64 → new ≡ 0 + rest)
    → held ≡ held_by before + others → held_by after + others < 2 ^ 64
    → new ≡ held_by after + others
counts-closed {T} {P} before after peer held count others new is none counts change was fits =
    change others
    ((was ∙ ap (λ (o : Option (Peer T P)). held_by o + others) is)
    ∙ ap (λ (n : ℕ). n + others) (sym counts))
    (subst (λ (o : Option (Peer T P)). held_by o + others < 2 ^ 64) none fits)
    ∙ ap (λ (o : Option (Peer T P)). held_by o + others) (sym none)
