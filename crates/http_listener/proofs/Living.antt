-- A peer lives on, or is closed.
use Rattle.std.proofs.Common.{◌≡◌, ◌≢◌, ◌⊎◌, ℕ, Option, Some, None, inl, inr, refl, subst, sym}
use Rattle.std.proofs.lemmas.List.{get_or-set_same}
use Rattle.std.specs.Prelude.{IfSome, IsSome}
use Rattle.slab.proofs.SlabLemmas.{ContainsKey-within}
use Rattle.slab.specs.Slab.{Slab, get, with_value}
use Rattle.http_connection.specs.Connections.{phase_of}
use Rattle.http_connection.specs.declared.connection.Connection.{Connection}
use Rattle.http_connection.specs.declared.limits.Phase.TheVariants.{Done}
use Rattle.http_listener.specs.Crowds.{IsLive, ShutAt}
use Rattle.http_listener.specs.declared.peer.Peer.{Peer}

module _ {T P : Type 0} where
  -- after a turn, by its key
  pub lives-with : (peers : Slab (Peer T P)) (key : ℕ) (peer after : Peer T P)
      → get peers key ≡ Some peer → (IsLive peer → IsLive after)
      → IfSome (get peers key) (IsLive {T = T} {P = P})
      → IfSome (get (with_value peers key after) key) (IsLive {T = T} {P = P})
  lives-with peers key peer after is turn lives =
      let within = ContainsKey-within peers key
      (subst (λ (o : Option (Peer T P)). IsSome o) (sym is) refl) in
      let there : get (with_value peers key after) key ≡ Some after =
      get_or-set_same peers.slots key (Some after) None within in
      subst (λ (o : Option (Peer T P)). IfSome o IsLive) (sym there)
      (turn (subst (λ (o : Option (Peer T P)). IfSome o IsLive) is lives))

  -- as it was, or closed
  pub lives-or-gone : (before after : Option (Peer T P)) → (after ≡ before) ⊎ (after ≡ None)
      → IfSome before (IsLive {T = T} {P = P}) → IfSome after (IsLive {T = T} {P = P})
  lives-or-gone before after (inl same) lives =
      subst (λ (o : Option (Peer T P)). IfSome o IsLive) (sym same) lives
  lives-or-gone before after (inr none) lives =
      subst (λ (o : Option (Peer T P)). IfSome o IsLive) (sym none) tt

  -- with writing shut down, or closed
  pub lives-shut : (now : ℕ) (before after : Option (Peer T P)) → ShutAt now before after
      → IfSome before (IsLive {T = T} {P = P}) → IfSome after (IsLive {T = T} {P = P})
  lives-shut now None after none lives =
      subst (λ (o : Option (Peer T P)). IfSome o IsLive) (sym none) tt
  lives-shut now (Some peer) None shut lives = tt
  lives-shut now (Some peer) (Some after) shut lives =
      subst (λ (c : Connection P). phase_of c ≢ Done) (sym shut.connection) lives
