-- What leads from one state to another, one after another.
use Rattle.std.proofs.Common.{◌≡◌, ◌++◌, ℕ, List, [], Bool, refl, subst, sym, inl}
use Rattle.http_connection.specs.Runs.{Chain, Place, Runs}
use Rattle.http_connection.specs.Turns.{Turn}
use Rattle.http_connection.proofs.RunLemmas.{chain_append}
use Rattle.http_listener.specs.Serving.{Leads}

module _ {S P : Type 0} (answers : S → Turn P → S → Type 0) (writes : P → List ℕ → Type 0) where
  -- No act leads from a state and a place to the same ones.
  pub leads-none : (most : ℕ) (s : S) (place : Place P) → Leads answers writes most s place s place
  leads-none most s place = record { acts = []; chain = (refl, inl refl) }

  -- A run of a connection leads from its beginning to a place that is equal to its end.
  pub leads-by : (most : ℕ) (s : S) (place : Place P) (before : List ℕ) (t : S) (after : Place P)
      (now : List ℕ) (aborted : Bool) (end : Place P)
      → Runs answers writes most s place before t after now aborted → end ≡ after
      → Leads answers writes most s place t end
  leads-by most s place before t after now aborted end run same = record {
    acts = run.acts;
    chain =
        subst (λ (p : Place P). Chain answers writes most s place run.acts t p)
        (sym same) run.chain;
  }

  -- Acts, and then further ones with the same bound, lead from the first state to the last one.
  pub leads-then : (most bound : ℕ) (s : S) (place : Place P) (m : S) (p : Place P) (t : S)
      (after : Place P)
      → bound ≡ most
      → Leads answers writes most s place m p → Leads answers writes bound m p t after
      → Leads answers writes most s place t after
  leads-then most bound s place m p t after same one two =
      let then : Leads answers writes most m p t after =
      subst (λ (n : ℕ). Leads answers writes n m p t after) same two in
      record {
        acts = one.acts ++ then.acts;
        chain =
            chain_append answers writes most s place one.acts then.acts m p t after one.chain
            then.chain;
      }
