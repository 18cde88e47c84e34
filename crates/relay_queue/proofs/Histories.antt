-- What each call of a desk of bodies makes of a history, by what it leaves of the desk.
use Rattle.std.proofs.Common.{◌≡◌, refl, sym, ap, subst, ◌∙◌, ℕ, ◌+◌, ◌-◌, List, [], ◌∷◌, ◌++◌}
use Rattle.std.proofs.Common.{length, drop, drop_of_length-le, arith}
use Rattle.model_desk.specs.Retries.{Fate}
use Rattle.model_body.specs.Histories.{admitted, taken, later, settled, drained, idle, is_out}
use Rattle.model_body.specs.Histories.{again}
use Rattle.model_body.specs.Desks.{BodyConfig, BodyDesk, Does, HasRoom, IsDesk, after_settled}
use Rattle.model_body.specs.Desks.{new_desk}
use Rattle.model_body.proofs.Sound.{follows, is-new}
use Rattle.relay_queue.specs.Bodies.{MayTake}

-- A new desk is the one of no events.
pub new_follows : (config : BodyConfig) (new : BodyDesk) → new ≡ new_desk config → IsDesk [] new
new_follows config new e = subst (IsDesk []) (sym e) (is-new config)

module _ (old new : BodyDesk) where
  -- A desk that keeps a body more, which has room, is that of one more admission.
  pub admitted_follows : (body : List ℕ) → HasRoom old body
      → new ≡ record old { kept = old.kept ++ body ∷ []; admitted = old.admitted + 1 }
      → Does (admitted body) old new
  admitted_follows body room e = follows (admitted body) old new room e

  -- A desk from which a batch is taken is that of one more take.
  pub taken_follows : (n : ℕ) → MayTake old n → new ≡ record old { turn = is_out; size = n }
      → Does (taken n) old new
  taken_follows n may e = follows (taken n) old new may e

  -- A desk whose batch is to be sent again is that of one more retry.
  pub later_follows : old.turn ≡ is_out → new ≡ record old { turn = again } → Does later old new
  later_follows out e = follows later old new out e

  -- A desk whose batch ended is that of one more end.
  pub settled_follows : (fate : Fate) → old.turn ≡ is_out → new ≡ after_settled fate old
      → Does (settled fate) old new
  settled_follows fate out e = follows (settled fate) old new out e

  -- A desk that gave all bodies up is that of one more drain.
  pub drained_follows : new ≡ record old {
    kept = [];
    turn = idle;
    alone = old.alone - length old.kept;
    lost = old.lost + length old.kept;
  }
      → Does (drained (length old.kept)) old new
  drained_follows e =
      let none : drop (length old.kept) old.kept ≡ [] =
      drop_of_length-le old.kept (omega arith) in
      follows (drained (length old.kept)) old new refl
      (e
      ∙ ap (λ bodies. record old {
        kept = bodies;
        turn = idle;
        alone = old.alone - length old.kept;
        lost = old.lost + length old.kept;
      })
      (sym none))
