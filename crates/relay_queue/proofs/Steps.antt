-- What the end of a batch leaves of a desk of bodies.
use Rattle.std.proofs.Common.{◌≡◌, sym, ap, ◌∙◌, ◌+◌, ◌-◌, Bool, true, false, drop, add-zero}
use Rattle.std.specs.Prelude.{if◌then◌else◌}
use Rattle.model_desk.specs.Retries.{Fate}
use Rattle.model_desk.specs.Desks.{is_loss}
use Rattle.model_body.specs.Histories.{idle, is_split}
use Rattle.model_body.specs.Desks.{BodyDesk, after_settled}

-- the desk after a batch that is split or not, whose bodies are lost or not
abbrev after_end : Bool → Bool → BodyDesk → BodyDesk
after_end split loss desk =
    let n = if split then 0 else desk.size in
    record desk {
      kept = drop n desk.kept;
      turn = idle;
      alone = if split then desk.size else desk.alone - desk.size;
      delivered = if loss then desk.delivered else desk.delivered + n;
      lost = if loss then desk.lost + n else desk.lost;
    }

same-counts : (loss : Bool) (desk : BodyDesk)
    → record desk { turn = idle; alone = desk.size } ≡ after_end true loss desk
same-counts true desk =
    λ i. record desk { turn = idle; alone = desk.size; lost = sym (add-zero desk.lost) i }
same-counts false desk =
    λ i. record desk {
      turn = idle;
      alone = desk.size;
      delivered = sym (add-zero desk.delivered) i;
    }

module _ (fate : Fate) (old new : BodyDesk) where
  -- A batch that is split.
  pub settled_split : is_split fate old.size ≡ true
      → new ≡ record old { turn = idle; alone = old.size } → new ≡ after_settled fate old
  settled_split split e =
      e ∙ same-counts (is_loss fate) old ∙ ap (λ b. after_end b (is_loss fate) old) (sym split)

  -- One that isn't.
  pub settled_whole : is_split fate old.size ≡ false
      → new ≡ record old {
        kept = drop old.size old.kept;
        turn = idle;
        alone = old.alone - old.size;
        delivered = if is_loss fate then old.delivered else old.delivered + old.size;
        lost = if is_loss fate then old.lost + old.size else old.lost;
      }
      → new ≡ after_settled fate old
  settled_whole split e = e ∙ ap (λ b. after_end b (is_loss fate) old) (sym split)
