-- Peers that are judged, one key after another.
use Rattle.std.proofs.Common.{◌≡◌, ◌∙◌, ◌+◌, ◌<◌, ◌≤◌, ◌⊎◌, ℕ, Option, None, length}
use Rattle.std.proofs.Common.{inl, inr, refl, subst, sym, rules, arith}
use Rattle.std.proofs.lemmas.Grind.{common_steps}
use Rattle.std.proofs.lemmas.Bool.{cases_lt}
use Rattle.std.proofs.lemmas.List.{get_or_past}
use Rattle.slab.specs.Slab.{Slab, get}
use Rattle.http_listener.specs.Crowds.{AreJudged, JudgedAt, SameBeside}
use Rattle.http_listener.specs.declared.clock.StageTimes.{StageTimes}
use Rattle.http_listener.specs.declared.peer.Peer.{Peer}

-- The peers with lower keys were judged, and the others are as they were.
pub record AreSwept {T P : Type 0} (times : StageTimes) (now end : ℕ) (old new : Slab (Peer T P))
    : Type 0 where
  pub judged : (key : ℕ) → key < end → JudgedAt times now (get old key) (get new key)
  pub others : (key : ℕ) → end ≤ key → get new key ≡ get old key

module _ {T P : Type 0} (times : StageTimes) (now : ℕ) (old : Slab (Peer T P)) where
  -- None was.
  pub swept-none : AreSwept times now 0 old old
  swept-none = record {
    judged = λ key below. first_of (search rules, grind (arith, common_steps));
    others = λ key above. refl;
  }

  -- One more was.
  pub swept-next : (at : StageTimes) (end : ℕ) (mid new : Slab (Peer T P)) → at ≡ times
      → JudgedAt at now (get mid end) (get new end) → SameBeside end mid new
      → AreSwept times now end old mid → AreSwept times now (end + 1) old new
  swept-next at end mid new same judged beside before = record {
    judged = λ key below. by_order key (cases_lt key end) below;
    others = λ key above. beside key (first_of (search rules, grind (arith, common_steps)))
        ∙ before.others key (first_of (search rules, grind (arith, common_steps)));
  }
    where
      this : JudgedAt times now (get old end) (get new end)
      this =
          subst (λ (o : Option (Peer T P)). JudgedAt times now o (get new end))
          (before.others end (first_of (search rules, grind (arith, common_steps))))
          (subst (λ (t : StageTimes). JudgedAt t now (get mid end) (get new end)) same judged)

      by_order : (key : ℕ) → (key < end) ⊎ (end ≤ key) → key < end + 1
          → JudgedAt times now (get old key) (get new key)
      by_order key (inl lower) below =
          subst (λ (o : Option (Peer T P)). JudgedAt times now (get old key) o)
          (sym (beside key (first_of (search rules, grind (arith, common_steps)))))
          (before.judged key lower)
      by_order key (inr higher) below =
          let here : end ≡ key = first_of (search rules, grind (arith, common_steps)) in
          subst (λ (k : ℕ). JudgedAt times now (get old k) (get new k)) here this

  -- All were.
  pub swept-all : (end : ℕ) (new : Slab (Peer T P)) → length old.slots ≤ end
      → AreSwept times now end old new → AreJudged times now old new
  swept-all end new fits done key = by_order (cases_lt key end)
    where
      by_order : (key < end) ⊎ (end ≤ key) → JudgedAt times now (get old key) (get new key)
      by_order (inl lower) = done.judged key lower
      by_order (inr higher) =
          let none : get old key ≡ None = grind (arith, get_or_past) in
          subst (λ (o : Option (Peer T P)). JudgedAt times now o (get new key)) (sym none)
          (done.others key higher ∙ none)
