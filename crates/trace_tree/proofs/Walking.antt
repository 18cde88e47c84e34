-- A walk from a span to its parent, and so on.
use Rattle.std.proofs.Common.{◌≡◌, ◌≢◌, sym, ◌∙◌, ap, subst, ℕ, ◌<◌, ◌⊎◌, inl, inr, refl, Option}
use Rattle.std.proofs.Common.{Some, None, List, length, set, length-set}
use Rattle.trace_tree.specs.Parents.{parent_at}
use Rattle.trace_tree.specs.Cycles.{HasAncestor, parent}
use Rattle.trace_tree.specs.Walks.{mark_at, IsFresh, IsWalk, IsWalkUp, IsRound}
use Rattle.trace_tree.specs.declared.cycles.Mark.{Mark}
use Rattle.trace_tree.specs.declared.cycles.Mark.TheVariants.{Unseen, SeenFrom}
use Rattle.trace_tree.proofs.Sets.{set_cases}
use Rattle.trace_tree.proofs.Ancestors.{ancestor_push}

-- The mark of a walk is a mark.
pub seen_is_marked : (start : ℕ) → SeenFrom start ≢ Unseen
seen_is_marked start e = cc

-- The walk is at this span. All that it marked lead there, and their parents are marked or there.
pub record IsWalking (parents : List (Option ℕ)) (old new : List Mark) (start at : ℕ) : Type 0 where
  pub at_in_list : at < length parents
  pub same_length : length new ≡ length old
  pub old_length : length old ≡ length parents
  pub each : (k : ℕ) → (mark_at new k ≡ mark_at old k) ⊎ (mark_at new k ≡ SeenFrom start)
  pub kept : (k : ℕ) → mark_at old k ≢ Unseen → mark_at new k ≡ mark_at old k
  pub started : (start ≡ at) ⊎ (mark_at new start ≢ Unseen)
  pub leads : (k : ℕ) → mark_at new k ≡ SeenFrom start → HasAncestor parents k at
  pub closed : (k : ℕ) → mark_at new k ≡ SeenFrom start
      → (p : ℕ) × (parent_at parents k ≡ Some p) × ((mark_at new p ≡ SeenFrom start) ⊎ (p ≡ at))

module _ (parents : List (Option ℕ)) (old : List Mark) (start : ℕ) where
  -- A walk is at its start at first, and has marked nothing yet.
  pub walking_first : length old ≡ length parents → start < length parents → IsFresh old start
      → IsWalking parents old old start start
  walking_first long within fresh = record {
    at_in_list = within;
    same_length = refl;
    old_length = long;
    each = λ k. inl refl;
    kept = λ k marked. refl;
    started = inl refl;
    leads = λ k e. absurd (fresh.none k e);
    closed = λ k e. absurd (fresh.none k e);
  }

  module _ (new : List Mark) (at : ℕ) (w : IsWalking parents old new start at) where
    marked : List Mark
    marked = set new at (SeenFrom start)

    after : (k : ℕ)
        → ((k ≡ at) × (mark_at marked k ≡ SeenFrom start))
        ⊎ ((k ≢ at) × (mark_at marked k ≡ mark_at new k))
    unfolding marked
    after k =
        set_cases new at (SeenFrom start) Unseen
        (subst (λ n. at < n) (sym (w.same_length ∙ w.old_length)) w.at_in_list) k

    marked_length : length marked ≡ length old
    unfolding marked
    marked_length = length-set new at (SeenFrom start) ∙ w.same_length

    each_after : (k : ℕ) → (mark_at marked k ≡ mark_at old k) ⊎ (mark_at marked k ≡ SeenFrom start)
    each_after k = elim (after k) [
      | inl h ↦ inr h.1
      | inr h ↦ elim (w.each k) [ inl e ↦ inl (h.1 ∙ e) | inr e ↦ inr (h.1 ∙ e) ]
    ]

    kept_after : mark_at new at ≡ Unseen → (k : ℕ) → mark_at old k ≢ Unseen
        → mark_at marked k ≡ mark_at old k
    kept_after unseen k ne = elim (after k) [
      | inl h ↦ absurd (ne (sym (w.kept k ne) ∙ ap (λ j. mark_at new j) h.0 ∙ unseen))
      | inr h ↦ h.1 ∙ w.kept k ne
    ]

    started_after : mark_at marked start ≢ Unseen
    started_after = elim (after start) [
      | inl h ↦ λ e. seen_is_marked start (sym h.1 ∙ e)
      | inr h ↦ elim w.started [ inl same ↦ absurd (h.0 same) | inr ne ↦ λ e. ne (sym h.1 ∙ e) ]
    ]

    seen_after : (k : ℕ) → mark_at new k ≡ SeenFrom start → mark_at marked k ≡ SeenFrom start
    seen_after k e = elim (after k) [ inl h ↦ h.1 | inr h ↦ h.1 ∙ e ]

    here_after : (k : ℕ) → k ≡ at → mark_at marked k ≡ SeenFrom start
    here_after k same = elim (after k) [ inl h ↦ h.1 | inr h ↦ absurd (h.0 same) ]

    walking_on : (p : ℕ) → parent_at parents at ≡ Some p → p < length parents
        → mark_at new at ≡ Unseen → IsWalking parents old marked start p
    walking_on p e within unseen = record {
      at_in_list = within;
      same_length = marked_length;
      old_length = w.old_length;
      each = each_after;
      kept = kept_after unseen;
      started = inr started_after;
      leads = λ k m. elim (after k) [
        | inl h ↦ subst (λ x. HasAncestor parents x p) (sym h.0) (parent e)
        | inr h ↦ ancestor_push parents (w.leads k (sym h.1 ∙ m)) e
      ];
      closed = λ k m. elim (after k) [
        | inl h ↦ (p, subst (λ x. parent_at parents x ≡ Some p) (sym h.0) e, inr refl)
        | inr h ↦
            let c = w.closed k (sym h.1 ∙ m) in (
              c.0,
              c.1,
              elim c.2 [
                | inl seen ↦ inl (seen_after c.0 seen)
                | inr same ↦ inl (here_after c.0 same)
              ],
            )
      ];
    }

    walked_top : parent_at parents at ≡ None → mark_at new at ≡ Unseen
        → IsWalkUp parents old marked start at
    walked_top none unseen = record {
      walk = record {
        same_length = marked_length;
        each = each_after;
        kept = kept_after unseen;
        started = started_after;
        leads = λ k m. elim (after k) [ inl h ↦ inl h.0 | inr h ↦ inr (w.leads k (sym h.1 ∙ m)) ];
      };
      ends = inl none;
    }

    started_here : mark_at new at ≢ Unseen → mark_at new start ≢ Unseen
    started_here marked_here = elim w.started [
      | inl same ↦ λ e. marked_here (ap (λ j. mark_at new j) (sym same) ∙ e)
      | inr ne ↦ ne
    ]

    walked : mark_at new at ≢ Unseen → IsWalk parents old new start at
    walked marked_here = record {
      same_length = w.same_length;
      each = w.each;
      kept = w.kept;
      started = started_here marked_here;
      leads = λ k m. inr (w.leads k m);
    }

    -- A walk that comes to a mark of an earlier walk ends there.
    pub walked_up : mark_at new at ≢ Unseen → mark_at new at ≢ SeenFrom start
        → IsWalkUp parents old new start at
    walked_up marked_here other = record {
      walk = walked marked_here;
      ends = elim (w.each at) [ inl e ↦ inr (λ u. marked_here (e ∙ u)) | inr e ↦ absurd (other e) ];
    }

    -- A walk that comes to one of its own marks has found a cycle.
    pub walked_round : mark_at new at ≡ SeenFrom start
        → IsWalk parents old new start at × IsRound parents new start at
    walked_round here = (
      walked (λ u. seen_is_marked start (sym here ∙ u)),
      record {
        marked = here;
        closed = λ k m. let c = w.closed k m in (
          c.0,
          c.1,
          elim c.2 [ inl seen ↦ seen | inr same ↦ ap (λ j. mark_at new j) same ∙ here ],
        );
        on_cycle = w.leads at here;
      },
    )

    -- A walk marks the span that it is at, and goes on to the parent.
    pub walking_more : (p : ℕ) → parent_at parents at ≡ Some p → p < length parents
        → mark_at new at ≡ Unseen → IsWalking parents old (set new at (SeenFrom start)) start p
    unfolding marked
    walking_more p e within unseen = walking_on p e within unseen

    -- A walk that comes to an unmarked span without a parent marks it and ends at the top.
    pub walked_to_top : parent_at parents at ≡ None → mark_at new at ≡ Unseen
        → IsWalkUp parents old (set new at (SeenFrom start)) start at
    unfolding marked
    walked_to_top none unseen = walked_top none unseen
