-- The cycles that walks from more and more spans open.
use Rattle.std.proofs.Common.{◌≡◌, ◌≢◌, sym, ◌∙◌, ap, subst, ℕ, zero, suc, ◌+◌, ◌<◌, ◌⊎◌, inl, inr}
use Rattle.std.proofs.Common.{refl, Option, None, List, length, set, replicate, length-set, arith}
use Rattle.std.proofs.lemmas.List.{length-replicate}
use Rattle.std.proofs.lemmas.Bool.{cases_eq}
use Rattle.trace_tree.specs.Parents.{parent_at}
use Rattle.trace_tree.specs.Cycles.{EndsAtTop, topmost, OpensCycle, IsOpened, IsTree}
use Rattle.trace_tree.specs.Walks.{mark_at, LeadsTo, IsWalk, IsWalkUp, IsRemarked, AreOpenBefore}
use Rattle.trace_tree.specs.Walks.{IsFresh}
use Rattle.trace_tree.specs.declared.cycles.Mark.{Mark}
use Rattle.trace_tree.specs.declared.cycles.Mark.TheVariants.{Unseen, SeenFrom, OnCycle}
use Rattle.trace_tree.proofs.Sets.{set_cases}
use Rattle.trace_tree.proofs.Ancestors.{ends_leads, ends_at_none, ends_cut}

unseen : (n k : ℕ) → mark_at (replicate n Unseen) k ≡ Unseen
unseen zero k = refl
unseen (suc n) zero = refl
unseen (suc n) (suc k) = unseen n k

-- Before the first walk, no span is marked and no cycle is opened.
pub opening_first : (parents : List (Option ℕ)) (marks : List Mark)
    → marks ≡ replicate (length parents) Unseen → AreOpenBefore parents parents marks 0
opening_first parents marks all =
    let none : (k : ℕ) → mark_at marks k ≡ Unseen =
    λ k. ap (λ ms. mark_at ms k) all ∙ unseen (length parents) k in
    record {
      opened = record { same_length = refl; each = λ k. inl refl };
      marks_length = ap length all ∙ length-replicate (length parents) Unseen;
      ends = λ k ne. absurd (ne (none k));
      from = λ k s e. absurd (unseen_is_not_seen s (sym (none k) ∙ e));
      seen = λ k h. absurd (not_below_zero k h);
    }
  where
    unseen_is_not_seen : (s : ℕ) → Unseen ≡ SeenFrom s → ⊥
    unseen_is_not_seen s e = cc

    not_below_zero : (k : ℕ) → k < 0 → ⊥
    not_below_zero k h = omega arith

seen_same : (s t : ℕ) → SeenFrom s ≡ SeenFrom t → s ≡ t
seen_same s t e = cc

cycle_is_not_seen : (s : ℕ) → OnCycle ≡ SeenFrom s → ⊥
cycle_is_not_seen s e = cc

cycle_is_marked : OnCycle ≡ Unseen → ⊥
cycle_is_marked e = cc

-- Once a walk has started from each span, the parents that are left are a tree.
pub opening_all : (parents tree : List (Option ℕ)) (marks : List Mark)
    → AreOpenBefore parents tree marks (length parents) → IsTree parents tree
opening_all parents tree marks b =
    record { opened = b.opened; ends = λ k within. b.ends k (b.seen k within) }

module _ (parents tree : List (Option ℕ)) (old new : List Mark) (start : ℕ)
    (b : AreOpenBefore parents tree old start) where
  -- No mark of earlier walks is one of the walk from the next span.
  pub fresh : IsFresh old start
  fresh =
      record { none = λ k e. let h : start < start = b.from k start e in absurd (never start h) }
    where
      never : (n : ℕ) → n < n → ⊥
      never n h = omega arith

  from_after : (last k s : ℕ) → IsWalk parents old new start last → mark_at new k ≡ SeenFrom s
      → s < start + 1
  from_after last k s w e = elim (w.each k) [
    | inl h ↦ let less : s < start = b.from k s (sym h ∙ e) in omega arith
    | inr h ↦ let same : start ≡ s = seen_same start s (sym h ∙ e) in omega arith
  ]

  seen_after : (last k : ℕ) → IsWalk parents old new start last → k < start + 1
      → mark_at new k ≢ Unseen
  seen_after last k w h = elim (cases_eq k start) [
    | inl same ↦ λ e. w.started (ap (λ j. mark_at new j) (sym same) ∙ e)
    | inr other ↦
        let less : k < start = omega arith in
        λ e. b.seen k less (sym (w.kept k (b.seen k less)) ∙ e)
  ]

  -- A walk that ends at the top or at an earlier walk opens no further cycle.
  pub opening_up : (last : ℕ) → IsWalkUp parents old new start last
      → AreOpenBefore parents tree new (start + 1)
  opening_up last up = record {
    opened = b.opened;
    marks_length = up.walk.same_length ∙ b.marks_length;
    ends = λ k ne. elim (up.walk.each k) [
      | inl e ↦ b.ends k (λ u. ne (e ∙ u))
      | inr e ↦ ends_leads parents tree b.opened k last (up.walk.leads k e) last_ends
    ];
    from = λ k s e. from_after last k s up.walk e;
    seen = λ k h. seen_after last k up.walk h;
  }
    where
      last_ends : EndsAtTop tree last
      last_ends = elim up.ends [
        | inl none ↦ ends_at_none parents tree b.opened last none
        | inr ne ↦ b.ends last ne
      ]

  -- the cycle of a walk is opened at this span
  module _ (entry first : ℕ) (w : IsWalk parents old new start entry)
      (leads : LeadsTo parents entry first) (opens : OpensCycle parents first)
      (within : first < length parents) where
    cut : List (Option ℕ)
    cut = set tree first None

    after : (k : ℕ)
        → ((k ≡ first) × (parent_at cut k ≡ None))
        ⊎ ((k ≢ first) × (parent_at cut k ≡ parent_at tree k))
    unfolding cut
    after k =
        set_cases tree first None None (subst (λ n. first < n) (sym b.opened.same_length) within) k

    cut_length : length cut ≡ length tree
    unfolding cut
    cut_length = length-set tree first None

    opened_after : IsOpened parents cut
    opened_after = record {
      same_length = cut_length ∙ b.opened.same_length;
      each = λ k. elim (after k) [
        | inl h ↦ inr (h.1, subst (λ x. OpensCycle parents x) (sym h.0) opens)
        | inr h ↦ elim (b.opened.each k) [ inl e ↦ inl (h.1 ∙ e) | inr c ↦ inr (h.1 ∙ c.0, c.1) ]
      ];
    }

    first_ends : EndsAtTop cut first
    first_ends = elim (after first) [ inl h ↦ topmost h.1 | inr h ↦ absurd (h.0 refl) ]

    old_ends : (k : ℕ) → mark_at old k ≢ Unseen → EndsAtTop cut k
    old_ends k ne =
        ends_cut tree cut (λ j. elim (after j) [ inl h ↦ inr h.1 | inr h ↦ inl h.1 ]) (b.ends k ne)

    new_ends : (k : ℕ) → mark_at new k ≡ SeenFrom start → EndsAtTop cut k
    new_ends k e =
        ends_leads parents cut opened_after k entry (w.leads k e)
        (ends_leads parents cut opened_after entry first leads first_ends)

    opening_cut : (last : List Mark) → IsRemarked new last start
        → AreOpenBefore parents cut last (start + 1)
    opening_cut last r = record {
      opened = opened_after;
      marks_length = r.same_length ∙ w.same_length ∙ b.marks_length;
      ends = λ k ne. elim (r.each k) [
        | inl e ↦
            elim (w.each k) [ inl h ↦ old_ends k (λ u. ne (e ∙ h ∙ u)) | inr h ↦ new_ends k h ]
        | inr v ↦ new_ends k v.0
      ];
      from = λ k s m. elim (r.each k) [
        | inl e ↦ from_after entry k s w (sym e ∙ m)
        | inr v ↦ absurd (cycle_is_not_seen s (sym v.1 ∙ m))
      ];
      seen = λ k h. elim (r.each k) [
        | inl e ↦ λ u. seen_after entry k w h (sym e ∙ u)
        | inr v ↦ λ u. cycle_is_marked (sym v.1 ∙ u)
      ];
    }

    -- A walk that ends in a cycle opens it at the first span of the cycle.
    pub opening_round : (last : List Mark) → IsRemarked new last start
        → AreOpenBefore parents (set tree first None) last (start + 1)
    unfolding cut
    opening_round last r = opening_cut last r
