-- A walk round a cycle.
use Rattle.std.proofs.Common.{◌≡◌, ◌≢◌, sym, ◌∙◌, ap, subst, ℕ, ◌<◌, ◌≤◌, min, ◌⊎◌, inl, inr, refl}
use Rattle.std.proofs.Common.{Option, Some, None, List, length, set, length-set, arith}
use Rattle.std.proofs.lemmas.Bool.{cases_lt}
use Rattle.trace_tree.specs.Parents.{parent_at}
use Rattle.trace_tree.specs.Cycles.{HasAncestor, parent, above, OpensCycle}
use Rattle.trace_tree.specs.Walks.{mark_at, LeadsTo, IsRound, IsRemarked}
use Rattle.trace_tree.specs.declared.cycles.Mark.{Mark}
use Rattle.trace_tree.specs.declared.cycles.Mark.TheVariants.{Unseen, SeenFrom, OnCycle}
use Rattle.trace_tree.proofs.Sets.{set_cases}
use Rattle.trace_tree.proofs.Ancestors.{one_parent, cycle_along, leads_push}

-- The mark of a walk isn't the mark of a cycle.
pub seen_is_not_cycle : (start : ℕ) → SeenFrom start ≢ OnCycle
seen_is_not_cycle start e = cc

-- the walk round came to the span
pub record IsVisited (old new : List Mark) (start k : ℕ) : Type 0 where
  pub was : mark_at old k ≡ SeenFrom start
  pub is : mark_at new k ≡ OnCycle

-- it came there, and went on to its parent
pub record IsPassed (parents : List (Option ℕ)) (old new : List Mark)
    (start first at k : ℕ) : Type 0 where
  pub least : first ≤ k
  pub next : ℕ
  pub is_next : parent_at parents k ≡ Some next
  pub goes : IsVisited old new start next ⊎ (next ≡ at)

-- The walk round is at this span, and the first one so far is this.
pub record IsRounding (parents : List (Option ℕ)) (old new : List Mark)
    (start entry first at : ℕ) : Type 0 where
  pub at_in_list : at < length parents
  pub first_in_list : first < length parents
  pub same_length : length new ≡ length old
  pub old_length : length old ≡ length parents
  pub each : (k : ℕ)
      → (mark_at new k ≡ mark_at old k)
      ⊎ ((mark_at old k ≡ SeenFrom start) × (mark_at new k ≡ OnCycle))
  pub here : mark_at old at ≡ SeenFrom start
  pub leads_here : LeadsTo parents entry at
  pub passed : (k : ℕ) → IsVisited old new start k → IsPassed parents old new start first at k
  pub leads_first : LeadsTo parents entry first
  pub first_visited : IsVisited old new start first ⊎ (first ≡ at)

module _ (parents : List (Option ℕ)) (old : List Mark) (start entry : ℕ)
    (round : IsRound parents old start entry) where
  -- A walk round a cycle is at its entry at first, and has marked nothing yet.
  pub rounding_first : length old ≡ length parents → entry < length parents
      → IsRounding parents old old start entry entry entry
  rounding_first long within = record {
    at_in_list = within;
    first_in_list = within;
    same_length = refl;
    old_length = long;
    each = λ k. inl refl;
    here = round.marked;
    leads_here = inl refl;
    passed = λ k v. absurd (seen_is_not_cycle start (sym v.was ∙ v.is));
    leads_first = inl refl;
    first_visited = inr refl;
  }

  module _ (new : List Mark) (first at : ℕ)
      (w : IsRounding parents old new start entry first at) where
    marked : List Mark
    marked = set new at OnCycle

    after : (k : ℕ)
        → ((k ≡ at) × (mark_at marked k ≡ OnCycle))
        ⊎ ((k ≢ at) × (mark_at marked k ≡ mark_at new k))
    unfolding marked
    after k =
        set_cases new at OnCycle Unseen
        (subst (λ n. at < n) (sym (w.same_length ∙ w.old_length)) w.at_in_list) k

    marked_length : length marked ≡ length old
    unfolding marked
    marked_length = length-set new at OnCycle ∙ w.same_length

    was_seen : (k : ℕ) → k ≡ at → mark_at old k ≡ SeenFrom start
    was_seen k same = ap (λ j. mark_at old j) same ∙ w.here

    visited_after : (k : ℕ) → IsVisited old new start k → IsVisited old marked start k
    visited_after k v = record {
      was = v.was;
      is = elim (after k) [ inl h ↦ h.1 | inr h ↦ h.1 ∙ v.is ];
    }

    visited_here : (k : ℕ) → k ≡ at → IsVisited old marked start k
    visited_here k same = record {
      was = was_seen k same;
      is = elim (after k) [ inl h ↦ h.1 | inr h ↦ absurd (h.0 same) ];
    }

    visited_before : (k : ℕ) → k ≢ at → IsVisited old marked start k → IsVisited old new start k
    visited_before k other v = record {
      was = v.was;
      is = elim (after k) [ inl h ↦ absurd (other h.0) | inr h ↦ sym h.1 ∙ v.is ];
    }

    -- the smaller of the two
    least : ℕ
    least = min first at

    least_cases : (least ≡ first) ⊎ (least ≡ at)
    unfolding least
    least_cases = elim (cases_lt first at) [
      | inl h ↦ let e : min first at ≡ first = omega arith in inl e
      | inr h ↦ let e : min first at ≡ at = omega arith in inr e
    ]

    least_below : (least ≤ first) × (least ≤ at)
    unfolding least
    least_below = (omega arith, omega arith)

    first_after : IsVisited old marked start first
    first_after =
        elim w.first_visited [ inl v ↦ visited_after first v | inr same ↦ visited_here first same ]

    least_after : IsVisited old marked start least
    least_after = elim least_cases [
      | inl e ↦ subst (λ x. IsVisited old marked start x) (sym e) first_after
      | inr e ↦ visited_here least e
    ]

    least_in_list : least < length parents
    least_in_list = elim least_cases [
      | inl e ↦ subst (λ x. x < length parents) (sym e) w.first_in_list
      | inr e ↦ subst (λ x. x < length parents) (sym e) w.at_in_list
    ]

    leads_least : LeadsTo parents entry least
    leads_least = elim least_cases [
      | inl e ↦ subst (λ x. LeadsTo parents entry x) (sym e) w.leads_first
      | inr e ↦ subst (λ x. LeadsTo parents entry x) (sym e) w.leads_here
    ]

    module _ (p : ℕ) (up : parent_at parents at ≡ Some p) where
      passed_here : (k : ℕ) → k ≡ at → IsPassed parents old marked start least p k
      passed_here k same = record {
        least = subst (λ x. least ≤ x) (sym same) least_below.1;
        next = p;
        is_next = subst (λ x. parent_at parents x ≡ Some p) (sym same) up;
        goes = inr refl;
      }

      passed_before : (k : ℕ) → IsPassed parents old new start first at k
          → IsPassed parents old marked start least p k
      passed_before k h = record {
        least =
            let below : least ≤ first = least_below.0 in
            let more : first ≤ k = h.least in
            omega arith;
        next = h.next;
        is_next = h.is_next;
        goes =
            inl
            (elim h.goes [ inl v ↦ visited_after h.next v | inr same ↦ visited_here h.next same ]);
      }

      passed_after : (k : ℕ) → IsVisited old marked start k
          → IsPassed parents old marked start least p k
      passed_after k v = elim (after k) [
        | inl h ↦ passed_here k h.0
        | inr h ↦ passed_before k (w.passed k (visited_before k h.0 v))
      ]

      next_seen : mark_at old p ≡ SeenFrom start
      next_seen =
          let c = round.closed at w.here in
          ap (λ j. mark_at old j) (one_parent parents at p c.0 up c.1) ∙ c.2

      rounding_on : p < length parents → IsRounding parents old marked start entry least p
      rounding_on within = record {
        at_in_list = within;
        first_in_list = least_in_list;
        same_length = marked_length;
        old_length = w.old_length;
        each = λ k. elim (after k) [
          | inl h ↦ inr (was_seen k h.0, h.1)
          | inr h ↦ elim (w.each k) [ inl e ↦ inl (h.1 ∙ e) | inr v ↦ inr (v.0, h.1 ∙ v.1) ]
        ];
        here = next_seen;
        leads_here = leads_push parents entry at p w.leads_here up;
        passed = passed_after;
        leads_first = leads_least;
        first_visited = inl least_after;
      }

      -- A walk round a cycle goes on to the parent, and keeps the first span in the list so far.
      pub rounding_more : p < length parents
          → IsRounding parents old (set new at OnCycle) start entry (min first at) p
      unfolding marked least
      rounding_more within = rounding_on within

    -- it is back at a span that it came to
    module _ (back : mark_at new at ≢ SeenFrom start) where
      at_visited : IsVisited old new start at
      at_visited = record {
        was = w.here;
        is = elim (w.each at) [ inl e ↦ absurd (back (e ∙ w.here)) | inr v ↦ v.1 ];
      }

      visited_at : (k : ℕ) → k ≡ at → IsVisited old new start k
      visited_at k same = subst (λ x. IsVisited old new start x) (sym same) at_visited

      visited_next : (k p : ℕ) → IsVisited old new start k → parent_at parents k ≡ Some p
          → IsVisited old new start p
      visited_next k p v e =
          let h = w.passed k v in
          let same : h.next ≡ p = one_parent parents k h.next p h.is_next e in
          subst (λ x. IsVisited old new start x) same
          (elim h.goes [ inl g ↦ g | inr g ↦ visited_at h.next g ])

      visited_above : {k a : ℕ} → HasAncestor parents k a → IsVisited old new start k
          → IsVisited old new start a
      visited_above (parent {k = k} {p = p} e) v = visited_next k p v e
      visited_above (above {k = k} {p = p} e h) v = visited_above h (visited_next k p v e)

      visited_first : IsVisited old new start first
      visited_first = elim w.first_visited [ inl v ↦ v | inr same ↦ visited_at first same ]

      -- Once a walk round a cycle is back, the first span that it passed opens the cycle.
      pub rounded : OpensCycle parents first
      rounded = record {
        on_cycle = elim w.leads_first [
          | inl same ↦ subst (λ x. HasAncestor parents x x) same round.on_cycle
          | inr h ↦ cycle_along parents round.on_cycle h
        ];
        first = λ a h. (w.passed a (visited_above h visited_first)).least;
      }

    -- A walk round a cycle has changed only marks of its own walk, to marks of a cycle.
    pub remarked : IsRemarked old new start
    remarked = record { same_length = w.same_length; each = w.each }

    -- A span with the mark of the walk round a cycle has a parent.
    pub never_none : parent_at parents at ≡ None → ⊥
    never_none none = let c = round.closed at w.here in none_is_some c.0 (sym none ∙ c.1)
      where
        none_is_some : (p : ℕ) → None ≡ Some p → ⊥
        none_is_some p e = cc
