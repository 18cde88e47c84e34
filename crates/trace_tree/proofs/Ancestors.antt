-- Ancestors, cycles of them, and trees without cycles.
use Rattle.std.proofs.Common.{◌≡◌, sym, ◌∙◌, subst, ℕ, ◌≤◌, ◌⊎◌, inl, inr, refl, Option, Some, None}
use Rattle.std.proofs.Common.{List, arith}
use Rattle.std.proofs.lemmas.Option.{none-some, same_Some}
use Rattle.trace_tree.specs.Parents.{parent_at}
use Rattle.trace_tree.specs.Cycles.{HasAncestor, parent, above, EndsAtTop, topmost, beneath}
use Rattle.trace_tree.specs.Cycles.{OpensCycle, IsOpened}
use Rattle.trace_tree.specs.Walks.{LeadsTo}

module _ (parents : List (Option ℕ)) where
  -- The parent of an ancestor is an ancestor.
  pub ancestor_push : {k m p : ℕ} → HasAncestor parents k m → parent_at parents m ≡ Some p
      → HasAncestor parents k p
  ancestor_push (parent e) f = above e (parent f)
  ancestor_push (above e h) f = above e (ancestor_push h f)

  ancestor_trans : {k m a : ℕ} → HasAncestor parents k m → HasAncestor parents m a
      → HasAncestor parents k a
  ancestor_trans (parent e) h = above e h
  ancestor_trans (above e g) h = above e (ancestor_trans g h)

  -- A span has at most one parent.
  pub one_parent : (k p q : ℕ) → parent_at parents k ≡ Some p → parent_at parents k ≡ Some q → p ≡ q
  one_parent k p q e f = same_Some p q (sym e ∙ f)

  -- what is above a span is its parent, or above its parent
  first_step : (m : ℕ) {k a : ℕ} → HasAncestor parents k a → parent_at parents k ≡ Some m
      → LeadsTo parents m a
  first_step m (parent {k = k} {p = p} e) f = inl (one_parent k m p f e)
  first_step m (above {k = k} {p = p} {a = a} e h) f =
      inr (subst (λ x. HasAncestor parents x a) (one_parent k p m e f) h)

  has_parent : {k a : ℕ} → HasAncestor parents k a → (p : ℕ) × (parent_at parents k ≡ Some p)
  has_parent (parent {p = p} e) = (p, e)
  has_parent (above {p = p} e h) = (p, e)

  leads_strictly : (m k : ℕ) → LeadsTo parents m k → HasAncestor parents k k
      → HasAncestor parents m k
  leads_strictly m k l round = elim l [
    | inl same ↦ subst (λ x. HasAncestor parents x k) (sym same) round
    | inr h ↦ h
  ]

  -- the parent of a span on a cycle is on it, and so are all ancestors
  cycle_step : (k m : ℕ) → HasAncestor parents k k → parent_at parents k ≡ Some m
      → HasAncestor parents m m
  cycle_step k m round e = ancestor_push (leads_strictly m k (first_step m round e) round) e

  -- The ancestors of a span on a cycle are on cycles, too.
  pub cycle_along : {k a : ℕ} → HasAncestor parents k k → HasAncestor parents k a
      → HasAncestor parents a a
  cycle_along round (parent {k = k} {p = p} e) = cycle_step k p round e
  cycle_along round (above {k = k} {p = p} e h) = cycle_along (cycle_step k p round e) h

  cycle_back : {k a : ℕ} → HasAncestor parents k k → HasAncestor parents k a
      → HasAncestor parents a k
  cycle_back round (parent {k = k} {p = p} e) = leads_strictly p k (first_step p round e) round
  cycle_back round (above {k = k} {p = p} e h) =
      ancestor_trans (cycle_back (cycle_step k p round e) h)
      (leads_strictly p k (first_step p round e) round)

  -- A walk that leads to a span leads to the parent of this span.
  pub leads_push : (k m p : ℕ) → LeadsTo parents k m → parent_at parents m ≡ Some p
      → LeadsTo parents k p
  leads_push k m p l e = elim l [
    | inl same ↦ inr (subst (λ x. HasAncestor parents x p) (sym same) (parent e))
    | inr h ↦ inr (ancestor_push h e)
  ]

module _ (parents tree : List (Option ℕ)) (opened : IsOpened parents tree) where
  ends_step : (k p : ℕ) → parent_at parents k ≡ Some p → EndsAtTop tree p → EndsAtTop tree k
  ends_step k p e h =
      elim (opened.each k) [ inl same ↦ beneath (same ∙ e) h | inr cut ↦ topmost cut.0 ]

  ends_along : {k a : ℕ} → HasAncestor parents k a → EndsAtTop tree a → EndsAtTop tree k
  ends_along (parent {k = k} {p = p} e) h = ends_step k p e h
  ends_along (above {k = k} {p = p} e g) h = ends_step k p e (ends_along g h)

  -- A span that leads to one that ends at the top ends there, too.
  pub ends_leads : (k a : ℕ) → LeadsTo parents k a → EndsAtTop tree a → EndsAtTop tree k
  ends_leads k a l h = elim l [
    | inl same ↦ subst (λ x. EndsAtTop tree x) (sym same) h
    | inr g ↦ ends_along g h
  ]

  -- A span without a parent ends at the top.
  pub ends_at_none : (k : ℕ) → parent_at parents k ≡ None → EndsAtTop tree k
  ends_at_none k e =
      elim (opened.each k) [ inl same ↦ topmost (same ∙ e) | inr cut ↦ topmost cut.0 ]

  -- a cycle that ends at the top has a span that was opened
  opened_on_cycle : {m : ℕ} → EndsAtTop tree m → HasAncestor parents m m
      → (t : ℕ) × LeadsTo parents m t × (parent_at tree t ≡ None) × OpensCycle parents t
  opened_on_cycle (topmost {k = k} e) round = elim (opened.each k) [
    | inl same ↦ let p = has_parent parents round in absurd (none-some p.0 (sym e ∙ same ∙ p.1))
    | inr cut ↦ (k, inl refl, cut.0, cut.1)
  ]
  opened_on_cycle (beneath {k = k} {p = p} e h) round = elim (opened.each k) [
    | inl same ↦
        let f : parent_at parents k ≡ Some p = sym same ∙ e in
        let t = opened_on_cycle h (cycle_step parents k p round f) in (
          t.0,
          elim t.1 [
            | inl here ↦ inr (subst (λ x. HasAncestor parents k x) here (parent f))
            | inr g ↦ inr (above f g)
          ],
          t.2,
          t.3,
        )
    | inr cut ↦ (k, inl refl, cut.0, cut.1)
  ]

  -- A span that opens a cycle has no parent in the opened tree.
  pub opener_is_cut : (k : ℕ) → EndsAtTop tree k → OpensCycle parents k → parent_at tree k ≡ None
  opener_is_cut k ends opens =
      let t = opened_on_cycle ends opens.on_cycle in
      elim t.1 [
        | inl same ↦ subst (λ x. parent_at tree x ≡ None) (sym same) t.2
        | inr h ↦
            let up : k ≤ t.0 = opens.first t.0 h in
            let down : t.0 ≤ k = t.3.first k (cycle_back parents opens.on_cycle h) in
            let same : t.0 ≡ k = omega arith in
            subst (λ x. parent_at tree x ≡ None) same t.2
      ]

-- A tree in which more spans lost their parents still ends at the top where it did.
pub ends_cut : (tree cut : List (Option ℕ))
    → ((k : ℕ) → (parent_at cut k ≡ parent_at tree k) ⊎ (parent_at cut k ≡ None))
    → {k : ℕ} → EndsAtTop tree k → EndsAtTop cut k
ends_cut tree cut each (topmost {k = k} e) =
    elim (each k) [ inl same ↦ topmost (same ∙ e) | inr none ↦ topmost none ]
ends_cut tree cut each (beneath {k = k} e h) = elim (each k) [
  | inl same ↦ beneath (same ∙ e) (ends_cut tree cut each h)
  | inr none ↦ topmost none
]
