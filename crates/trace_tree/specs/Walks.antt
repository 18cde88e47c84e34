-- Walks from spans to their parents, which mark the spans that they come to.
use Rattle.std.specs.Prelude.{◌≡◌, ◌≢◌, ℕ, ◌<◌, ◌⊎◌, Bool, true, false, Option, Some, None, List}
use Rattle.std.specs.Prelude.{length}
use Rattle.std.specs.List.{slice_index_or}
use Rattle.trace_tree.specs.Parents.{parent_at}
use Rattle.trace_tree.specs.Cycles.{HasAncestor, EndsAtTop, IsOpened}
use Rattle.trace_tree.specs.declared.cycles.Mark.{Mark}
use Rattle.trace_tree.specs.declared.cycles.Mark.TheVariants.{Unseen, SeenFrom, OnCycle}

-- the mark of the span in this place
abbrev pub mark_at : List Mark → ℕ → Mark
mark_at marks k = slice_index_or marks k Unseen

abbrev pub is_unseen : Mark → Bool
is_unseen Unseen = true
is_unseen (SeenFrom start) = false
is_unseen OnCycle = false

abbrev pub is_seen : Mark → Bool
is_seen Unseen = false
is_seen (SeenFrom start) = true
is_seen OnCycle = false

-- the one is the other, or has it as an ancestor
abbrev pub LeadsTo : List (Option ℕ) → ℕ → ℕ → Type 0
LeadsTo parents k a = (k ≡ a) ⊎ HasAncestor parents k a

-- no span has the mark of a walk from this one
pub record IsFresh (marks : List Mark) (start : ℕ) : Type 0 where
  pub none : (k : ℕ) → mark_at marks k ≢ SeenFrom start

-- A walk from this span marked spans without a mark, and they lead to the last one.
pub record IsWalk (parents : List (Option ℕ)) (old new : List Mark) (start last : ℕ) : Type 0 where
  pub same_length : length new ≡ length old
  pub each : (k : ℕ) → (mark_at new k ≡ mark_at old k) ⊎ (mark_at new k ≡ SeenFrom start)
  pub kept : (k : ℕ) → mark_at old k ≢ Unseen → mark_at new k ≡ mark_at old k
  pub started : mark_at new start ≢ Unseen
  pub leads : (k : ℕ) → mark_at new k ≡ SeenFrom start → LeadsTo parents k last

-- it ends at a span without a parent, or at one that an earlier walk came to
pub record IsWalkUp (parents : List (Option ℕ)) (old new : List Mark) (start last : ℕ)
    : Type 0 where
  pub walk : IsWalk parents old new start last
  pub ends : (parent_at parents last ≡ None) ⊎ (mark_at old last ≢ Unseen)

-- The spans with the mark of this walk have parents with that mark, and one of them is on a cycle.
pub record IsRound (parents : List (Option ℕ)) (marks : List Mark) (start at : ℕ) : Type 0 where
  pub marked : mark_at marks at ≡ SeenFrom start
  pub closed : (k : ℕ) → mark_at marks k ≡ SeenFrom start
      → (p : ℕ) × (parent_at parents k ≡ Some p) × (mark_at marks p ≡ SeenFrom start)
  pub on_cycle : HasAncestor parents at at

-- Some spans with the mark of this walk have that of a cycle now.
pub record IsRemarked (old new : List Mark) (start : ℕ) : Type 0 where
  pub same_length : length new ≡ length old
  pub each : (k : ℕ) → (mark_at new k ≡ mark_at old k)
      ⊎ ((mark_at old k ≡ SeenFrom start) × (mark_at new k ≡ OnCycle))

-- Walks came from all spans before this one, and what they came to leads to a top.
pub record AreOpenBefore (parents tree : List (Option ℕ)) (marks : List Mark) (start : ℕ)
    : Type 0 where
  pub opened : IsOpened parents tree
  pub marks_length : length marks ≡ length parents
  pub ends : (k : ℕ) → mark_at marks k ≢ Unseen → EndsAtTop tree k
  pub from : (k s : ℕ) → mark_at marks k ≡ SeenFrom s → s < start
  pub seen : (k : ℕ) → k < start → mark_at marks k ≢ Unseen
