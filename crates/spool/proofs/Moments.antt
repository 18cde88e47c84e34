-- How a run of calls of a device goes on.
use Rattle.std.proofs.Common.{◌≡◌, inl, inr, subst, ℕ, arith}
use Rattle.std.proofs.lemmas.Bool.{cases_lt}
use Rattle.spool.specs.Disks.{Disk}
use Rattle.spool.specs.Crashes.{After, Only, LeavesOnly}

module _ {D : Type 0} (moment : D → ℕ) (left_at : D → ℕ → Disk → Type 0) where
  -- Before the first call.
  pub started : (now : D) (P : Disk → Type 0)
      → ((left : Disk) → left_at now (moment now) left → P left)
      → LeavesOnly moment left_at now now P
  started now P here = record {
    later = omega arith;
    past = λ t left le was. was;
    each = λ t left from to was.
        let same : t ≡ moment now = omega (arith, from, to) in
        here left (subst (λ (k : ℕ). left_at now k left) same was);
  }

  -- One run, and then another.
  pub and_then : (old mid new : D) (P : Disk → Type 0) → LeavesOnly moment left_at old mid P
      → LeavesOnly moment left_at mid new P → LeavesOnly moment left_at old new P
  and_then old mid new P first second = record {
    later = omega (arith, first.later, second.later);
    past =
        λ t left le was.
        first.past t left le (second.past t left (omega (arith, le, first.later)) was);
    each = λ t left from to was. elim (cases_lt (moment mid) t) [
      | inl after ↦ second.each t left (omega (arith, after)) to was
      | inr before ↦ first.each t left from before (second.past t left before was)
    ];
  }

  -- What is left meets less.
  pub weaker : (old new : D) (P Q : Disk → Type 0) → ((left : Disk) → P left → Q left)
      → LeavesOnly moment left_at old new P → LeavesOnly moment left_at old new Q
  weaker old new P Q less run = record {
    later = run.later;
    past = run.past;
    each = λ t left from to was. less left (run.each t left from to was);
  }

  -- A call from files that are on the disk.
  pub from-only : (old new : D) (disk : Disk) (Call : Disk → Disk → Type 0)
      → Only disk (left_at old (moment old))
      → LeavesOnly moment left_at old new (After Call (left_at old (moment old)))
      → LeavesOnly moment left_at old new (Call disk)
  from-only old new disk Call only run =
      weaker old new (After Call (left_at old (moment old))) (Call disk)
      (λ left after. subst (λ (d : Disk). Call d left) (only after.0 after.1) after.2) run

  -- A call that leaves what might have been left.
  pub then-same : (old mid new : D) (P : Disk → Type 0) → LeavesOnly moment left_at old mid P
      → LeavesOnly moment left_at mid new (left_at mid (moment mid))
      → LeavesOnly moment left_at old new P
  then-same old mid new P first second =
      and_then old mid new P first
      (weaker mid new (left_at mid (moment mid)) P
      (λ left was. first.each (moment mid) left first.later (omega arith) was) second)
