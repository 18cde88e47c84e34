-- What is left once the oldest file was removed, as the spool knows it.
use Rattle.std.proofs.Common.{◌≡◌, inl, inr, refl, sym, ap, ap₂, ◌∙◌, subst, ℕ, ◌-◌}
use Rattle.std.proofs.Common.{◌≤◌}
use Rattle.std.proofs.Common.{List, [], ◌∷◌, ◌++◌, length, map, drop, arith, length-append}
use Rattle.std.specs.Prelude.{Option, Some, None, IsSome}
use Rattle.std.specs.Option.{option_to_list}
use Rattle.spool.specs.Disks.{SpoolFile, Disk, disk_size}
use Rattle.spool.specs.Crashes.{Removed, Only, LeavesOnly}
use Rattle.spool.specs.Spools.{end_of, done_to, next_number, waiting, CanGrow, Rises}
use Rattle.spool.specs.Settled.{segment_of, IsSettled, IsNoted, IsNoLarger}
use Rattle.spool.specs.declared.state.Segment.{Segment}
use Rattle.spool.specs.declared.state.Spool.{Spool}
use Rattle.spool.proofs.Moments.{weaker}
use Rattle.spool.proofs.PutLaws.{without-first, grows-without}
use Rattle.spool.proofs.RiseLaws.{rises-without}

-- Two files at least: the oldest, and one that grows.
record TwoFiles (disk : Disk) (first : Segment) (others : List Segment)
    (growing : Option Segment) : Type 0 where
  pub oldest : SpoolFile
  pub second : SpoolFile
  pub more : Disk
  pub are : disk ≡ oldest ∷ second ∷ more
  pub first_is : segment_of oldest ≡ first
  pub others_are : others ++ option_to_list growing ≡ map segment_of (second ∷ more)

none-after : (others : List Segment) (growing : Option Segment) → IsSome growing
    → others ++ option_to_list growing ≡ [] → ⊥
none-after others None some is = cc
none-after others (Some s) some is = omega (arith, ap length is, length-append others (s ∷ []))

-- Where the older segments have a first one.
two-files : (disk : Disk) (first : Segment) (others : List Segment) (growing : Option Segment)
    → IsSome growing → first ∷ (others ++ option_to_list growing) ≡ map segment_of disk
    → TwoFiles disk first others growing
two-files [] first others growing some is = absurd (cc)
two-files (f ∷ []) first others growing some is =
    let none : others ++ option_to_list growing ≡ [] = cc in
    absurd (none-after others growing some none)
two-files (f ∷ g ∷ disk) first others growing some is =
    record { oldest = f; second = g; more = disk; are = refl; first_is = cc; others_are = cc }

left-removed : (disk left : Disk) (f g : SpoolFile) (more : Disk) → disk ≡ f ∷ g ∷ more
    → IsNoted disk → end_of f ≤ done_to disk → Removed disk left → IsNoLarger disk left
left-removed disk left f g more are noted ended (inl same) =
    record {
      waits = ap waiting same;
      size = omega (arith, ap disk_size same);
      rises = λ rises. subst Rises (sym same) rises;
    }
left-removed disk left f g more are noted ended (inr removed) =
    let w =
    without-first f g more (subst IsNoted are noted)
    (subst (λ (d : Disk). end_of f ≤ done_to d) are ended) in
    let now : left ≡ g ∷ more = removed ∙ ap (λ (d : Disk). drop 1 d) are in
    record {
      waits = ap waiting now ∙ (w.waits ∙ ap waiting (sym are));
      size = omega (arith, ap disk_size now, w.size, ap disk_size are);
      rises = λ rises. subst Rises (sym removed) (rises-without disk rises);
    }

noted-removed : (disk left : Disk) (f g : SpoolFile) (more : Disk) → disk ≡ f ∷ g ∷ more
    → IsNoted disk → end_of f ≤ done_to disk → left ≡ drop 1 disk → IsNoted left
noted-removed disk left f g more are noted ended removed =
    let there = subst IsNoted are noted in
    let w = without-first f g more there (subst (λ (d : Disk). end_of f ≤ done_to d) are ended) in
    subst IsNoted (sym (removed ∙ ap (λ (d : Disk). drop 1 d) are)) (there ∙ sym w.done)

module _ {D : Type 0} (files : D → Disk) (moment : D → ℕ) (left_at : D → ℕ → Disk → Type 0)
    (old : Spool D) (was : IsSettled files moment left_at old) (first : Segment)
    (others : List Segment) (is : old.older.items ≡ first ∷ others)
    (some : IsSome old.growing) where
  -- The files that there are.
  files-are : TwoFiles (files old.device) first others old.growing
  files-are =
      two-files (files old.device) first others old.growing some
      (ap (λ (l : List Segment). l ++ option_to_list old.growing) (sym is) ∙ was.segments)

  -- All bodies of the oldest are noted.
  oldest-ended : first.«end» ≤ old.done → end_of files-are.oldest ≤ done_to (files old.device)
  oldest-ended ended =
      omega (arith, ended, was.done, ap (λ (s : Segment). s.«end») files-are.first_is)

  -- The same bodies wait without the oldest file, or with it.
  pub removed-leaves : IsNoted (files old.device) → first.«end» ≤ old.done → (left : Disk)
      → Removed (files old.device) left → IsNoLarger (files old.device) left
  removed-leaves noted ended left removed =
      let t = files-are in
      left-removed (files old.device) left t.oldest t.second t.more t.are noted
      (oldest-ended ended) removed

  -- So the same is left while it is removed.
  pub removal-leaves : IsNoted (files old.device) → first.«end» ≤ old.done → (new : D)
      → LeavesOnly moment left_at old.device new (Removed (files old.device))
      → LeavesOnly moment left_at old.device new (IsNoLarger (files old.device))
  removal-leaves noted ended new run =
      weaker moment left_at old.device new (Removed (files old.device))
      (IsNoLarger (files old.device)) (removed-leaves noted ended) run

  -- The newest file notes all that is noted, as before.
  pub removed-noted : IsNoted (files old.device) → first.«end» ≤ old.done → (left : Disk)
      → left ≡ drop 1 (files old.device) → IsNoted left
  removed-noted noted ended left removed =
      let t = files-are in
      noted-removed (files old.device) left t.oldest t.second t.more t.are noted
      (oldest-ended ended) removed

  -- After the oldest file was removed.
  pub settled-removed : (new : Spool D) → IsNoted (files old.device) → first.«end» ≤ old.done
      → new.older.items ≡ others → new.growing ≡ old.growing → new.done ≡ old.done
      → new.next ≡ old.next → new.size ≡ old.size - first.len
      → files new.device ≡ drop 1 (files old.device)
      → Only (files new.device) (left_at new.device (moment new.device))
      → IsSettled files moment left_at new
  settled-removed new noted ended older growing done next size removed only =
      let t = files-are in
      let now : files new.device ≡ t.second ∷ t.more =
      removed ∙ ap (λ (d : Disk). drop 1 d) t.are in
      let w =
      without-first t.oldest t.second t.more (subst IsNoted t.are noted)
      (subst (λ (d : Disk). end_of t.oldest ≤ done_to d) t.are (oldest-ended ended)) in
      let len : first.len ≡ length t.oldest.bytes = ap (λ (s : Segment). s.len) (sym t.first_is) in
      record {
        segments =
            ap₂ (λ (l : List Segment) (o : Option Segment). l ++ option_to_list o) older growing
            ∙ (t.others_are ∙ ap (map segment_of) (sym now));
        done = done ∙ (was.done ∙ (ap done_to t.are ∙ (sym w.done ∙ ap done_to (sym now))));
        next = next ∙ (was.next ∙ (ap next_number t.are ∙ (sym w.next ∙ ap next_number (sym now))));
        size = omega (arith, size, was.size, len, w.size, ap disk_size t.are, ap disk_size now);
        grows =
            λ _. subst CanGrow (sym now)
            (grows-without t.oldest t.second t.more w.next (subst CanGrow t.are (was.grows some)));
        rises = subst Rises (sym removed) (rises-without (files old.device) was.rises);
        durable = only;
      }
