-- What a put leaves, by the steps that it takes.
use Rattle.std.proofs.Common.{◌≡◌, sym, ap, ap₂, ◌∙◌, subst, ℕ, ◌+◌, ◌≤◌}
use Rattle.std.proofs.Common.{List, ◌++◌, length, map, take, arith}
use Rattle.std.specs.List.{AllByRecursion, enumerate_from}
use Rattle.std.proofs.lemmas.List.{append-nil}
use Rattle.spool.specs.Disks.{Disk, grow_last, disk_size}
use Rattle.spool.specs.Crashes.{Appended, LeavesOnly}
use Rattle.spool.specs.Records.{IsContent, body_content, spelled}
use Rattle.spool.specs.Spools.{done_to, next_number, waiting, waiting_from, CanGrow}
use Rattle.spool.specs.Spools.{reserved, Rises}
use Rattle.spool.specs.Spools.{LeftByPut}
use Rattle.spool.specs.Settled.{IsSame, IsPut, IsRoom, Grows, IsRolled, LeftByAdding}
use Rattle.spool.proofs.Moments.{weaker, and_then}
use Rattle.spool.proofs.PutLaws.{put_contents, put-cut, put-whole}

-- The same bodies wait.
pub same-waiting : (disk left : Disk) → IsSame disk left → waiting left ≡ waiting disk
unfolding waiting
same-waiting disk left same =
    ap (λ (n : ℕ). waiting_from n left) same.done ∙ same.waits (done_to disk)

-- What is left while the files are rolled over is left by a put.
pub left-by-rolled : (disk left : Disk) (bs : List (List ℕ)) (limit : ℕ) → Rises disk
    → IsRolled disk left → LeftByPut disk bs limit left
left-by-rolled disk left bs limit rises rolled = record {
  count = 0;
  few = omega arith;
  waits = rolled.waits ∙ sym (append-nil (waiting disk));
  within = omega (arith, rolled.size);
  rises = rolled.rises rises;
}

-- So are the same files.
pub left-by-none : (disk left : Disk) (bs : List (List ℕ)) (limit : ℕ) → Rises disk → left ≡ disk
    → LeftByPut disk bs limit left
left-by-none disk left bs limit rises is = record {
  count = 0;
  few = omega arith;
  waits = ap waiting is ∙ sym (append-nil (waiting disk));
  within = omega (arith, ap disk_size is);
  rises = subst Rises (sym is) rises;
}

-- What is left while bodies are added to files where the same ones wait, with the same next number.
pub left-by-adding : (disk now left : Disk) (bs : List (List ℕ)) (limit : ℕ)
    → waiting now ≡ waiting disk → next_number now ≡ next_number disk
    → LeftByAdding now bs limit left → LeftByPut disk bs limit left
left-by-adding disk now left bs limit waits next added = record {
  count = added.count;
  few = added.few;
  waits =
      added.waits
      ∙ ap₂ (λ (l : List (ℕ × List ℕ)) (n : ℕ). l ++ enumerate_from n (take added.count bs)) waits
      next;
  within = omega (arith, added.within);
  rises = added.rises;
}

-- What is left by a put, whether the files were rolled over or not.
pub put-leaves : {D : Type 0} (moment : D → ℕ) (left_at : D → ℕ → Disk → Type 0) (old mid new : D)
    (disk now : Disk) (bs : List (List ℕ)) (limit : ℕ) → Rises disk
    → waiting now ≡ waiting disk → next_number now ≡ next_number disk
    → LeavesOnly moment left_at old mid (IsRolled disk)
    → LeavesOnly moment left_at mid new (LeftByAdding now bs limit)
    → LeavesOnly moment left_at old new (LeftByPut disk bs limit)
put-leaves moment left_at old mid new disk now bs limit rises waits next first second =
    and_then moment left_at old mid new (LeftByPut disk bs limit)
    (weaker moment left_at old mid (IsRolled disk) (LeftByPut disk bs limit)
    (λ left it. left-by-rolled disk left bs limit rises it) first)
    (weaker moment left_at mid new (LeftByAdding now bs limit) (LeftByPut disk bs limit)
    (λ left it. left-by-adding disk now left bs limit waits next it) second)

-- What is left before records of bodies are added.
pub added-none : (disk left : Disk) (bs : List (List ℕ)) (more : List ℕ) (next size limit : ℕ)
    → Rises disk → IsPut disk bs more next size limit → IsSame disk left
    → LeftByAdding disk bs limit left
added-none disk left bs more next size limit rises put same = record {
  count = 0;
  few = omega arith;
  waits = same-waiting disk left same ∙ sym (append-nil (waiting disk));
  within = omega (arith, same.size, put.size_is, put.within);
  rises = same.rises rises;
}

-- Records of bodies for which there is room.
pub is-put : (now : Disk) (bs : List (List ℕ)) (more : List ℕ) (len count size next limit : ℕ)
    → AllByRecursion IsContent (map body_content bs) → more ≡ spelled (map body_content bs)
    → len ≡ length more → count ≡ length bs → IsRoom now len count size next limit
    → IsPut now bs more next size limit
is-put now bs more len count size next limit fits written sized counted room = record {
  fits = fits;
  written = written;
  next_is = omega (arith, room.next_is, counted);
  size_is = omega (arith, room.size_is, sized);
  within = room.within;
}

module _ (disk now : Disk) (rises : Rises disk) (same : IsSame disk now) (can : CanGrow now)
    (bs : List (List ℕ)) (more : List ℕ) (next size limit : ℕ)
    (put : IsPut disk bs more next size limit) where
  -- What is left while the records are written.
  added-some : (left : Disk) → Appended more now left → LeftByAdding disk bs limit left
  added-some left (k, is) =
      let p =
      put-cut now bs can put.fits limit k
      (omega (arith, put.size_is, put.within, same.size, ap length put.written))
      (same.rises rises) in
      let left_is : left ≡ grow_last (take k (spelled (put_contents bs))) now =
      is ∙ ap (λ (l : List ℕ). grow_last (take k l) now) put.written in
      record {
        count = p.count;
        few = p.few;
        waits =
            ap waiting left_is
            ∙ (p.waits
            ∙ ap₂ (λ (l : List (ℕ × List ℕ)) (n : ℕ). l ++ enumerate_from n (take p.count bs))
            (same-waiting disk now same) same.next);
        within = omega (arith, p.within, ap disk_size left_is);
        rises = subst Rises (sym left_is) p.rises;
      }

  -- So is what is left from the beginning of the call on.
  pub added-leaves : {D : Type 0} (moment : D → ℕ) (left_at : D → ℕ → Disk → Type 0)
      (old mid new : D) → LeavesOnly moment left_at old mid (IsSame disk)
      → LeavesOnly moment left_at mid new (Appended more now)
      → LeavesOnly moment left_at old new (LeftByAdding disk bs limit)
  added-leaves moment left_at old mid new first second =
      and_then moment left_at old mid new (LeftByAdding disk bs limit)
      (weaker moment left_at old mid (IsSame disk) (LeftByAdding disk bs limit)
      (λ left it. added-none disk left bs more next size limit rises put it) first)
      (weaker moment left_at mid new (Appended more now) (LeftByAdding disk bs limit) added-some
      second)

  -- The files grow as the spool then knows them.
  pub put-grows : (done : ℕ) → done ≡ done_to now → Grows now more next done size
  put-grows done done_is =
      let p = put-whole now bs can put.fits in
      let next_is : next ≡ next_number now + length bs = omega (arith, put.next_is, same.next) in
      let size_is : size ≡ disk_size now + length (spelled (put_contents bs)) =
      omega (arith, put.size_is, same.size, ap length put.written) in
      subst (λ (l : List ℕ). Grows now l next done size) (sym put.written) (record {
        can = can;
        next_is = next_is ∙ sym p.next;
        done_is = done_is ∙ sym p.done;
        size_is = size_is ∙ sym p.size;
        still = p.grows;
        end = p.end ∙ sym next_is;
      })

  -- The bodies wait after those that waited.
  pub put-waiting : (after : Disk) (first : ℕ) → after ≡ grow_last more now
      → first ≡ next_number disk → waiting after ≡ waiting disk ++ enumerate_from first bs
  put-waiting after first is first_is =
      ap waiting (is ∙ ap (λ (l : List ℕ). grow_last l now) put.written)
      ∙ ((put-whole now bs can put.fits).waits
      ∙ ap₂ (λ (l : List (ℕ × List ℕ)) (n : ℕ). l ++ enumerate_from n bs)
      (same-waiting disk now same) (same.next ∙ sym first_is))

  -- With notes of all deliveries the files stay within the limit.
  pub put-bound : (after : Disk) → after ≡ grow_last more now → reserved after ≤ limit
  unfolding reserved
  put-bound after is =
      let p = put-whole now bs can put.fits in
      let at = is ∙ ap (λ (l : List ℕ). grow_last l now) put.written in
      omega (
        arith,
        put.within,
        put.next_is,
        put.size_is,
        ap length put.written,
        ap disk_size at ∙ p.size,
        ap next_number at ∙ p.next,
        ap done_to at ∙ p.done,
        same.size,
        same.next,
        same.done,
      )
