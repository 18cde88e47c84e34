-- What a note leaves, by the steps that it takes.
use Rattle.std.proofs.Common.{◌≡◌, ◌⊎◌, inl, inr, sym, ap, ◌∙◌, subst, ℕ, ◌+◌, ◌<◌}
use Rattle.std.proofs.Common.{◌≤◌, min, max}
use Rattle.std.proofs.Common.{List, [], ◌∷◌, ◌++◌, length, take, arith}
use Rattle.std.proofs.lemmas.List.Elements.{filter_map-append}
use Rattle.spool.specs.Disks.{Disk, grown, grow_last, disk_size}
use Rattle.spool.specs.Crashes.{Appended, LeavesOnly}
use Rattle.spool.specs.Records.{note_content, note_size, contents, notes}
use Rattle.spool.specs.Records.{noted_by}
use Rattle.spool.specs.Spools.{done_to, next_number, waiting, waiting_from, CanGrow}
use Rattle.spool.specs.Spools.{reserved, Rises}
use Rattle.spool.specs.Spools.{numbered_from, LeftByNote, notes_in, greatest}
use Rattle.spool.specs.Settled.{IsSame, IsNote, Grows, IsNoted, IsNoLarger, last_done}
use Rattle.spool.proofs.Moments.{weaker, and_then}
use Rattle.spool.proofs.StateLaws.{same-refl}
use Rattle.spool.proofs.CallLaws.{same-waiting}
use Rattle.spool.proofs.RecordLaws.{read-on, read-spelled}
use Rattle.spool.proofs.ContentLaws.{notes-note}
use Rattle.spool.proofs.DiskLaws.{greatest-append, grow-front, whole-rest}
use Rattle.spool.proofs.PutLaws.{Noted, note_bytes, note-whole, note-cut, note-size, length-note}
use Rattle.spool.proofs.PutLaws.{noted-waiting}
use Rattle.spool.proofs.PutLaws.{last-done-at, last-done-below}
use Rattle.spool.proofs.RiseLaws.{rises-grown}

-- What means the same is left by a note.
pub left-by-same : (disk left : Disk) (number : ℕ) → Rises disk → IsSame disk left
    → LeftByNote disk number left
unfolding reserved
left-by-same disk left number rises same = record {
  waits = inl (same-waiting disk left same);
  within = omega (arith, same.size);
  rises = same.rises rises;
}

-- So are the same files.
pub left-by-none : (disk left : Disk) (number : ℕ) → Rises disk → left ≡ disk
    → LeftByNote disk number left
left-by-none disk left number rises is =
    left-by-same disk left number rises (same-refl disk left is)

-- Where all below a number is noted already.
pub noted-before : (disk : Disk) (number : ℕ) → min number (next_number disk) ≤ done_to disk
    → waiting disk ≡ numbered_from number (waiting disk)
unfolding waiting
noted-before disk number le =
    let same : done_to disk ≡ max (min number (next_number disk)) (done_to disk) =
    omega (arith, le) in
    ap (λ (n : ℕ). waiting_from n disk) same ∙ noted-waiting disk number

-- Of the numbers up to the next one, and of greater ones, the same is noted.
pub same-numbered : (disk : Disk) (number noted : ℕ) → noted ≡ min number (next_number disk)
    → numbered_from noted (waiting disk) ≡ numbered_from number (waiting disk)
same-numbered disk number noted is =
    let same : max (min noted (next_number disk)) (done_to disk)
    ≡ max (min number (next_number disk)) (done_to disk) = omega (arith, is) in
    sym (noted-waiting disk noted)
    ∙ (ap (λ (n : ℕ). waiting_from n disk) same ∙ noted-waiting disk number)

-- So the same is left.
pub left-by-noted : (disk left : Disk) (number noted : ℕ) → noted ≡ min number (next_number disk)
    → LeftByNote disk noted left → LeftByNote disk number left
left-by-noted disk left number noted is by = record {
  waits = elim by.waits [
    | inl before ↦ inl before
    | inr after ↦ inr (after ∙ same-numbered disk number noted is)
  ];
  within = by.within;
  rises = by.rises;
}

-- What is left while files are removed after it.
left-by-removal : (disk : Disk) (number : ℕ) (after left : Disk)
    → disk_size disk + note_size ≤ reserved disk
    → waiting after ≡ numbered_from number (waiting disk)
    → disk_size after ≡ disk_size disk + note_size → Rises after → IsNoLarger after left
    → LeftByNote disk number left
left-by-removal disk number after left room waits size rises no_larger = record {
  waits = inr (no_larger.waits ∙ waits);
  within = omega (arith, no_larger.size, size, room);
  rises = no_larger.rises rises;
}

-- There is room for a note.
pub note-room : (disk : Disk) (number : ℕ) (more : List ℕ) (size : ℕ)
    → IsNote disk number more size → done_to disk < number
    → disk_size disk + note_size ≤ reserved disk
unfolding reserved
note-room disk number more size note later = omega (arith, later, note.there)

-- With it nothing more is reserved.
pub note-reserved : (disk : Disk) (number : ℕ) (more : List ℕ) (size : ℕ)
    → IsNote disk number more size → done_to disk < number → (left : Disk)
    → disk_size left ≤ disk_size disk + note_size → next_number left ≡ next_number disk
    → done_to left ≡ number → reserved left ≤ reserved disk
unfolding reserved
note-reserved disk number more size note later left sized next done =
    omega (arith, sized, next, done, later, note.there)

-- What is left while a note is written, and while files are removed after it.
pub noted-leaves : {D : Type 0} (moment : D → ℕ) (left_at : D → ℕ → Disk → Type 0)
    (old mid new : D) (disk after : Disk) (number noted : ℕ) → noted ≡ min number (next_number disk)
    → disk_size disk + note_size ≤ reserved disk
    → LeavesOnly moment left_at old mid (LeftByNote disk noted)
    → waiting after ≡ numbered_from noted (waiting disk)
    → disk_size after ≡ disk_size disk + note_size → Rises after
    → LeavesOnly moment left_at mid new (IsNoLarger after)
    → LeavesOnly moment left_at old new (LeftByNote disk number)
noted-leaves moment left_at old mid new disk after number noted is room first waits sized rises
    second =
    weaker moment left_at old new (LeftByNote disk noted) (LeftByNote disk number)
    (λ left by. left-by-noted disk left number noted is by)
    (and_then moment left_at old mid new (LeftByNote disk noted) first
    (weaker moment left_at mid new (IsNoLarger after) (LeftByNote disk noted)
    (λ left it. left-by-removal disk noted after left room waits sized rises it) second))

-- What is left while a note is written.
pub record CutNote (disk : Disk) (number : ℕ) (left : Disk) : Type 0 where
  pub waits : (waiting left ≡ waiting disk) ⊎ (waiting left ≡ numbered_from number (waiting disk))
  pub size : disk_size left ≤ disk_size disk + note_size
  pub rises : Rises left

module _ (disk now : Disk) (rises : Rises disk) (same : IsSame disk now) (can : CanGrow now)
    (number : ℕ) (more : List ℕ) (size : ℕ) (note : IsNote disk number more size) where
  waits : waiting_from number now ≡ numbered_from number (waiting disk)
  waits =
      let at : number ≡ max (min number (next_number disk)) (done_to disk) =
      omega (arith, note.there, note.later) in
      same.waits number
      ∙ (ap (λ (n : ℕ). waiting_from n disk) at ∙ noted-waiting disk number)

  there : number ≤ next_number now
  there = omega (arith, note.there, same.next)

  from : done_to now ≤ number
  from = omega (arith, note.later, same.done)

  whole : Noted now number can
  whole = note-whole now number can note.fits note.small from there

  -- What is left while the note is written.
  pub cut-by-note : (left : Disk) → Appended more now left → CutNote disk number left
  cut-by-note left (k, at) =
      let left_is : left ≡ grow_last (take k (note_bytes number)) now =
      at ∙ ap (λ (l : List ℕ). grow_last (take k l) now) note.written in
      record {
        waits = elim (note-cut now number can note.fits note.small from there k) [
          | inl before ↦ inl (ap waiting left_is ∙ (before ∙ same-waiting disk now same))
          | inr after ↦ inr (ap waiting left_is ∙ (after ∙ waits))
        ];
        size =
            omega (
              arith,
              ap disk_size left_is,
              note-size now number can note.fits note.small from there k,
              same.size,
            );
        rises = subst Rises (sym at) (rises-grown now (take k more) (same.rises rises));
      }

  -- So is what is left from the beginning on.
  pub note-leaves : done_to disk < number → {D : Type 0} (moment : D → ℕ)
      (left_at : D → ℕ → Disk → Type 0) (old mid new : D)
      → LeavesOnly moment left_at old mid (IsSame disk)
      → LeavesOnly moment left_at mid new (Appended more now)
      → LeavesOnly moment left_at old new (LeftByNote disk number)
  note-leaves later moment left_at old mid new first second =
      let room = note-room disk number more size note later in
      and_then moment left_at old mid new (LeftByNote disk number)
      (weaker moment left_at old mid (IsSame disk) (LeftByNote disk number)
      (λ left is. left-by-same disk left number rises is) first)
      (weaker moment left_at mid new (Appended more now) (LeftByNote disk number)
      (λ left at. let cut = cut-by-note left at in
      record { waits = cut.waits; within = omega (arith, cut.size, room); rises = cut.rises })
      second)

  -- The files grow as the spool then knows them.
  pub note-grows : (next : ℕ) → next ≡ next_number now → Grows now more next number size
  note-grows next next_is =
      let size_is : size ≡ disk_size now + note_size =
      omega (arith, note.size_is, same.size, ap length note.written, length-note number) in
      subst (λ (l : List ℕ). Grows now l next number size) (sym note.written) (record {
        can = can;
        next_is = next_is ∙ sym whole.next;
        done_is = sym whole.done;
        size_is = size_is ∙ sym whole.size;
        still = whole.grows;
        end = whole.end ∙ sym next_is;
      })

  -- The newest file notes all that is noted.
  pub note-newest : (after : Disk) → after ≡ grow_last more now → IsNoted after
  unfolding notes_in
  note-newest after at =
      let last = can.last in
      let bytes = note_bytes number in
      let read = read-spelled (note_content number ∷ []) (note.fits, tt) in
      let on = read-on last.bytes bytes (whole-rest last can.whole) in
      let grew : grow_last bytes now ≡ can.front ++ grown bytes last ∷ [] =
      ap (grow_last bytes) can.split ∙ grow-front bytes can.front last in
      let noted_in : notes_in (grown bytes last) ≡ notes_in last ++ number ∷ [] =
      ap notes on.contents_are
      ∙ (filter_map-append noted_by (contents last.bytes) (contents bytes)
      ∙ ap (λ (l : List ℕ). notes_in last ++ l)
      (ap notes read.0 ∙ notes-note number note.small)) in
      let newest : last_done (grow_last bytes now) ≡ greatest (notes_in last ++ number ∷ []) =
      ap last_done grew ∙ (last-done-at can.front (grown bytes last) ∙ ap greatest noted_in) in
      subst IsNoted (sym (at ∙ ap (λ (l : List ℕ). grow_last l now) note.written))
      (omega (
        arith,
        newest,
        whole.done,
        greatest-append (notes_in last) (number ∷ []),
        last-done-below (grow_last bytes now),
      ))

  -- What waits then.
  pub note-waiting : (after : Disk) → after ≡ grow_last more now
      → waiting after ≡ numbered_from number (waiting disk)
  note-waiting after at =
      ap waiting (at ∙ ap (λ (l : List ℕ). grow_last l now) note.written) ∙ (whole.waits ∙ waits)

  -- How large the files are then.
  pub note-sized : (after : Disk) → after ≡ grow_last more now
      → disk_size after ≡ disk_size disk + note_size
  note-sized after at =
      ap disk_size (at ∙ ap (λ (l : List ℕ). grow_last l now) note.written)
      ∙ (whole.size ∙ ap (λ (n : ℕ). n + note_size) same.size)
