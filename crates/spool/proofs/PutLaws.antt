-- What the files of a spool mean once bodies were put, a delivery was noted, a file was made or one
-- was removed, and what a crash leaves meanwhile.
use Rattle.std.proofs.Common.{◌≡◌, ◌⊎◌, inl, inr, refl, sym, ap, ap₂, ◌∙◌, ℕ, zero, suc}
use Rattle.std.proofs.Common.{◌+◌, ◌-◌, ◌^◌}
use Rattle.std.proofs.Common.{◌<◌, ◌≤◌, max, min, List, [], ◌∷◌, ◌++◌, length, take, drop, map}
use Rattle.std.proofs.Common.{arith, true}
use Rattle.std.specs.Prelude.{flat_map, Option, Some}
use Rattle.std.proofs.lemmas.Bool.{cases_lt}
use Rattle.std.proofs.lemmas.List.{append-nil, take-map}
use Rattle.std.proofs.lemmas.List.{length-take, length-map}
use Rattle.std.proofs.lemmas.List.Sums.{sum_by-append}
use Rattle.std.specs.List.{enumerate_from, AllByRecursion}
use Rattle.spool.specs.Disks.{SpoolFile, Disk, new_file, grown, grow_last, disk_size}
use Rattle.spool.specs.Records.{contents, bodies, notes, body_content, note_content}
use Rattle.spool.specs.Records.{IsContent, spelled}
use Rattle.spool.specs.Records.{record_bytes, note_size, numbered}
use Rattle.spool.specs.Spools.{bodies_in, notes_in, is_whole, bodies_end, end_of, greatest, done_to}
use Rattle.spool.specs.Spools.{next_number}
use Rattle.spool.specs.Spools.{waiting_in, waiting_from, waiting, numbered_from, CanGrow}
use Rattle.spool.specs.Spools.{Rises}
use Rattle.spool.specs.Settled.{IsSame, last_done, LeftByAdding}
use Rattle.spool.proofs.RecordLaws.{read-nil, read-spelled, read-cut}
use Rattle.spool.proofs.RecordLaws.{length-record}
use Rattle.spool.proofs.ContentLaws.{bodies-put, notes-put, notes-note}
use Rattle.spool.proofs.ContentLaws.{numbered-whole, numbered-none}
use Rattle.spool.proofs.DiskLaws.{greatest-append, grow-front, done-last, next-last, waiting-last}
use Rattle.spool.proofs.DiskLaws.{size-last, numbered-waiting}
use Rattle.spool.proofs.DiskLaws.{rest-whole, end-whole, grew, grew-whole}
use Rattle.spool.proofs.RiseLaws.{rises-made, rises-grown}

-- ---- numbers

-- What is noted is not beyond the next number.
pub done-next : (disk : Disk) → done_to disk ≤ next_number disk
unfolding next_number
done-next disk = omega arith

-- Of a file that ends before a number nothing waits from there on.
pub none-in : (n : ℕ) (file : SpoolFile) → end_of file ≤ n → waiting_in n file ≡ []
unfolding waiting_in end_of bodies_end
none-in n file le = numbered-none n file.number (bodies_in file) (omega (arith, le))

none-from : (n : ℕ) (disk : Disk) → greatest (map end_of disk) ≤ n → waiting_from n disk ≡ []
unfolding waiting_from
none-from n [] le = refl
none-from n (f ∷ disk) le =
    ap₂ (λ (l : List (ℕ × List ℕ)) (k : List (ℕ × List ℕ)). l ++ k) (none-in n f (omega arith))
    (none-from n disk (omega arith))

-- What waits once all below a number is noted, or all that there is.
pub noted-waiting : (disk : Disk) (n : ℕ)
    → waiting_from (max (min n (next_number disk)) (done_to disk)) disk
    ≡ numbered_from n (waiting disk)
unfolding waiting next_number
noted-waiting disk n = elim (cases_lt (next_number disk) n) [
  | inl beyond ↦
      none-from _ disk (omega arith)
      ∙ (sym (none-from (max n (done_to disk)) disk (omega arith))
      ∙ sym (numbered-waiting n (done_to disk) disk))
  | inr within ↦
      let same : max (min n (next_number disk)) (done_to disk) ≡ max n (done_to disk) =
      omega arith in
      ap (λ (m : ℕ). waiting_from m disk) same ∙ sym (numbered-waiting n (done_to disk) disk)
]

-- ---- bodies

-- the contents that bodies are kept in
abbrev pub put_contents : List (List ℕ) → List (List ℕ)
put_contents bs = map body_content bs

module _ (disk : Disk) (bs : List (List ℕ)) (can : CanGrow disk)
    (all : AllByRecursion IsContent (put_contents bs)) where
  length-cut : (k : ℕ) (xs : List ℕ) → length (take k xs) ≤ length xs
  length-cut k xs = omega (arith, length-take k xs)

  -- What a crash leaves while the records are written.
  pub put-cut : (limit k : ℕ) → disk_size disk + length (spelled (put_contents bs)) ≤ limit
      → Rises disk
      → LeftByAdding disk bs limit (grow_last (take k (spelled (put_contents bs))) disk)
  unfolding waiting
  put-cut limit k fits rises =
      let more = take k (spelled (put_contents bs)) in
      let cut = read-cut (put_contents bs) k all in
      let g = grew disk more can in
      let some : contents more ≡ map Some (put_contents (take cut.count bs)) =
      cut.are ∙ ap (λ (l : List (List ℕ)). map Some l) (take-map body_content cut.count bs) in
      let bodies_are : bodies (contents more) ≡ map Some (take cut.count bs) =
      ap bodies some ∙ bodies-put (take cut.count bs) in
      let notes_are : notes (contents more) ≡ [] = ap notes some ∙ notes-put (take cut.count bs) in
      let done : done_to (grow_last more disk) ≡ done_to disk =
      g.done ∙ (ap (λ (l : List ℕ). max (done_to disk) (greatest l)) notes_are ∙ omega arith) in
      record {
        count = cut.count;
        few = omega (arith, cut.few, length-map-put);
        waits =
            ap (λ (n : ℕ). waiting_from n (grow_last more disk)) done
            ∙ (g.waits (done_to disk) (done-next disk)
            ∙ ap (λ (l : List (ℕ × List ℕ)). waiting_from (done_to disk) disk ++ l)
            (ap (numbered (next_number disk)) bodies_are
            ∙ numbered-whole (next_number disk) (take cut.count bs)));
        within = omega (arith, g.size, fits, length-cut k (spelled (put_contents bs)));
        rises = rises-grown disk more rises;
      }
    where
      length-map-put : length (put_contents bs) ≡ length bs
      length-map-put = length-map bs body_content

-- What is there once bodies were put.
pub record Put (disk : Disk) (bs : List (List ℕ)) (can : CanGrow disk)
    (more : List ℕ) : Type 0 where
  pub waits : waiting (grow_last more disk) ≡ waiting disk ++ enumerate_from (next_number disk) bs
  pub done : done_to (grow_last more disk) ≡ done_to disk
  pub next : next_number (grow_last more disk) ≡ next_number disk + length bs
  pub size : disk_size (grow_last more disk) ≡ disk_size disk + length more
  pub grows : CanGrow (grow_last more disk)
  pub end : end_of (grown more can.last) ≡ next_number disk + length bs

-- What is there once all records of bodies were written.
pub put-whole : (disk : Disk) (bs : List (List ℕ)) (can : CanGrow disk)
    → AllByRecursion IsContent (put_contents bs) → Put disk bs can (spelled (put_contents bs))
unfolding waiting
put-whole disk bs can all =
    let more = spelled (put_contents bs) in
    let read = read-spelled (put_contents bs) all in
    let g = grew disk more can in
    let w = grew-whole disk more can read.1 in
    let bodies_are : bodies (contents more) ≡ map Some bs = ap bodies read.0 ∙ bodies-put bs in
    let counted : length (bodies (contents more)) ≡ length bs =
    ap length bodies_are ∙ length-map bs Some in
    let notes_are : notes (contents more) ≡ [] = ap notes read.0 ∙ notes-put bs in
    let done : done_to (grow_last more disk) ≡ done_to disk =
    g.done ∙ (ap (λ (l : List ℕ). max (done_to disk) (greatest l)) notes_are ∙ omega arith) in
    let end : end_of (grown more can.last) ≡ next_number disk + length bs =
    w.1 ∙ ap (λ (n : ℕ). next_number disk + n) counted in
    let next : next_number (grow_last more disk) ≡ next_number disk + length bs =
    w.2 ∙ omega (arith, done, done-next disk, counted) in
    record {
      waits =
          ap (λ (n : ℕ). waiting_from n (grow_last more disk)) done
          ∙ (g.waits (done_to disk) (done-next disk)
          ∙ ap (λ (l : List (ℕ × List ℕ)). waiting_from (done_to disk) disk ++ l)
          (ap (numbered (next_number disk)) bodies_are
          ∙ numbered-whole (next_number disk) bs));
      done = done;
      next = next;
      size = g.size;
      grows = record {
        front = can.front;
        last = grown more can.last;
        split = ap (grow_last more) can.split ∙ grow-front more can.front can.last;
        whole = w.0;
        end = end ∙ sym next;
      };
      end = end;
    }

-- ---- a note

-- the record of a note
abbrev pub note_bytes : ℕ → List ℕ
note_bytes n = spelled (note_content n ∷ [])

-- A note takes 17 bytes.
pub length-note : (n : ℕ) → length (note_bytes n) ≡ note_size
length-note n =
    ap length (append-nil (record_bytes (note_content n))) ∙ length-record (note_content n)

-- What is there once a note was written.
pub record Noted (disk : Disk) (n : ℕ) (can : CanGrow disk) : Type 0 where
  pub waits : waiting (grow_last (note_bytes n) disk) ≡ waiting_from n disk
  pub done : done_to (grow_last (note_bytes n) disk) ≡ n
  pub next : next_number (grow_last (note_bytes n) disk) ≡ next_number disk
  pub size : disk_size (grow_last (note_bytes n) disk) ≡ disk_size disk + note_size
  pub grows : CanGrow (grow_last (note_bytes n) disk)
  pub end : end_of (grown (note_bytes n) can.last) ≡ next_number disk

module _ (disk : Disk) (n : ℕ) (can : CanGrow disk) (is : IsContent (note_content n))
    (small : n < 2 ^ 64) (later : done_to disk ≤ n) (there : n ≤ next_number disk) where
  -- What is there once the record of a note was written.
  pub note-whole : Noted disk n can
  unfolding waiting
  note-whole =
      let more = note_bytes n in
      let read = read-spelled (note_content n ∷ []) (is, tt) in
      let g = grew disk more can in
      let w = grew-whole disk more can read.1 in
      let bodies_are : bodies (contents more) ≡ [] = ap bodies read.0 in
      let notes_are : notes (contents more) ≡ n ∷ [] = ap notes read.0 ∙ notes-note n small in
      let done : done_to (grow_last more disk) ≡ n =
      g.done
      ∙ (ap (λ (l : List ℕ). max (done_to disk) (greatest l)) notes_are ∙ omega (arith, later)) in
      let end : end_of (grown more can.last) ≡ next_number disk =
      w.1 ∙ omega (arith, ap length bodies_are) in
      let next : next_number (grow_last more disk) ≡ next_number disk =
      w.2 ∙ omega (arith, done, there, ap length bodies_are) in
      record {
        waits =
            ap (λ (m : ℕ). waiting_from m (grow_last more disk)) done
            ∙ (g.waits n there
            ∙ (ap (λ (l : List (Option (List ℕ))).
            waiting_from n disk ++ numbered (next_number disk) l)
            bodies_are
            ∙ append-nil (waiting_from n disk)));
        done = done;
        next = next;
        size = g.size ∙ ap (λ (k : ℕ). disk_size disk + k) (length-note n);
        grows = record {
          front = can.front;
          last = grown more can.last;
          split = ap (grow_last more) can.split ∙ grow-front more can.front can.last;
          whole = w.0;
          end = end ∙ sym next;
        };
        end = end;
      }

  -- What a crash leaves while it is written.
  pub note-cut : (k : ℕ)
      → (waiting (grow_last (take k (note_bytes n)) disk) ≡ waiting disk)
      ⊎ (waiting (grow_last (take k (note_bytes n)) disk) ≡ waiting_from n disk)
  unfolding waiting
  note-cut k =
      let more = take k (note_bytes n) in
      let cut = read-cut (note_content n ∷ []) k (is, tt) in
      let g = grew disk more can in
      elim (cases_lt cut.count 1) [
        | inl none ↦
            let z : cut.count ≡ 0 = omega (arith, none) in
            let some : contents more ≡ [] =
            cut.are ∙ ap (λ (j : ℕ). map Some (take j (note_content n ∷ []))) z in
            let done : done_to (grow_last more disk) ≡ done_to disk =
            g.done
            ∙ (ap (λ (l : List (Option (List ℕ))). max (done_to disk) (greatest (notes l))) some
            ∙ omega arith) in
            inl (ap (λ (m : ℕ). waiting_from m (grow_last more disk)) done
            ∙ (g.waits (done_to disk) (done-next disk)
            ∙ (ap (λ (l : List (Option (List ℕ))).
            waiting_from (done_to disk) disk ++ numbered (next_number disk) (bodies l))
            some
            ∙ append-nil (waiting_from (done_to disk) disk))))
        | inr one ↦
            let o : cut.count ≡ 1 = omega (arith, one, cut.few) in
            let some : contents more ≡ Some (note_content n) ∷ [] =
            cut.are ∙ ap (λ (j : ℕ). map Some (take j (note_content n ∷ []))) o in
            let notes_are : notes (contents more) ≡ n ∷ [] = ap notes some ∙ notes-note n small in
            let done : done_to (grow_last more disk) ≡ n =
            g.done
            ∙ (ap (λ (l : List ℕ). max (done_to disk) (greatest l)) notes_are
            ∙ omega (arith, later)) in
            inr (ap (λ (m : ℕ). waiting_from m (grow_last more disk)) done
            ∙ (g.waits n there
            ∙ (ap (λ (l : List (Option (List ℕ))).
            waiting_from n disk ++ numbered (next_number disk) (bodies l))
            some
            ∙ append-nil (waiting_from n disk))))
      ]

  -- The files are no larger than with the whole note.
  pub note-size : (k : ℕ)
      → disk_size (grow_last (take k (note_bytes n)) disk) ≤ disk_size disk + note_size
  note-size k =
      omega (
        arith,
        (grew disk (take k (note_bytes n)) can).size,
        length-take k (note_bytes n),
        length-note n,
      )

-- ---- a file that is made

max-nothing : (n : ℕ) → max n 0 ≡ n
max-nothing n = omega arith

done-is : (disk : Disk) → done_to disk ≡ greatest (flat_map notes_in disk)
unfolding done_to
done-is disk = refl

-- A file that is made with the next number changes nothing of what the files mean.
pub made : (disk : Disk) → IsSame disk (disk ++ new_file (next_number disk) ∷ [])
unfolding waiting_in bodies_in notes_in next_number
made disk =
    let file = new_file (next_number disk) in
    let no_bodies : bodies_in file ≡ [] = ap bodies read-nil.0 in
    let no_notes : notes_in file ≡ [] = ap notes read-nil.0 in
    let whole : is_whole file ≡ true = rest-whole file read-nil.1 in
    let end : end_of file ≡ next_number disk =
    end-whole file whole ∙ omega (arith, ap length no_bodies) in
    let done : done_to (disk ++ file ∷ []) ≡ done_to disk =
    done-last disk file
    ∙ (ap (λ (l : List ℕ). max (greatest (flat_map notes_in disk)) (greatest l)) no_notes
    ∙ (max-nothing (greatest (flat_map notes_in disk)) ∙ sym (done-is disk))) in
    record {
      waits = λ n.
          waiting-last disk file n
          ∙ (ap (λ (l : List (Option (List ℕ))).
          waiting_from n disk ++ numbered_from n (numbered file.number l))
          no_bodies
          ∙ append-nil (waiting_from n disk));
      done = done;
      next = next-last disk file ∙ omega (arith, done, end);
      size = size-last disk file ∙ omega arith;
      rises = λ rises. rises-made disk file refl rises;
    }

-- The file that was made can grow.
pub made-grows : (disk : Disk) → CanGrow (disk ++ new_file (next_number disk) ∷ [])
unfolding bodies_in
made-grows disk =
    let file = new_file (next_number disk) in
    let no_bodies : bodies_in file ≡ [] = ap bodies read-nil.0 in
    let whole : is_whole file ≡ true = rest-whole file read-nil.1 in
    let end : end_of file ≡ next_number disk =
    end-whole file whole ∙ omega (arith, ap length no_bodies) in
    record {
      front = disk;
      last = file;
      split = refl;
      whole = whole;
      end = end ∙ sym (made disk).next;
    }

-- ---- a file that is removed

-- It is noted by all files together.
pub last-done-below : (disk : Disk) → last_done disk ≤ done_to disk
unfolding done_to
last-done-below [] = omega arith
last-done-below (f ∷ []) = omega (arith, ap greatest (append-nil (notes_in f)))
last-done-below (f ∷ g ∷ disk) =
    omega
    (arith, last-done-below (g ∷ disk), greatest-append (notes_in f) (flat_map notes_in (g ∷ disk)))

-- The newest file is at the end.
pub last-done-at : (front : Disk) (last : SpoolFile)
    → last_done (front ++ last ∷ []) ≡ greatest (notes_in last)
last-done-at [] last = refl
last-done-at (f ∷ []) last = refl
last-done-at (f ∷ g ∷ front) last = last-done-at (g ∷ front) last

-- What is there once the oldest file was removed.
pub record WithoutFirst (first : SpoolFile) (disk : Disk) : Type 0 where
  pub waits : waiting disk ≡ waiting (first ∷ disk)
  pub done : done_to disk ≡ done_to (first ∷ disk)
  pub next : next_number disk ≡ next_number (first ∷ disk)
  pub size : length first.bytes + disk_size disk ≡ disk_size (first ∷ disk)

-- Where all of a file's bodies are noted, by the newest file, it can be removed.
pub without-first : (first next : SpoolFile) (disk : Disk)
    → last_done (first ∷ next ∷ disk) ≡ done_to (first ∷ next ∷ disk)
    → end_of first ≤ done_to (first ∷ next ∷ disk) → WithoutFirst first (next ∷ disk)
unfolding waiting waiting_from done_to next_number
without-first first next disk noted ended =
    let others = next ∷ disk in
    let done : done_to others ≡ done_to (first ∷ others) =
    omega (
      arith,
      last-done-below others,
      noted,
      greatest-append (notes_in first) (flat_map notes_in others),
    ) in
    record {
      waits =
          ap (λ (n : ℕ). waiting_from n others) done
          ∙ sym (ap (λ (l : List (ℕ × List ℕ)). l ++ waiting_from (done_to (first ∷ others)) others)
          (none-in (done_to (first ∷ others)) first ended));
      done = done;
      next = omega (arith, done, ended);
      size =
          omega
          (arith, sum_by-append (λ (f : SpoolFile). length f.bytes) (first ∷ []) (next ∷ disk));
    }

-- The others can grow as before.
pub grows-without : (first next : SpoolFile) (disk : Disk)
    → next_number (next ∷ disk) ≡ next_number (first ∷ next ∷ disk) → CanGrow (first ∷ next ∷ disk)
    → CanGrow (next ∷ disk)
grows-without first next disk same can = go can.front can.last can.split can.whole can.end
  where
    go : (front : Disk) (last : SpoolFile) → first ∷ next ∷ disk ≡ front ++ last ∷ []
        → is_whole last ≡ true → end_of last ≡ next_number (first ∷ next ∷ disk)
        → CanGrow (next ∷ disk)
    go [] last split whole end = absurd (cc)
    go (f ∷ front) last split whole end =
        record { front = front; last = last; split = cc; whole = whole; end = end ∙ sym same }
