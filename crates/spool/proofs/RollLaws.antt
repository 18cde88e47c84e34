-- What the files of a spool are as they are rolled over, and whether a body waits.
use Rattle.std.proofs.Common.{◌≡◌, inl, inr, refl, sym, ap, ap₂, ◌∙◌, subst, ℕ, ◌+◌, ◌-◌}
use Rattle.std.proofs.Common.{◌^◌, ◌<◌, ◌≤◌, List, [], ◌∷◌, ◌++◌, length, map, arith}
use Rattle.std.specs.Prelude.{All, Option, Some, None}
use Rattle.std.specs.Option.{option_to_list}
use Rattle.std.proofs.lemmas.Bool.{cases_lt}
use Rattle.std.specs.List.{AllByRecursion}
use Rattle.std.proofs.lemmas.List.Elements.{All-from_recursion, recursion_from_All}
use Rattle.spool.specs.Disks.{SpoolFile, Disk, disk_size}
use Rattle.spool.specs.Crashes.{Appended, LeavesOnly}
use Rattle.spool.specs.Records.{IsContent, note_content, note_size, spelled, span}
use Rattle.spool.specs.Spools.{bodies_in, bodies_end, is_whole, end_of, done_to, next_number}
use Rattle.spool.specs.Spools.{waiting, waiting_in, waiting_from, numbered_from}
use Rattle.spool.specs.Spools.{CanGrow, Rises}
use Rattle.spool.specs.Settled.{segment_of, IsSame, IsNote, IsNoLarger, IsRolled, IsEnded}
use Rattle.spool.specs.Settled.{FirstIsLeft}
use Rattle.spool.specs.declared.state.Segment.{Segment}
use Rattle.spool.proofs.Moments.{weaker, and_then}
use Rattle.spool.proofs.StateLaws.{same-refl}
use Rattle.spool.proofs.CallLaws.{same-waiting}
use Rattle.spool.proofs.ContentLaws.{span-none, numbered-none, ends-below}
use Rattle.spool.proofs.PutLaws.{done-next, length-note}
use Rattle.spool.proofs.NoteLaws.{cut-by-note}

-- ---- whether a body waits

-- Of a file whose bodies ended none waits.
ended-in : (d : ℕ) (f : SpoolFile) → IsEnded d (segment_of f) → waiting_in d f ≡ []
unfolding waiting_in end_of bodies_end is_whole
ended-in d f ended = elim (cases_lt d f.number) [
  | inl lt ↦
      let none : span (bodies_in f) ≡ 0 = omega (arith, ended, lt) in
      ap (numbered_from d) (span-none f.number (bodies_in f) none)
  | inr ge ↦ numbered-none d f.number (bodies_in f) (omega (arith, ended, ge))
]

-- Where none waits they ended.
in-ended : (d : ℕ) (f : SpoolFile) → waiting_in d f ≡ [] → IsEnded d (segment_of f)
unfolding waiting_in end_of bodies_end is_whole
in-ended d f none =
    omega (arith, ends-below d f.number (bodies_in f) none)

none-of : (xs ys : List (ℕ × List ℕ)) → xs ++ ys ≡ [] → (xs ≡ []) × (ys ≡ [])
none-of [] ys is = (refl, is)
none-of (x ∷ xs) ys is = absurd (cc)

ended-all : (d : ℕ) (disk : Disk) → AllByRecursion (IsEnded d) (map segment_of disk)
    → waiting_from d disk ≡ []
unfolding waiting_from
ended-all d [] all = refl
ended-all d (f ∷ disk) all =
    ap₂ (λ (l : List (ℕ × List ℕ)) (k : List (ℕ × List ℕ)). l ++ k) (ended-in d f all.0)
    (ended-all d disk all.1)

all-ended : (d : ℕ) (disk : Disk) → waiting_from d disk ≡ []
    → AllByRecursion (IsEnded d) (map segment_of disk)
unfolding waiting_from
all-ended d [] none = tt
all-ended d (f ∷ disk) none =
    let both = none-of (waiting_in d f) (waiting_from d disk) none in
    (in-ended d f both.0, all-ended d disk both.1)

-- all of two lists, and of each
both-parts : (d : ℕ) (xs ys : List Segment) → AllByRecursion (IsEnded d) xs
    → AllByRecursion (IsEnded d) ys → AllByRecursion (IsEnded d) (xs ++ ys)
both-parts d [] ys first second = second
both-parts d (x ∷ xs) ys first second = (first.0, both-parts d xs ys first.1 second)

parts : (d : ℕ) (xs ys : List Segment) → AllByRecursion (IsEnded d) (xs ++ ys)
    → AllByRecursion (IsEnded d) xs × AllByRecursion (IsEnded d) ys
parts d [] ys all = (tt, all)
parts d (x ∷ xs) ys all =
    let more = parts d xs ys all.1 in ((all.0, more.0), more.1)

module _ (disk : Disk) (older : List Segment) (growing : Option Segment) (done : ℕ)
    (are : older ++ option_to_list growing ≡ map segment_of disk) (done_is : done ≡ done_to disk)
  where
    -- No body waits where those of each file ended.
    pub idle-from : All (IsEnded done) older
        → ((s : Segment) → growing ≡ Some s → IsEnded done s) → waiting disk ≡ []
    unfolding waiting
    idle-from first newest =
        subst (λ (n : ℕ). waiting_from n disk ≡ []) done_is
        (ended-all done disk
        (subst (AllByRecursion (IsEnded done)) are
        (both-parts done older (option_to_list growing)
        (recursion_from_All (IsEnded done) older first)
        (go growing refl))))
      where
        go : (o : Option Segment) → growing ≡ o → AllByRecursion (IsEnded done) (option_to_list o)
        go None is = tt
        go (Some s) is = (newest s is, tt)

    ended-parts : waiting disk ≡ [] → AllByRecursion (IsEnded done) older
        × AllByRecursion (IsEnded done) (option_to_list growing)
    unfolding waiting
    ended-parts none =
        parts done older (option_to_list growing)
        (subst (AllByRecursion (IsEnded done)) (sym are)
        (all-ended done disk (subst (λ (n : ℕ). waiting_from n disk ≡ []) (sym done_is) none)))

    -- Where none waits those of the older files ended.
    pub idle-to : waiting disk ≡ [] → All (IsEnded done) older
    idle-to none = All-from_recursion (IsEnded done) older (ended-parts none).0

    -- So did those of the file that can grow.
    pub newest-ends : waiting disk ≡ [] → (s : Segment) → growing ≡ Some s → IsEnded done s
    newest-ends none s is =
        (subst (λ (o : Option Segment). AllByRecursion (IsEnded done) (option_to_list o)) is
        (ended-parts none).1).0

-- ---- rolling over

-- The same files are left by it.
pub rolled-same : (disk left : Disk) → IsSame disk left → IsRolled disk left
rolled-same disk left same =
    record {
      waits = same-waiting disk left same;
      size = omega (arith, same.size);
      rises = same.rises;
    }

-- So are files that are as they were.
pub rolled-none : (disk left : Disk) → left ≡ disk → IsRolled disk left
rolled-none disk left is = rolled-same disk left (same-refl disk left is)

-- The record of the note that no body waits.
pub idle-note : (disk : Disk) (next size : ℕ) (more : List ℕ) → next ≡ next_number disk
    → next < 2 ^ 64 → IsContent (note_content next) → more ≡ spelled (note_content next ∷ [])
    → size ≡ disk_size disk + note_size → IsNote disk next more size
idle-note disk next size more is small fits written sized = record {
  later = omega (arith, done-next disk, is);
  there = omega (arith, is);
  small = small;
  fits = fits;
  written = written;
  size_is = omega (arith, sized, ap length written, length-note next);
}

-- Of none none has a higher number.
pub none-numbered : (n : ℕ) (bodies : List (ℕ × List ℕ)) → bodies ≡ []
    → numbered_from n bodies ≡ bodies
none-numbered n bodies none = ap (numbered_from n) none ∙ sym none

module _ (disk now : Disk) (rises : Rises disk) (same : IsSame disk now) (can : CanGrow now)
    (number : ℕ) (more : List ℕ) (size : ℕ) (note : IsNote disk number more size)
    (idle : waiting disk ≡ []) where
  -- What is left while the note is written.
  rolled-written : (left : Disk) → Appended more now left → IsRolled disk left
  rolled-written left at =
      let cut = cut-by-note disk now rises same can number more size note left at in
      record {
        waits = elim cut.waits [
          | inl before ↦ before
          | inr after ↦ after ∙ none-numbered number (waiting disk) idle
        ];
        size = cut.size;
        rises = λ _. cut.rises;
      }

  -- So is what is left from the beginning on.
  pub written-leaves : {D : Type 0} (moment : D → ℕ) (left_at : D → ℕ → Disk → Type 0)
      (old mid new : D) → LeavesOnly moment left_at old mid (IsSame disk)
      → LeavesOnly moment left_at mid new (Appended more now)
      → LeavesOnly moment left_at old new (IsRolled disk)
  written-leaves moment left_at old mid new first second =
      and_then moment left_at old mid new (IsRolled disk)
      (weaker moment left_at old mid (IsSame disk) (IsRolled disk) (rolled-same disk) first)
      (weaker moment left_at mid new (Appended more now) (IsRolled disk) rolled-written second)

-- What is left while files are removed after it.
pub removed-leaves : {D : Type 0} (moment : D → ℕ) (left_at : D → ℕ → Disk → Type 0)
    (old mid new : D) (disk after : Disk) → LeavesOnly moment left_at old mid (IsRolled disk)
    → waiting after ≡ waiting disk → disk_size after ≡ disk_size disk + note_size → Rises after
    → LeavesOnly moment left_at mid new (IsNoLarger after)
    → LeavesOnly moment left_at old new (IsRolled disk)
removed-leaves moment left_at old mid new disk after first waits sized rises second =
    and_then moment left_at old mid new (IsRolled disk) first
    (weaker moment left_at mid new (IsNoLarger after) (IsRolled disk)
    (λ left it. record {
      waits = it.waits ∙ waits;
      size = omega (arith, it.size, sized);
      rises = λ _. it.rises rises;
    })
    second)

-- Where the first of the older files has a body that isn't noted, and all are, there is none.
pub alone-size : (older : List Segment) (s : Segment) (disk : Disk) (done : ℕ)
    → older ++ s ∷ [] ≡ map segment_of disk → FirstIsLeft older done → next_number disk ≤ done
    → disk_size disk ≡ s.len
unfolding next_number
alone-size [] s [] done are left le = absurd (cc)
alone-size [] s (f ∷ []) done are left le =
    let same : s ≡ segment_of f = cc in omega (arith, ap (λ (x : Segment). x.len) same)
alone-size [] s (f ∷ g ∷ disk) done are left le = absurd (cc)
alone-size (o ∷ older) s [] done are left le = absurd (cc)
alone-size (o ∷ older) s (f ∷ disk) done are left le =
    let same : o ≡ segment_of f = cc in
    let below : done < o.«end» = left o older refl in
    absurd (omega (arith, below, le, ap (λ (x : Segment). x.«end») same))
