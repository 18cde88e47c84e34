-- What keeps the numbers of the files rising, and that those of the bodies that wait rise then.
use Rattle.std.proofs.Common.{◌≡◌, inl, inr, sym, ap, ap₂, ◌∙◌, subst, ℕ, zero, suc, ◌+◌, ◌-◌, ◌≤◌}
use Rattle.std.proofs.Common.{max, List, [], ◌∷◌, ◌++◌, length, take, drop, map, arith, refl}
use Rattle.std.proofs.lemmas.Bool.{cases_lt}
use Rattle.std.specs.Prelude.{Option, Some, None}
use Rattle.std.specs.List.{AllByRecursion}
use Rattle.spool.specs.Disks.{SpoolFile, Disk, grow_last}
use Rattle.spool.specs.Records.{numbered, span}
use Rattle.spool.specs.Spools.{bodies_in, bodies_end, end_of, greatest, done_to}
use Rattle.spool.specs.Spools.{next_number, waiting_in}
use Rattle.spool.specs.Spools.{waiting_from, waiting, numbered_from, Rises, AreRising}
use Rattle.spool.proofs.ContentLaws.{span-damaged, span-none, numbered-below, numbered-above}
use Rattle.spool.proofs.ContentLaws.{numbered-all}
use Rattle.spool.proofs.DiskLaws.{numbered-waiting}

-- ---- files that rise

-- The numbers of these files are at least this.
abbrev AreFrom : ℕ → Disk → Type 0
AreFrom n disk = AllByRecursion (λ later. n ≤ later.number) disk

from-push : (n : ℕ) (front : Disk) (last : SpoolFile) → AreFrom n front → n ≤ last.number
    → AreFrom n (front ++ last ∷ [])
from-push n [] last all le = (le, tt)
from-push n (f ∷ front) last all le = (all.0, from-push n front last all.1 le)

from-last : (n : ℕ) (front : Disk) (last : SpoolFile) → AreFrom n (front ++ last ∷ [])
    → n ≤ last.number
from-last n [] last all = all.0
from-last n (f ∷ front) last all = from-last n front last all.1

from-front : (n : ℕ) (front : Disk) (last : SpoolFile) → AreFrom n (front ++ last ∷ [])
    → AreFrom n front
from-front n [] last all = tt
from-front n (f ∷ front) last all = (all.0, from-front n front last all.1)

from-grown : (n : ℕ) (disk : Disk) (more : List ℕ) → AreFrom n disk
    → AreFrom n (grow_last more disk)
from-grown n [] more all = tt
from-grown n (f ∷ []) more all = (all.0, tt)
from-grown n (f ∷ g ∷ disk) more all = (all.0, from-grown n (g ∷ disk) more all.1)

-- A last file whose number isn't below the end of the others' bodies keeps them rising.
pub rises-push : (front : Disk) (last : SpoolFile) → Rises front
    → greatest (map bodies_end front) ≤ last.number → Rises (front ++ last ∷ [])
rises-push [] last rises le = (tt, tt)
rises-push (f ∷ front) last rises le = (
  from-push (bodies_end f) front last rises.0 (omega (arith, le)),
  rises-push front last rises.1 (omega (arith, le)),
)

-- Files rise without the last one.
pub rises-front : (front : Disk) (last : SpoolFile) → Rises (front ++ last ∷ []) → Rises front
rises-front [] last rises = tt
rises-front (f ∷ front) last rises =
    (from-front (bodies_end f) front last rises.0, rises-front front last rises.1)

-- The bodies of the others end before it.
pub ends-before : (front : Disk) (last : SpoolFile) → Rises (front ++ last ∷ [])
    → greatest (map bodies_end front) ≤ last.number
ends-before [] last rises = omega arith
ends-before (f ∷ front) last rises =
    omega (arith, from-last (bodies_end f) front last rises.0, ends-before front last rises.1)

-- The bodies of files end no later than the files.
bodies-first : (disk : Disk) → greatest (map bodies_end disk) ≤ greatest (map end_of disk)
unfolding end_of
bodies-first [] = omega arith
bodies-first (f ∷ disk) = omega (arith, bodies-first disk)

-- A new file with the next number keeps them rising.
pub rises-made : (disk : Disk) (last : SpoolFile) → last.number ≡ next_number disk → Rises disk
    → Rises (disk ++ last ∷ [])
unfolding next_number
rises-made disk last is rises =
    rises-push disk last rises (omega (arith, is, bodies-first disk))

-- So do bytes at the end of the newest file, whatever they are.
pub rises-grown : (disk : Disk) (more : List ℕ) → Rises disk → Rises (grow_last more disk)
rises-grown [] more rises = tt
rises-grown (f ∷ []) more rises = (tt, tt)
rises-grown (f ∷ g ∷ disk) more rises =
    (from-grown (bodies_end f) (g ∷ disk) more rises.0, rises-grown (g ∷ disk) more rises.1)

-- Files rise without the oldest one.
pub rises-without : (disk : Disk) → Rises disk → Rises (drop 1 disk)
rises-without [] rises = tt
rises-without (f ∷ disk) rises = rises.1

-- The first files of several rise.
pub rises-take : (n : ℕ) (disk : Disk) → Rises disk → Rises (take n disk)
rises-take zero disk rises = tt
rises-take (suc n) [] rises = tt
rises-take (suc n) (f ∷ disk) rises = (from-take n disk rises.0, rises-take n disk rises.1)
  where
    from-take : (k : ℕ) (others : Disk) → AreFrom (bodies_end f) others
        → AreFrom (bodies_end f) (take k others)
    from-take zero others all = tt
    from-take (suc k) [] all = tt
    from-take (suc k) (g ∷ others) all = (all.0, from-take k others all.1)

-- ---- bodies that rise

-- They rise from a lower number on too.
pub rising-lower : (a b last : ℕ) (bodies : List (ℕ × List ℕ)) → a ≤ b → AreRising b last bodies
    → AreRising a last bodies
rising-lower a b last [] le rising = omega (arith, le, rising)
rising-lower a b last (x ∷ bodies) le rising = (omega (arith, le, rising.0), rising.1)

rising-append : (a b c : ℕ) (xs ys : List (ℕ × List ℕ)) → AreRising a b xs → AreRising b c ys
    → AreRising a c (xs ++ ys)
rising-append a b c [] ys first second = rising-lower a b c ys first second
rising-append a b c (x ∷ xs) ys first second =
    (first.0, rising-append (x.0 + 1) b c xs ys first.1 second)

-- numbered bodies, without those below a number
rising-numbered : (d k last : ℕ) (bs : List (Option (List ℕ))) → d ≤ last → k + span bs ≤ last
    → AreRising d last (numbered_from d (numbered k bs))
rising-numbered d k last [] le fits = le
rising-numbered d k last (None ∷ bs) le fits = elim (span-damaged bs) [
  | inl both ↦
      let none : numbered_from d (numbered (k + 1) bs) ≡ [] =
      ap (numbered_from d) (span-none (k + 1) bs both.1) in
      subst (AreRising d last) (sym none) le
  | inr both ↦ rising-numbered d (k + 1) last bs le (omega (arith, both.0, fits))
]
rising-numbered d k last (Some b ∷ bs) le fits = elim (cases_lt k d) [
  | inl lt ↦
      subst (AreRising d last) (sym (numbered-below d k b (numbered (k + 1) bs) lt))
      (rising-numbered d (k + 1) last bs le (omega (arith, fits)))
  | inr ge ↦
      let others = numbered (k + 1) bs in
      let all : numbered_from d others ≡ numbered_from (k + 1) others =
      numbered-all d (k + 1) bs (omega (arith, ge))
      ∙ sym (numbered-all (k + 1) (k + 1) bs (omega arith)) in
      subst (AreRising d last) (sym (numbered-above d k b others ge)) (
        ge,
        subst (AreRising (k + 1) last) (sym all)
            (rising-numbered (k + 1) (k + 1) last bs (omega (arith, fits)) (omega (arith, fits))),
      )
]

rising-in : (d : ℕ) (file : SpoolFile) → AreRising d (max d (bodies_end file)) (waiting_in d file)
unfolding waiting_in bodies_end
rising-in d file =
    rising-numbered d file.number (max d (bodies_end file)) (bodies_in file) (omega arith)
    (omega arith)

-- of bodies from a number on, those from another on are those from the higher of the two on
same-numbered : (d n k : ℕ) (bs : List (Option (List ℕ))) → n ≤ k
    → numbered_from (max d n) (numbered k bs) ≡ numbered_from d (numbered k bs)
same-numbered d n k [] le = refl
same-numbered d n k (None ∷ bs) le = same-numbered d n (k + 1) bs (omega (arith, le))
same-numbered d n k (Some b ∷ bs) le =
    let others = numbered (k + 1) bs in
    let more = same-numbered d n (k + 1) bs (omega (arith, le)) in
    elim (cases_lt k d) [
      | inl lt ↦
          numbered-below (max d n) k b others (omega (arith, lt))
          ∙ (more ∙ sym (numbered-below d k b others lt))
      | inr ge ↦
          numbered-above (max d n) k b others (omega (arith, ge, le))
          ∙ (ap (λ (l : List (ℕ × List ℕ)). (k, b) ∷ l) more
          ∙ sym (numbered-above d k b others ge))
    ]

-- of files from a number on, what waits waits from there on too
same-from : (d n : ℕ) (disk : Disk) → AreFrom n disk
    → waiting_from (max d n) disk ≡ waiting_from d disk
unfolding waiting_from waiting_in
same-from d n [] all = refl
same-from d n (f ∷ disk) all =
    ap₂ (λ (l : List (ℕ × List ℕ)) (k : List (ℕ × List ℕ)). l ++ k)
    (same-numbered d n f.number (bodies_in f) all.0)
    (same-from d n disk all.1)

rising-from : (d last : ℕ) (disk : Disk) → Rises disk → d ≤ last
    → greatest (map bodies_end disk) ≤ last → AreRising d last (waiting_from d disk)
unfolding waiting_from
rising-from d last [] rises le ends = le
rising-from d last (f ∷ disk) rises le ends =
    let after = max d (bodies_end f) in
    rising-append d after last (waiting_in d f) (waiting_from d disk) (rising-in d f)
    (subst (AreRising after last) (same-from d (bodies_end f) disk rises.0)
    (rising-from after last disk rises.1 (omega (arith, le, ends)) (omega (arith, ends))))

-- Where files rise, the numbers of the bodies that wait rise, from what is noted to the next
-- number.
pub waiting-rises : (disk : Disk) → Rises disk
    → AreRising (done_to disk) (next_number disk) (waiting disk)
unfolding waiting next_number
waiting-rises disk rises =
    rising-from (done_to disk) (next_number disk) disk rises (omega arith)
    (omega (arith, bodies-first disk))

-- What waits from a number on, of the bodies that wait.
pub waiting-from : (n : ℕ) (disk : Disk)
    → waiting_from (max (done_to disk) n) disk ≡ numbered_from n (waiting disk)
unfolding waiting
waiting-from n disk =
    let same : max (done_to disk) n ≡ max n (done_to disk) = omega arith in
    ap (λ (m : ℕ). waiting_from m disk) same ∙ sym (numbered-waiting n (done_to disk) disk)
